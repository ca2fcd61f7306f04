-- `records::read_answers` meets its contract: a record that is read is entered and taken off the rest, and the invariant holds of the rest;
-- where the slots are full, or the record is malformed, the text is refused; and after the loop no record is left.
-- Assumes nothing.
use Rattle.std.proofs.Common.{◌≡◌, sym, ◌∙◌, arith, rules}
use lib.ListN.{length-set}
use mir.Syntax.{w32}
use mir.Val.{to_z, of_z}
use borrow.Author.Rules.{part_to_end}
use Rattle.forms.specs.Entries.{opened, entered}
use Rattle.scanning.specs.First.{record_some, record_le}
use Rattle.scanning.specs.Rest.{AnswerRead, answer_read, answer_malformed, answers_end, answers_full, answers_wrong, answers_entered}
use Rattle.records.proofs.read_answers.Goals as goal

pub returns-then-k-eq-SLOTS : goal.returns-then-k-eq-SLOTS
unfolding opened
returns-then-k-eq-SLOTS c =
    let l = c.loop-rest in
    c.refuse-e.ensures ∙ sym (l.invariant.3 ∙ answers_full _ _ c.loop-rest-test.true c.if-k-eq-SLOTS.true)

-- a record that was read ends within the rest
pub slice_bounds-rest-count : goal.slice_bounds-rest-count
slice_bounds-rest-count c =
    let l = c.loop-rest in
    let q = c.in-Some.answer in
    let taken : AnswerRead l.rest.now q.value.0 q.value.1 q.next = answer_read _ c.scan_pair.ensures c.in-Some.is in
    omega (arith, record_le l.rest.now)

pub slice_bounds-rest-start : goal.slice_bounds-rest-start
slice_bounds-rest-start c =
    let l = c.loop-rest in
    let q = c.in-Some.answer in
    let taken : AnswerRead l.rest.now q.value.0 q.value.1 q.next = answer_read _ c.scan_pair.ensures c.in-Some.is in
    omega (arith, record_le l.rest.now)

pub loop-rest-smaller : goal.loop-rest-smaller
loop-rest-smaller c =
    let l = c.loop-rest in
    let q = c.in-Some.answer in
    let taken : AnswerRead l.rest.now q.value.0 q.value.1 q.next = answer_read _ c.scan_pair.ensures c.in-Some.is in
    omega (arith, record_some l.rest.now c.loop-rest-test.true)

pub loop-rest-preserved : goal.loop-rest-preserved
unfolding entered
loop-rest-preserved c =
    let l = c.loop-rest in
    let rest = l.rest.now in
    let q = c.in-Some.answer in
    let taken : AnswerRead rest q.value.0 q.value.1 q.next = answer_read _ c.scan_pair.ensures c.in-Some.is in
    let x : to_z w32 (of_z w32 q.value.0) ≡ q.value.0 = search rules in
    let y : to_z w32 (of_z w32 q.value.1) ≡ q.value.1 = search rules in (
      omega arith,
      simp length-set l.invariant.1,
      simp length-set l.invariant.2,
      simp (x, y)
          (l.invariant.3
          ∙ answers_entered _ rest c.loop-rest-test.true c.if-k-eq-SLOTS.false taken (part_to_end rest q.next)),
    )

pub returns-in-None : goal.returns-in-None
unfolding opened
returns-in-None c =
    let l = c.loop-rest in
    c.refuse-e-in-None.ensures
    ∙ sym (l.invariant.3
    ∙ answers_wrong _ _ c.loop-rest-test.true c.if-k-eq-SLOTS.false (answer_malformed _ c.scan_pair.ensures c.in-None.is))

pub returns-after-loop-rest : goal.returns-after-loop-rest
unfolding opened
returns-after-loop-rest c = let l = c.loop-rest in sym (l.invariant.3 ∙ answers_end _ _ c.loop-rest-test.false)
