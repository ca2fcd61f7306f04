-- `walk::walk_on` meets its contract: past the stop an answer is refused, at it the stop is told, where none is left the next point is
-- called for, and else the answer is refused or entered, and the invariant holds of one answer more.
-- Assumes nothing.
use Rattle.std.proofs.Common.{◌≡◌, refl, sym, ap, subst, ◌∙◌, ◌+◌, false, length, take, ◌++◌, FitsSigned, w32, rules}
use Rattle.integers.proofs.Bounds.{read}
use Rattle.rules.specs.declared.Bracket.{Bracket}
use Rattle.rules.specs.declared.Progress.{Progress}
use Rattle.rules.specs.Rules.{stopped_of, next_of, advance_of}
use Rattle.rules.specs.Refusals.{if_any, answer_refusal, too_large}
use Rattle.rules.specs.Search.{progress_of}
use Rattle.rules.proofs.RefusalsLaws.{none_is, some_is, some_above}
use Rattle.brackets.specs.CountableLaws.{countable}
use Rattle.answers.specs.Answers.{other_than, other_from, Led}
use Rattle.answers.specs.AnswersLaws.{other_going, led_not, led_entered, told_refused, told_late, told_stop, told_next}
use Rattle.walk.proofs.walk_on.Goals.{At-loop-o, After-answer_refusal}
use Rattle.walk.proofs.walk_on.Goals as goal

-- at every round the code's bracket, and with it its running number, is the one of which `Run.streak` speaks
kept : (l : At-loop-o)
    → progress_of l.args.o (take l.loop-o.i (l.args.values.now ++ l.args.tail.now)) ≡ Progress.Bracketed l.loop-o.k
kept l = l.loop-o.invariant.reached refl

pub returns-then-i-total : goal.returns-then-i-total
returns-then-i-total c =
    told_late _ _ _ _ c.loop-o.i c.loop-o.k c.loop-o.invariant c.requires.0 c.if-i-total.true
    (sym c.stopped.ensures ∙ c.if-stopped.true)

pub returns-then-stopped : goal.returns-then-stopped
returns-then-stopped c =
    c.stop_report.ensures
    ∙ told_stop _ _ _ _ c.loop-o.i c.loop-o.k c.loop-o.invariant c.requires.0 c.if-i-total.false
    (sym c.stopped.ensures ∙ c.if-stopped.true)

pub next_point-point-requires : goal.next_point-point-requires
next_point-point-requires c =
    let s = c.loop-o.invariant.sound in
    record { opened = s.0; sound = s.1; going = sym c.stopped.ensures ∙ c.if-stopped.false }

pub returns-then-total-i : goal.returns-then-total-i
returns-then-total-i c =
    told_next _ _ _ _ c.loop-o.i c.loop-o.k c.loop-o.invariant c.requires.0 c.if-total-i.true
    (sym c.stopped.ensures ∙ c.if-stopped.false) _ c.next_point-point.ensures

-- an answer tried: it is answer i, its point is tried against the one called for, and its refusal is the first that applies
other_is : (c : After-answer_refusal)
    → c.other_at-other.result ≡ other_from c.args.o (length c.args.values.now) c.args.points.now c.loop-o.i (Progress.Bracketed c.loop-o.k)
other_is c =
    c.other_at-other.ensures ∙ ap (other_than _ _ _) c.next_point-point.ensures
    ∙ other_going _ _ _ _ _ (sym c.stopped.ensures ∙ c.if-stopped.false)

refusal : (c : After-answer_refusal)
    → c.answer_refusal.result
    ≡ if_any (answer_refusal (stopped_of c.args.o c.loop-o.k) c.other_at-other.result (too_large c.value_at-v.result) false)
refusal c =
    let going : stopped_of c.args.o c.loop-o.k ≡ false = sym c.stopped.ensures ∙ c.if-stopped.false in
    let f : FitsSigned w32 c.value_at-v.result = search rules in
    c.answer_refusal.ensures ∙ rw (c.too_large.ensures, read f, going)

pub returns-in-Some : goal.returns-in-Some
returns-in-Some c =
    let l = c.loop-o in
    let t = (goal.at.returns-in-Some c).After-answer_refusal in
    let e = sym c.in-Some.is ∙ refusal t in
    told_refused _ _ _ _ (l.i + 1) _ _
    (led_not _ _ _ _ l.i _ l.invariant refl c.if-total-i.false c.requires.0 _ _ _ (other_is t) c.value_at-v.ensures (some_is _ _ e) (some_above _ _ e))

pub advance-k-requires : goal.advance-k-requires
advance-k-requires c = let s = c.loop-o.invariant.sound in countable s.0 s.1

pub loop-o-preserved : goal.loop-o-preserved
loop-o-preserved c =
    let a = c.args in
    let l = c.loop-o in
    let t = (goal.at.loop-o-preserved c).After-answer_refusal in
    let f : FitsSigned w32 c.value_at-v.result = search rules in
    let e : c.advance-k.result ≡ advance_of l.k (record { point = next_of a.o l.k; value = c.value_at-v.result }) =
    c.advance-k.ensures ∙ rw (c.next_point-point.ensures, read f) in
    subst (λ (k : Bracket). Led a.o a.values.now a.points.now a.tail.now (l.i + 1) (Progress.Bracketed k)) (sym e)
    (led_entered _ _ _ _ l.i _ l.invariant refl c.if-total-i.false c.requires.0 _ _ _ (other_is t) c.value_at-v.ensures refl
    (none_is _ (sym c.in_default.is ∙ refusal t)))
