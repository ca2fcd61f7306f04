-- `answers::first_two` meets its contract: none, one or two answers are taken, each refused or entered.
-- Assumes nothing.
use Rattle.std.proofs.Common.{◌≡◌, refl, sym, subst, ◌∙◌, None, length, false, FitsSigned, w32, arith, rules}
use Rattle.integers.proofs.Bounds.{read}
use Rattle.rules.specs.declared.Progress.{Progress}
use Rattle.rules.specs.Refusals.{if_any, answer_refusal, too_large}
use Rattle.rules.specs.Search.{answered_at}
use Rattle.rules.proofs.RefusalsLaws.{none_is, some_is, some_above}
use Rattle.answers.specs.Answers.{other_than, other_from, Led, Begins}
use Rattle.answers.specs.AnswersLaws.{led_begun, led_unopened, led_on, led_refused_on, led_not, led_entered, led_tried, second_ended}
use Rattle.answers.proofs.first_two.Goals.{After-answer_refusal}
use Rattle.answers.proofs.first_two.Goals as goal

pub returns-in-Some : goal.returns-in-Some
returns-in-Some c =
    let e = c.in-Some.ensures in
    let l = led_unopened _ _ _ _ c.in-Some.number (some_is _ _ e) (some_above _ _ e) in
    record { led = led_refused_on _ _ _ _ 0 _ l 2 refl; ended = tt }

pub returns-then-total-eq0 : goal.returns-then-total-eq0
returns-then-total-eq0 c =
    let b = led_begun _ _ _ _ (none_is _ c.in_default.ensures) in
    record { led = led_on _ _ _ _ 0 _ b 2 (omega arith) (omega arith) c.requires; ended = omega arith }

-- ---- the first answer

other_is : (c : After-answer_refusal)
    → c.other_at-other.result ≡ other_from c.args.o (length c.args.values.now) c.args.points.now 0 Progress.Begun
unfolding other_than other_from
other_is c =
    let f : FitsSigned w32 c.args.o.first = search rules in
    c.other_at-other.ensures ∙ rw (c.unsigned_abs.ensures.value, read f)

refusal : (c : After-answer_refusal)
    → c.answer_refusal.result ≡ if_any (answer_refusal false c.other_at-other.result (too_large c.value_at-u.result) false)
refusal c =
    let f : FitsSigned w32 c.value_at-u.result = search rules in
    c.answer_refusal.ensures ∙ rw (c.too_large.ensures, read f)

pub returns-in-Some-answer_refusal : goal.returns-in-Some-answer_refusal
returns-in-Some-answer_refusal c =
    let t = (goal.at.returns-in-Some-answer_refusal c).After-answer_refusal in
    let e = sym c.in-Some-answer_refusal.is ∙ refusal t in
    let l =
    led_not _ _ _ _ 0 _ (led_begun _ _ _ _ (none_is _ c.in_default.ensures)) refl (omega arith) c.requires _ _ _
    (other_is t) c.value_at-u.ensures (some_is _ _ e) (some_above _ _ e) in
    record { led = led_refused_on _ _ _ _ 1 _ l 2 refl; ended = tt }

entered : (c : After-answer_refusal) → c.answer_refusal.result ≡ None
    → Led c.args.o c.args.values.now c.args.points.now c.args.tail.now 1 (Progress.First c.value_at-u.result)
entered c e =
    led_entered _ _ _ _ 0 _ (led_begun _ _ _ _ (none_is _ c.in_default.ensures)) refl (omega arith) c.requires _ _ _
    (other_is c) c.value_at-u.ensures refl (none_is _ (sym e ∙ refusal c))

pub returns-then-total-eq1 : goal.returns-then-total-eq1
returns-then-total-eq1 c =
    let f : FitsSigned w32 c.value_at-u.result = search rules in
    let l = entered (goal.at.returns-then-total-eq1 c).After-answer_refusal c.in_default-answer_refusal.is in
    record { led = rw (read f) (led_on _ _ _ _ 1 _ l 2 (omega arith) (omega arith) c.requires); ended = omega arith }

-- ---- the second

pub returns : goal.returns
unfolding other_than other_from
returns c =
    let a = c.args in
    let f : FitsSigned w32 c.value_at-u.result = search rules in
    let g : FitsSigned w32 c.value_at-v.result = search rules in
    let h : FitsSigned w32 a.o.second = search rules in
    let other : c.other_at-other-2.result ≡ other_from a.o (length a.values.now) a.points.now 1 (Progress.First c.value_at-u.result) =
    c.other_at-other-2.ensures ∙ rw (c.unsigned_abs-2.ensures.value, read h) in
    let e : c.offer_second.result ≡ answered_at a.o (Progress.First c.value_at-u.result) c.other_at-other-2.result c.value_at-v.result =
    c.offer_second.ensures ∙ rw (read f, read g) in
    let l = entered (goal.at.returns c).After-answer_refusal c.in_default-answer_refusal.is in
    subst (Begins _ _ _ _) (sym e)
    (record {
      led = led_tried _ _ _ _ 1 _ l refl (omega arith) c.requires _ _ _ other c.value_at-v.ensures refl;
      ended = second_ended a.o _ c.value_at-u.result _ c.value_at-v.result;
    })
