-- `survey::survey` meets its contract: the tests in their order, and the list is written to only where none applies.
-- Assumes nothing.
use Rattle.std.proofs.Common.{◌≡◌, sym, ap, ap₂, ◌∙◌, ℕ, ◌<◌, ◌≤◌, ◌-◌, List, ◌++◌, length, drop, Result, Ok, Err, arith, rules}
use Rattle.std.proofs.Math.IntN.{ℤ, pos, nat_abs}
use mir.Syntax.{w32}
use mir.Val.{SFits, to_z, of_z}
use Rattle.integers.proofs.Bounds.{read}
use Rattle.rules.specs.declared.Refusal.{Refusal}
use Rattle.surveying.specs.Survey.{crossings_of, lower_points}
use Rattle.surveying.specs.Inner.{checked_of}
use Rattle.surveying.proofs.SurveyLaws.{surveyable, in_numbers, crossings_at_most, refused_by, Passed, passed, says_short, says_found, list_after}
use Rattle.surveying.proofs.ClaimsHold.{every_survey}
use Rattle.survey.proofs.survey.Goals as goal

-- ---- what is known once the check is passed

-- the check is of the numbers as they were passed
checked : {lowest pitch : ℤ} (vs : List ℤ) {r : Result (Unit {0}) Refusal} → SFits w32 lowest → SFits w32 pitch
    → r ≡ checked_of (to_z w32 (of_z w32 lowest)) (to_z w32 (of_z w32 pitch)) vs → checked_of lowest pitch vs ≡ r
checked vs f g e = sym (e ∙ ap₂ (λ (a q : ℤ). checked_of a q vs) (read f) (read g))

-- a magnitude is the number itself where that is not negative
as_number : {z : ℤ} {m : ℕ} → SFits w32 z → m ≡ nat_abs (to_z w32 (of_z w32 z)) → z ≡ pos (nat_abs z) → pos m ≡ z
as_number f e p = ap pos (e ∙ ap nat_abs (read f)) ∙ sym p

pub returns-in_err-check : goal.returns-in_err-check
returns-in_err-check c =
    let told = checked c.args.values.now c.ranges.lowest c.ranges.pitch c.check.ensures in
    let t = refused_by _ _ c.args.values.now _ (length c.args.list.now) (told ∙ c.in_err-check.was) in
    let same : c.from_residual.result ≡ Err c.in_err-check.field-0.0 = search rules in
    record { value = same ∙ sym t; list_after = sym (list_after _ _ _ _ _ t); every_survey = every_survey }

-- of a survey that the check does not refuse
going : {lowest pitch : ℤ} (vs : List ℤ) {r : Result (Unit {0}) Refusal} {u : Unit {0}} → SFits w32 lowest → SFits w32 pitch
    → r ≡ checked_of (to_z w32 (of_z w32 lowest)) (to_z w32 (of_z w32 pitch)) vs → r ≡ Ok u → Passed lowest pitch vs
going vs f g e h = passed _ _ vs (checked vs f g e ∙ h)

pub count_pairs-n-requires : goal.count_pairs-n-requires
count_pairs-n-requires c =
    let p = going c.args.values.now c.ranges.lowest c.ranges.pitch c.check.ensures c.in_ok-check.was in
    omega (arith, (surveyable c.args.lowest c.args.pitch (length c.args.values.now) p.placed).enough)

pub returns-then-list-n : goal.returns-then-list-n
returns-then-list-n c =
    let vs = c.args.values.now in
    let p = going vs c.ranges.lowest c.ranges.pitch c.check.ensures c.in_ok-check.was in
    let less : length c.args.list.now < length (crossings_of vs) = omega arith in
    let t = says_short _ _ vs (length c.args.list.now) p.placed p.in_range less in
    record { value = sym t; list_after = sym (list_after _ _ _ _ _ t); every_survey = every_survey }

pub write_pairs-requires-clause-surveyable : goal.write_pairs-requires-clause-surveyable
write_pairs-requires-clause-surveyable c =
    let p = going c.args.values.now c.ranges.lowest c.ranges.pitch c.check.ensures c.in_ok-check.was in
    let placed = surveyable c.args.lowest c.args.pitch (length c.args.values.now) p.placed in
    let numbers = in_numbers _ _ _ placed in
    rw (as_number c.ranges.lowest c.unsigned_abs.ensures.value numbers.first, as_number c.ranges.pitch c.unsigned_abs-2.ensures.value numbers.step) placed

pub overflow_cast-result : goal.overflow_cast-result
overflow_cast-result c =
    let vs = c.args.values.now in
    let p = going vs c.ranges.lowest c.ranges.pitch c.check.ensures c.in_ok-check.was in
    omega (arith, crossings_at_most vs (length vs - 1), (surveyable c.args.lowest c.args.pitch (length vs) p.placed).few)

pub returns : goal.returns
returns c =
    let vs = c.args.values.now in
    let list = c.args.list.now in
    let p = going vs c.ranges.lowest c.ranges.pitch c.check.ensures c.in_ok-check.was in
    let numbers = in_numbers _ _ _ (surveyable c.args.lowest c.args.pitch (length vs) p.placed) in
    let enough : length (crossings_of vs) ≤ length list = omega arith in
    let t = says_found _ _ vs (length list) p.placed p.in_range enough in
    let written = c.write_pairs.ensures
    ∙ ap₂ (λ (a q : ℤ). lower_points a q (crossings_of vs) ++ drop (length (crossings_of vs)) list)
    (as_number c.ranges.lowest c.unsigned_abs.ensures.value numbers.first) (as_number c.ranges.pitch c.unsigned_abs-2.ensures.value numbers.step) in
    record {
      value = ap Ok c.count_pairs-n.ensures ∙ sym t;
      list_after = written ∙ sym (list_after _ _ _ _ _ t);
      every_survey = every_survey;
    }
