-- `survey::check` meets its contract: the tests in their order, on the numbers as they were passed.
-- Assumes nothing.
use Rattle.std.proofs.Common.{◌≡◌, sym, ap₂, ◌∙◌, Bool, ℕ, length, arith}
use Rattle.std.proofs.Math.IntN.{ℤ, pos}
use Rattle.std.proofs.lemmas.List.Quantifiers.{position-Some}
use mir.Syntax.{w32}
use mir.Val.{SFits, to_z, of_z}
use Rattle.integers.proofs.Bounds.{read}
use Rattle.rules.specs.Refusals.{too_large}
use Rattle.surveying.specs.Survey.{is_misplaced}
use Rattle.surveying.proofs.SurveyLaws.{surveyable, check_large, check_passed}
use Rattle.survey.proofs.check.Goals as goal

-- the first test is that of the numbers as they were passed
tested : {lowest pitch : ℤ} (n : ℕ) {b : Bool} → SFits w32 lowest → SFits w32 pitch
    → b ≡ is_misplaced (to_z w32 (of_z w32 lowest)) (to_z w32 (of_z w32 pitch)) n → is_misplaced lowest pitch n ≡ b
tested n f g e = sym (e ∙ ap₂ (λ (a q : ℤ). is_misplaced a q n) (read f) (read g))

pub overflow_cast-result : goal.overflow_cast-result
overflow_cast-result c =
    let placed = tested (length c.args.values.now) c.ranges.lowest c.ranges.pitch c.if-is_misplaced.ensures in
    let found = sym c.first_large.ensures ∙ c.in-Some.is in
    omega (
      arith,
      (position-Some too_large c.args.values.now c.in-Some.i (pos 0) found).0,
      (surveyable c.args.lowest c.args.pitch (length c.args.values.now) placed).few,
    )

pub returns-in-Some : goal.returns-in-Some
returns-in-Some c =
    let placed = tested (length c.args.values.now) c.ranges.lowest c.ranges.pitch c.if-is_misplaced.ensures in
    check_large _ _ _ placed _ (sym c.first_large.ensures ∙ c.in-Some.is)

pub returns-in-None : goal.returns-in-None
returns-in-None c =
    let placed = tested (length c.args.values.now) c.ranges.lowest c.ranges.pitch c.if-is_misplaced.ensures in
    check_passed _ _ _ placed (sym c.first_large.ensures ∙ c.in-None.is)
