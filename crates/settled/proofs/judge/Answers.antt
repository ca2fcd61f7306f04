-- `settled::judge` meets its contract: the refusal of the form, that of the opening, or the outcome of the answers up to the count.
-- Assumes nothing.
use Rattle.std.proofs.Common.{ℕ, ◌≡◌, length, take, refl, sym, ap, subst, ◌∙◌, arith, rules, zero-add, length-take-le}
use Rattle.rules.specs.declared.Progress.{Progress}
use Rattle.rules.specs.Rules.{slots}
use Rattle.rules.specs.Refusals.{opening_refusal}
use Rattle.rules.proofs.RefusalsLaws.{none_is, some_is, some_above}
use Rattle.rules.proofs.SearchLaws.{CountedAt}
use Rattle.outcomes.specs.Sheet.{leads_to, judged}
use Rattle.outcomes.proofs.SheetLaws.{settled_by, settled_is, Below, below, answers_counted, outcome_accepted, outcome_refused}
use Rattle.settled.proofs.judge.Goals as goal

pub returns-in-Err : goal.returns-in-Err
returns-in-Err c = c.refuse.ensures ∙ ap (judged c.args.e) (sym c.in-Err.is)

pub returns-in-Some : goal.returns-in-Some
returns-in-Some c =
    let f = c.in-Some.ensures in
    c.refuse-in-Some.ensures
    ∙ outcome_refused c.args.e c.in-Some.number (some_is _ _ f) (some_above _ _ f)
    ∙ ap (judged c.args.e) (sym c.in_default.is)

-- the answers are walked from an opening that no refusal meets
pub told-report-requires : goal.told-report-requires
told-report-requires c =
    let accepted : opening_refusal c.args.e.opening ≡ 0 = none_is _ c.in_default-opening_refusal.ensures in
    search (accepted, rules)

pub settle-requires : goal.settle-requires
settle-requires c =
    let e = c.args.e in
    let long_points : length e.points ≡ slots = search rules in
    let long_values : length e.values ≡ slots = search rules in
    let points : length (take e.count e.points) ≡ e.count = length-take-le e.count e.points (omega (arith, long_points, c.requires)) in
    let values : length (take e.count e.values) ≡ e.count = length-take-le e.count e.values (omega (arith, long_values, c.requires)) in
    let counted : CountedAt e.count (leads_to e) =
    subst (λ (n : ℕ). CountedAt n (leads_to e)) (zero-add _ ∙ points)
    (answers_counted e.opening 0 Progress.Begun (take e.count e.points) (take e.count e.values) (points ∙ sym values) refl)
    in
    (subst (Below e.count) (sym c.told-report.ensures) (below _ _ (leads_to e) counted), c.requires)

pub returns : goal.returns
returns c =
    let e = c.args.e in
    let accepted : opening_refusal e.opening ≡ 0 = none_is _ c.in_default-opening_refusal.ensures in
    c.settle.ensures
    ∙ ap (settled_by e) c.told-report.ensures
    ∙ settled_is e (leads_to e)
    ∙ outcome_accepted e accepted
    ∙ ap (judged e) (sym c.in_default.is)
