-- `old_sheets::read_old_sheet` meets its contract: the outcome of what the text is read as, with 1 in place of method 0.
-- Assumes nothing.
use Rattle.std.proofs.Common.{◌≤◌, sym, ap, subst, ◌∙◌, arith}
use Rattle.rules.specs.declared.Opening.{Opening}
use Rattle.rules.specs.Rules.{slots}
use Rattle.forms.specs.declared.Entries.{Entries}
use Rattle.outcomes.specs.Sheet.{judged}
use Rattle.outcomes.proofs.SheetLaws.{entries_few}
use Rattle.changeover.specs.Changeover.{old_default}
use Rattle.changeover.proofs.UnderLaws.{under_judged}
use Rattle.changeover.proofs.ClaimsHold.{under}
use Rattle.old_sheets.proofs.read_old_sheet.Goals as goal

pub judge-requires : goal.judge-requires
judge-requires c =
    let few = subst (λ (e : Entries). e.count ≤ slots) (sym c.read_records-e.ensures) (entries_few _) in
    omega (arith, few)

pub returns : goal.returns
returns c =
    let e = c.read_records-e.result in
    let named : Opening → Entries = λ o. record { form = e.form; opening = o; count = e.count; points = e.points; values = e.values } in
    let as_named = ap (λ (o : Opening). judged (named o) e.form) c.under_old_default-e.ensures in
    record { value = c.judge.ensures ∙ as_named ∙ under_judged old_default _ e c.read_records-e.ensures; under = under }
