-- `sheet::read_sheet` meets its contract: the outcome of what the text is read as.
-- Assumes nothing.
use Prim.Native.Nat.{◌≤◌}
use mathlib.Core.Path.{sym, subst, ◌∙◌}
use Rattle.rules.specs.Rules.{slots}
use Rattle.forms.specs.declared.Entries.{Entries}
use Rattle.outcomes.proofs.SheetLaws.{entries_few, sheet_judged}
use borrow.Author.Rules.{rules}
use Rattle.sheet.proofs.read_sheet.Statement.{statement}
use Rattle.sheet.proofs.read_sheet.Tie as tie

read-records-requires : tie.Need-read_records-e-requires
read-records-requires c κs = search rules

judge-requires : tie.Need-judge-requires
judge-requires c κs = subst (λ (e : Entries). e.count ≤ slots) (sym c.read_records-e.ensures) (entries_few _)

returns : tie.Need-returns
returns c =
    let r = c.read_records-e in
    c.judge.ensures ∙ sheet_judged _ r.result r.ensures

pub read_sheet_spec : {M : Type 1} → statement M
read_sheet_spec = tie.close (tie.spec read-records-requires judge-requires returns)
