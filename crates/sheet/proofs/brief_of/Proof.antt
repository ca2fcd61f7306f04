-- `sheet::brief_of` meets its contract: parts of what the text is read as, and of its outcome.
-- Assumes nothing.
use Prim.Native.Nat.{◌≤◌}
use mathlib.Core.Path.{sym, ap, subst, ◌∙◌}
use Rattle.rules.specs.Rules.{slots}
use Rattle.held.specs.declared.Entered.{Entered}
use Rattle.forms.specs.declared.Entries.{Entries}
use Rattle.outcomes.proofs.SheetLaws.{entries_few, sheet_judged}
use borrow.Author.Rules.{rules}
use Rattle.sheet.proofs.brief_of.Statement.{statement}
use Rattle.sheet.proofs.brief_of.Tie as tie

read-records-requires : tie.Need-read_records-read-requires
read-records-requires c κs = search rules

judge-requires : tie.Need-judge-outcome-requires
judge-requires c κs = subst (λ (e : Entries). e.count ≤ slots) (sym c.read_records-read.ensures) (entries_few _)

returns : tie.Need-returns
returns c =
    let r = c.read_records-read in
    let judged = c.judge-outcome.ensures ∙ sheet_judged _ r.result r.ensures in
    (ap (λ (e : Entries). e.form) r.ensures, ap (λ (e : Entries). e.opening) r.ensures, ap (λ (e : Entered). e.report) judged)

pub brief_of_spec : {M : Type 1} → statement M
brief_of_spec = tie.close (tie.spec read-records-requires judge-requires returns)
