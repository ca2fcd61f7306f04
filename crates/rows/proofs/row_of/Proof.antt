-- `rows::row_of` meets its contract: each arm says the definition's case.
-- Assumes nothing.
use mathlib.Core.Path.{sym, ap}
use borrow.Author.Rules.{rules}
use Rattle.rules.specs.Rows.{row_of}
use Rattle.rows.proofs.row_of.Statement.{statement}
use Rattle.rows.proofs.row_of.Tie as tie

enum-known-report : tie.Need-enum_known-report
enum-known-report c = search rules

enum-known-report-2 : tie.Need-enum_known-report-in-Stop-1
enum-known-report-2 c = search rules

enum-known-report-3 : tie.Need-enum_known-report-in-Refused-1
enum-known-report-3 c = search rules

returns : tie.Need-returns-in-Next
returns c = sym (ap row_of c.in-Next.is)

returns-2 : tie.Need-returns-in-Stop
returns-2 c = sym (ap row_of c.in-Stop.is)

returns-3 : tie.Need-returns-in-Refused
returns-3 c = sym (ap row_of c.in-Refused.is)

pub row_of_spec : {M : Type 1} → statement M
row_of_spec = tie.close (tie.spec enum-known-report enum-known-report-2 enum-known-report-3 returns returns-2 returns-3)
