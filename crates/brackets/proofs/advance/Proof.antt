-- `brackets::advance` meets its contract: x is the better end where it is at least as close to zero as its partner.
-- Assumes nothing.
use mathlib.Core.Path.{sym, ◌∙◌}
use Rattle.rules.specs.Rules.{advance_of}
use borrow.Author.Rules.{rules}
use Rattle.brackets.proofs.advance.Statement.{statement}
use Rattle.brackets.proofs.advance.Tie as tie

partner-requires : tie.Need-partner-p-requires
partner-requires c κs = search rules

closer-requires : tie.Need-closer-requires
closer-requires c κs = search rules

renewed-requires : tie.Need-renewed-requires
renewed-requires c κs = search rules

renewed-requires-2 : tie.Need-renewed-requires-else-closer
renewed-requires-2 c κs = search rules

returns : tie.Need-returns-then-closer
unfolding advance_of
returns c =
    let p = c.before.before in
    simp (rw p.before.partner-p.ensures at (sym p.closer.ensures) ∙ c.before.if-closer.true)
    (c.renewed.ensures ∙ rw p.before.partner-p.ensures)

returns-2 : tie.Need-returns-else-closer
unfolding advance_of
returns-2 c =
    let p = c.before.before in
    simp (rw p.before.partner-p.ensures at (sym p.closer.ensures) ∙ c.before.if-closer.false)
    (c.renewed-else-closer.ensures ∙ rw p.before.partner-p.ensures)

pub advance_spec : {M : Type 1} → statement M
advance_spec =
    tie.close
    (tie.spec
    partner-requires
    closer-requires
    renewed-requires
    renewed-requires-2
    returns
    returns-2)
