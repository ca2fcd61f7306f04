-- `brackets::start` meets its contract: each arm is the definition's.
-- Assumes nothing.
use mathlib.Core.Path.{sym, ◌∙◌}
use Rattle.rules.specs.Rules.{start_of}
use borrow.Author.Rules.{rules}
use Rattle.brackets.proofs.start.Statement.{statement}
use Rattle.brackets.proofs.start.Tie as tie

closer-requires : tie.Need-closer-requires
closer-requires c κs = search rules

pair-requires : tie.Need-pair-requires
pair-requires c κs = search rules

returns : tie.Need-returns-then-closer
unfolding start_of
returns c = c.pair.ensures ∙ simp (sym c.before.before.closer.ensures ∙ c.before.if-closer.true)

pair-requires-2 : tie.Need-pair-requires-else-closer
pair-requires-2 c κs = search rules

returns-2 : tie.Need-returns-else-closer
unfolding start_of
returns-2 c = c.pair-else-closer.ensures ∙ simp (sym c.before.before.closer.ensures ∙ c.before.if-closer.false)

pub start_spec : {M : Type 1} → statement M
start_spec = tie.close (tie.spec closer-requires pair-requires pair-requires-2 returns returns-2)
