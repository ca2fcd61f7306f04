-- `dispatch::one_more` meets its contract: below the ceiling one more, else the count as it was.
-- Assumes nothing.
use Rattle.std.proofs.Common.{lt-ltb, le-ltb, arith}
use Rattle.dispatching.specs.Dispatching.{ceiling, raised}
use Rattle.dispatch.proofs.one_more.Goals as goal

pub returns-then-count-lt-CEILING : goal.returns-then-count-lt-CEILING
unfolding raised
returns-then-count-lt-CEILING c = simp (lt-ltb c.args.count ceiling (omega arith))

pub returns-else-count-lt-CEILING : goal.returns-else-count-lt-CEILING
unfolding raised
returns-else-count-lt-CEILING c = simp (le-ltb c.args.count ceiling (omega arith))
