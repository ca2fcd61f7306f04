-- `turns::start_after` meets its contract: after a dryer the next number, else 0.
-- Assumes nothing.
use Rattle.std.proofs.Common.{lt-ltb, le-ltb, arith}
use Rattle.dispatching.specs.Dispatching.{dryers}
use Rattle.turns.proofs.start_after.Goals as goal

pub returns-then-last-lt-DRYERS : goal.returns-then-last-lt-DRYERS
returns-then-last-lt-DRYERS c = simp (lt-ltb c.args.last dryers (omega arith))

pub returns-else-last-lt-DRYERS : goal.returns-else-last-lt-DRYERS
returns-else-last-lt-DRYERS c = simp (le-ltb c.args.last dryers (omega arith))
