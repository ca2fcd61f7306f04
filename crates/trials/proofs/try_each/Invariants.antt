-- `trials::try_each` ends: each turn leaves fewer bytes.
use Rattle.std.proofs.Common.{length}
use Rattle.trials.proofs.try_each.Given as goal

abbrev pub decreases-loop-rest : goal.decreases-loop-rest
decreases-loop-rest l = length l.rest
