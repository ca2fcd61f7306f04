-- The loop of `walk::walk_on`. Its invariant: this bracket, with its running number, is that of the search over the values taken so far;
-- and where all the answers lead is where those that are left lead from it.
-- Assumes nothing.
use Rattle.std.proofs.Common.{◌+◌, ◌-◌, length}
use Rattle.rules.specs.declared.Progress.{Progress}
use Rattle.answers.specs.Answers.{Led}
use Rattle.walk.proofs.walk_on.Given as goal

abbrev pub invariant-loop-o : goal.invariant-loop-o
invariant-loop-o l = Led l.o l.values l.points l.tail l.i (Progress.Bracketed l.k)

abbrev pub decreases-loop-o : goal.decreases-loop-o
decreases-loop-o l = length l.values + length l.tail - l.i
