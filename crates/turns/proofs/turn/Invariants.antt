-- The invariant of the loop of `turns::turn`: the turn goes to the first that goes on among those still to be asked.
-- Assumes nothing.
use Rattle.dispatching.proofs.DispatchingLaws.{Asking}
use Rattle.turns.proofs.turn.Given as goal

abbrev pub invariant-loop-i : goal.invariant-loop-i
invariant-loop-i l = Asking l.d l.first l.i
