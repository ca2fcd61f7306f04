-- The invariant of the loop of `composing::answers_into`: what has been written behind `at`, with what is left, comes to all of it.
-- Assumes nothing.
use Rattle.composing.specs.SoFar.{SoFar}
use Rattle.composing.proofs.answers_into.Given as goal

abbrev pub invariant-loop-i : goal.invariant-loop-i
invariant-loop-i l = SoFar l.o l.values l.fn.out l.at l.out l.end l.i
