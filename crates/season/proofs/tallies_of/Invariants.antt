-- The tallies are those of the outcomes read so far, and small.
-- Assumes nothing.
use Rattle.seasons.proofs.RunLaws.{Tallied}
use Rattle.season.proofs.tallies_of.Given as goal

abbrev pub invariant-loop-i : goal.invariant-loop-i
invariant-loop-i l = Tallied l.numbers l.i l.tallies
