-- The invariant of the loop of `replay::make_calls`: i of the calls have led to the search and the rows as they stand.
-- Assumes nothing.
use Rattle.replay.specs.CallsLaws.{Made}
use Rattle.replay.proofs.make_calls.Given as goal

abbrev pub invariant-loop-i : goal.invariant-loop-i
invariant-loop-i l = Made l.fn.begun l.kinds l.points l.values l.fn.rows l.i l.search l.rows
