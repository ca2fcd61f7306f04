-- The invariant of the loop of `dispatch_runs::make_calls`: i of the calls have led to the dispatcher and the rows as they stand.
-- Assumes nothing.
use Rattle.dispatch_runs.specs.RunsLaws.{Made}
use Rattle.dispatch_runs.proofs.make_calls.Given as goal

abbrev pub invariant-loop-i : goal.invariant-loop-i
invariant-loop-i l = Made l.fn.d l.kinds l.dryers l.numbers l.fn.rows l.i l.next l.rows
