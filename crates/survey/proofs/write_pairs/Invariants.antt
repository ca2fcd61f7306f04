-- The pairs among the positions passed stand at the list's beginning, and the rest of it is as it was.
-- Assumes nothing.
use Rattle.surveying.proofs.SurveyLaws.{PairsWritten}
use Rattle.survey.proofs.write_pairs.Given as goal

abbrev pub invariant-loop-at : goal.invariant-loop-at
invariant-loop-at l = PairsWritten l.fn.lowest l.fn.pitch l.values l.fn.list l.list l.at l.n l.point
