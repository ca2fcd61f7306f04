-- The pairs among the positions passed are counted.
-- Assumes nothing.
use Rattle.std.proofs.Common.{◌≡◌, length}
use Rattle.surveying.proofs.SurveyLaws.{crossings_to}
use Rattle.survey.proofs.count_pairs.Given as goal

abbrev pub invariant-loop-i : goal.invariant-loop-i
invariant-loop-i l = l.found ≡ length (crossings_to l.values l.i)
