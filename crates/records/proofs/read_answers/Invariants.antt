-- The invariant of the loop of `records::read_answers`: the entries of the whole text are those so far, continued over the records of
-- the rest. A turn takes one record off the rest, which has a byte or more: the measure is the length of the rest.
-- Assumes nothing.
use Rattle.std.proofs.Common.{◌≡◌, ◌≤◌, length}
use Rattle.rules.specs.Rules.{slots}
use Rattle.forms.specs.Text.{records_of}
use Rattle.forms.specs.Entries.{answers_from}
use Rattle.records.proofs.read_answers.Given as goal

abbrev pub invariant-loop-rest : goal.invariant-loop-rest
invariant-loop-rest l =
    (l.e.count ≤ slots) × (length l.e.points ≡ slots) × (length l.e.values ≡ slots)
    × (answers_from l.initial.e (records_of l.text) ≡ answers_from l.e (records_of l.rest))

abbrev pub decreases-loop-rest : goal.decreases-loop-rest
decreases-loop-rest l = length l.rest
