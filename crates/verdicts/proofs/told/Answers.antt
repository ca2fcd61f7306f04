-- `verdicts::told` meets its contract: a count above the slots is refused whatever comes after; else the values up to it are walked, and
-- then the answers.
-- Assumes nothing.
use Rattle.std.proofs.Common.{refl, lt-ltb, le-ltb}
use Rattle.rules.specs.declared.Progress.{Progress}
use Rattle.rules.specs.Rules.{slots}
use Rattle.rules.specs.Search.{report_at}
use Rattle.rules.proofs.SearchLaws.{answers_stay}
use Rattle.verdicts.specs.Judged.{standing_by}
use Rattle.verdicts.proofs.told.Goals as goal

pub returns-then-count-gt-SLOTS : goal.returns-then-count-gt-SLOTS
unfolding report_at standing_by
returns-then-count-gt-SLOTS c =
    let s = c.args in
    simp (lt-ltb slots _ c.if-count-gt-SLOTS.true, answers_stay s.opening (Progress.Refused 9 0) s.points.now s.values.now refl)

pub returns : goal.returns
unfolding standing_by
returns c = simp (le-ltb slots _ c.if-count-gt-SLOTS.false) c.follow.ensures
