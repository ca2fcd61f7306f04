-- `survey::is_misplaced` meets its contract: the machine's tests are those of the numbers.
-- Assumes nothing.
use Rattle.std.proofs.Common.{sym, ◌∙◌, arith}
use Rattle.integers.proofs.Bounds.{read}
use Rattle.surveying.proofs.SurveyLaws.{too_few, too_many, no_pitch, by_ends}
use Rattle.survey.proofs.is_misplaced.Goals as goal

pub returns-then-n-lt-FEWEST : goal.returns-then-n-lt-FEWEST
returns-then-n-lt-FEWEST c = sym (too_few _ _ _ c.if-n-lt-FEWEST.true)

pub returns-then-n-gt-MOST : goal.returns-then-n-gt-MOST
returns-then-n-gt-MOST c = sym (too_many _ _ _ (omega arith) (omega arith))

pub returns-then-pitch-lt1 : goal.returns-then-pitch-lt1
returns-then-pitch-lt1 c = sym (no_pitch _ _ _ (omega arith) (omega arith) (rw (read c.ranges.pitch) at c.if-pitch-lt1.true))

pub returns-then-lowest-lt0 : goal.returns-then-lowest-lt0
returns-then-lowest-lt0 c =
    sym (by_ends _ _ _ (omega arith) (omega arith) (rw (read c.ranges.pitch) at c.if-pitch-lt1.false)
    ∙ simp (rw (read c.ranges.lowest) at c.if-lowest-lt0.true))

pub returns : goal.returns
returns c =
    rw (c.from-step.ensures, c.from-first.ensures, c.unsigned_abs-2.ensures.value, c.unsigned_abs.ensures.value, read c.ranges.pitch, read c.ranges.lowest)
    (sym (by_ends _ _ _ (omega arith) (omega arith) (rw (read c.ranges.pitch) at c.if-pitch-lt1.false)
    ∙ simp (rw (read c.ranges.lowest) at c.if-lowest-lt0.false)))
