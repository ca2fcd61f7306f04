-- `steps::offset` meets its contract: what a search that goes on has brings every number into the range of the estimates.
-- Assumes nothing.
use Rattle.std.proofs.Common.{ℕ, ◌≡◌, ◌≤◌, arith}
use Rattle.interpolation.specs.Ranges.{widest}
use Rattle.rules.specs.declared.Opening.{Opening}
use Rattle.rules.specs.declared.Bracket.{Bracket}
use Rattle.rules.specs.Rules.{tolerance_at, offset_of}
use Rattle.rules.proofs.SearchLaws.{tolerance_most}
use Rattle.steps.specs.Ready.{Ready}
use Rattle.steps.proofs.ReadyLaws.{surveyed}
use Rattle.steps.proofs.offset.Goals as goal

-- the tolerance at b is in the range
in_range : {o : Opening} {k : Bracket} {t : ℕ} → Ready o k → t ≡ tolerance_at o k.better.point → t ≤ widest
in_range {o} {k} r e = omega (arith, tolerance_most o k.better.point r.opened r.sound.limits.better.point)

pub overflow_cast-tolerance : goal.overflow_cast-tolerance
overflow_cast-tolerance c = omega (arith, in_range c.requires c.tolerance_at-tolerance.ensures)

pub reach-requires : goal.reach-requires
reach-requires c = (in_range c.requires c.tolerance_at-tolerance.ensures, surveyed c.requires.sound)

pub returns : goal.returns
unfolding offset_of
returns c = rw (c.reach.ensures, c.step_at-step.ensures, c.method_of.ensures, c.tolerance_at-tolerance.ensures)
