-- `steps::next_point` meets its contract: D is at most half of the width, so the point lies between the ends.
-- Assumes nothing.
use Rattle.std.specs.Prelude.{◌≤◌, ◌<◌}
use native.Mathlib.Omega.{arith}
use borrow.Author.Tests.{le-leb, lt-leb}
use Rattle.rules.specs.Rules.{next_of}
use Rattle.rules.proofs.RulesLaws.{offset_in}
use Rattle.steps.proofs.next_point.Goals as goal

pub overflow_add-result : goal.overflow_add-result
overflow_add-result c =
    let h = (offset_in c.args.o c.args.k c.requires.going).high in
    let l = c.requires.sound.limits.other.point in
    rw c.offset-d.ensures (omega arith)

pub overflow_sub-result : goal.overflow_sub-result
overflow_sub-result c =
    let h = (offset_in c.args.o c.args.k c.requires.going).high in
    rw c.offset-d.ensures (omega arith)

pub returns-then-b-k : goal.returns-then-b-k
unfolding next_of
returns-then-b-k c =
    let up : c.args.k.better.point ≤ c.args.k.other.point = omega arith in
    simp (le-leb _ _ up, c.offset-d.ensures)

pub returns-else-b-k : goal.returns-else-b-k
unfolding next_of
returns-else-b-k c =
    let down : c.args.k.other.point < c.args.k.better.point = omega arith in
    simp (lt-leb _ _ down, c.offset-d.ensures)
