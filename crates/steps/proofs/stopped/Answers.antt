-- `steps::stopped` meets its contract: in 64 bits twice the tolerance fits.
-- Assumes nothing.
use Rattle.std.proofs.Common.{◌≡◌, ◌≤◌, refl, arith, rules, w32, FitsSigned}
use Rattle.std.specs.Int.Signed.{nat_abs-le}
use Rattle.rules.specs.Rules.{tolerance_at, stopped_of}
use Rattle.rules.proofs.SearchLaws.{tolerance_within}
use Rattle.steps.proofs.stopped.Goals as goal

pub overflow_mul-result : goal.overflow_mul-result
overflow_mul-result c =
    let o = c.args.o in
    let b = c.args.k.better.point in
    let f : FitsSigned w32 o.tolerance = search rules in
    let g : FitsSigned w32 o.share = search rules in
    let h : b ≤ 4294967295 = search rules in
    let at-b : c.tolerance_at.result ≡ tolerance_at o b = c.tolerance_at.ensures in
    omega (arith, tolerance_within o b (nat_abs-le o.tolerance f.sfits) (nat_abs-le o.share g.sfits) h)

pub returns : goal.returns
unfolding stopped_of
returns c = rw (c.width.ensures, c.tolerance_at.ensures) refl
