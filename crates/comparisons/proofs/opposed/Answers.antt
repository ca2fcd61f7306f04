-- `comparisons::opposed` meets its contract: the product of two 32-bit numbers fits 64 bits, so the machine's test is the
-- definition's.
-- Assumes nothing.
use Rattle.std.proofs.Common.{◌*ℤ◌, FitsSigned, w64, arith}
use Rattle.std.proofs.lemmas.Int.{to_z-of_z}
use Rattle.integers.proofs.Bounds.{within_mul, within_fits, fits_within}
use Rattle.rules.specs.Rules.{opposed}
use Rattle.comparisons.proofs.opposed.Goals as goal

pub returns : goal.returns
unfolding opposed
returns c =
    let f : FitsSigned w64 (c.args.v *ℤ c.args.w) = within_fits (within_mul (fits_within c.ranges.v) (fits_within c.ranges.w)) tt in
    grind (arith, to_z-of_z)
