-- The parts that the formulas of the estimates are made of.
-- Assumes nothing.
use Rattle.std.proofs.Common.{ℕ, ◌≤◌}
use Rattle.integers.proofs.Bounds.{within_fits, within_difference}
use Rattle.integers.proofs.Formulas.{Formula, wide, nat, sub, tight}
use Rattle.rules.specs.declared.Sample.{Sample}
use Rattle.interpolation.specs.Ranges.{widest, Measured}

-- the value of a sample
abbrev pub F : {s : Sample} → Measured s → Formula
F {s} m = wide s.value (within_fits m.small tt) m.small tt

-- the difference of two points, with the bound of one point
abbrev pub gap : {b a : ℕ} → b ≤ widest → a ≤ widest → Formula
gap {b} {a} h g = tight (sub (nat b h tt) (nat a g tt)) (within_difference h g) tt
