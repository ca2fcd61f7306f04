-- The ranges that the arithmetic is proved for: wider than the points of an opening, so that a wider scale of points costs no proof here.
-- Assumes nothing.
use Rattle.std.specs.Prelude.{ℕ, ◌+◌, ◌*◌, ◌≤◌}
use Rattle.integers.proofs.Bounds.{Within}
use Rattle.rules.specs.Rules.{largest_value}
use Rattle.rules.specs.declared.Sample.{Sample}
use Rattle.rules.specs.declared.Fraction.{Fraction}

-- the highest point, tolerance and width
abbrev pub widest : ℕ
widest = 65535

-- a sample of such a point, whose value is in document 01's range
pub record Measured (s : Sample) : Type 0 where
  pub near : s.point ≤ widest
  pub small : Within s.value largest_value

-- ---- what follows, in absolute value: no number on the way exceeds 2 * (2 * most_num), which is below 2 ^ 63

-- of S
abbrev pub most_cross : ℕ
most_cross = largest_value * (largest_value + largest_value) * widest

-- of S(b − a)
abbrev pub most_num : ℕ
most_num = most_cross * widest

-- of Q
abbrev pub most_den : ℕ
most_den = most_cross + most_cross

-- an estimate is `Small 1`, and doubled it is `Small 2`
pub record Small (m : ℕ) (u : Fraction) : Type 0 where
  pub num_in : Within u.num (m * most_num)
  pub den_in : Within u.den most_den
