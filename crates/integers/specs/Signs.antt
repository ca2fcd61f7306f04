-- Equality of whole numbers as a test, and whether a product is zero or negative.
-- Assumes nothing.
use Rattle.std.specs.Prelude.{Bool, false, eqb, ℤ, pos, negsuc, ◌*ℤ◌}
use Rattle.std.specs.Int.Signed.{le_z}

abbrev pub eq_z : ℤ → ℤ → Bool
eq_z (pos a) (pos b) = eqb a b
eq_z (pos a) (negsuc b) = false
eq_z (negsuc a) (pos b) = false
eq_z (negsuc a) (negsuc b) = eqb a b

-- the product is zero or negative
abbrev pub crosses : ℤ → ℤ → Bool
crosses v w = le_z (v *ℤ w) (pos 0)
