-- Laws of the definitions that several functions of this crate cite.
-- Assumes nothing.
use mathlib.Core.Path.{◌≡◌, refl, sym}
use mathlib.Core.Bool.{Bool, true, false, ◌||◌}
use native.Mathlib.Omega.{arith}
use borrow.Author.Tests.{ltb-true, le-ltb}
use lib.IntN.{ℤ, pos, negsuc}
use lib.Signed.{lt_z}
use Rattle.integers.proofs.SignsLaws.{never}
use Rattle.rules.specs.Refusals.{same_side}

-- ---- the side of the second value, by the sign of the first

or_none : (b : Bool) → b || false ≡ b
or_none true = refl
or_none false = refl

pub side_above : (v w : ℤ) → lt_z (pos 0) v ≡ true → same_side v w ≡ lt_z (pos 0) w
unfolding same_side
side_above (pos n) w e =
    let h = ltb-true 0 n e in
    simp (e, le-ltb n 0 (omega arith)) (or_none (lt_z (pos 0) w))
side_above (negsuc n) w e = never (sym e)

pub side_below : (v w : ℤ) → lt_z (pos 0) v ≡ false → lt_z v (pos 0) ≡ true → same_side v w ≡ lt_z w (pos 0)
unfolding same_side
side_below v w e f = simp (e, f)

pub side_neither : (v w : ℤ) → lt_z (pos 0) v ≡ false → lt_z v (pos 0) ≡ false → same_side v w ≡ false
unfolding same_side
side_neither v w e f = simp (e, f)
