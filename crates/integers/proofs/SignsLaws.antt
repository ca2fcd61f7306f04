-- The laws of Signs: a test of equality says what it tests, and the sign of a product turns with its factors.
-- Assumes nothing.
use Rattle.std.specs.Prelude.{◌≡◌, refl, Bool, true, false, ℕ, zero, suc, ◌*◌, ◌≤◌, T, ℤ, pos, negsuc, neg_ℤ, ◌-ℤ◌}
use Rattle.std.proofs.Common.{sym, ap, subst, ◌∙◌, mul-pos, arith, eqb-true, eq-eqb, leb-true, leb-false, le-leb, ltb-true, lt-ltb}
use Rattle.std.proofs.Math.IntN.{*ℤ_comm, +ℤ_idl, +ℤ_invr, -ℤ-+ℤ_cancel}
use Rattle.std.specs.Int.Signed.{le_z, lt_z}
use Rattle.integers.specs.Signs.{eq_z, crosses}

-- ---- equality

-- what a test that cannot hold proves
pub never {ℓ} : {X : Type ℓ} → true ≡ false → X
never e = absurd (subst T e tt)

pub eq_z_true : (a b : ℤ) → eq_z a b ≡ true → a ≡ b
eq_z_true (pos a) (pos b) e = ap pos (eqb-true a b e)
eq_z_true (pos a) (negsuc b) e = never (sym e)
eq_z_true (negsuc a) (pos b) e = never (sym e)
eq_z_true (negsuc a) (negsuc b) e = ap negsuc (eqb-true a b e)

eq_z_self : (a : ℤ) → eq_z a a ≡ true
eq_z_self (pos a) = eq-eqb a a refl
eq_z_self (negsuc a) = eq-eqb a a refl

pub eq_eq_z : (a b : ℤ) → a ≡ b → eq_z a b ≡ true
eq_eq_z a b e = rw e (eq_z_self b)

pub ne_eq_z : (a b : ℤ) → (a ≡ b → ⊥) → eq_z a b ≡ false
ne_eq_z a b h = go (eq_z a b) refl
  where
    go : (t : Bool) → eq_z a b ≡ t → t ≡ false
    go true e = absurd (h (eq_z_true a b e))
    go false e = refl

-- two numbers are equal where their difference is 0
pub eq_z_difference : (a b : ℤ) → eq_z (a -ℤ b) (pos 0) ≡ eq_z a b
eq_z_difference a b = go (eq_z a b) refl
  where
    go : (t : Bool) → eq_z a b ≡ t → eq_z (a -ℤ b) (pos 0) ≡ t
    go true e = eq_eq_z (a -ℤ b) (pos 0) (rw (eq_z_true a b e) (+ℤ_invr b))
    go false e =
        ne_eq_z (a -ℤ b) (pos 0) (λ h. never (sym (eq_eq_z a b (sym (-ℤ-+ℤ_cancel a b) ∙ rw h (+ℤ_idl b))) ∙ e))

-- ---- signs, as tests against 0 tell them

pub positive_of_negative : (z : ℤ) → lt_z z (pos 0) ≡ true → lt_z (pos 0) (neg_ℤ z) ≡ true
positive_of_negative (pos n) e = let h = ltb-true n 0 e in absurd (omega arith)
positive_of_negative (negsuc n) e = lt-ltb 0 (suc n) (omega arith)

pub positive_of_neither : (z : ℤ) → eq_z z (pos 0) ≡ false → lt_z z (pos 0) ≡ false → lt_z (pos 0) z ≡ true
positive_of_neither (pos zero) e f = never e
positive_of_neither (pos (suc n)) e f = lt-ltb 0 (suc n) (omega arith)
positive_of_neither (negsuc n) e f = never f

-- ---- the sign of a product

pub negated : (n : ℕ) → le_z (neg_ℤ (pos n)) (pos 0) ≡ true
negated zero = refl
negated (suc n) = refl

-- the product of two numbers above zero is above zero
pub product_above : {X : Type 0} (w z : ℕ) → suc w * suc z ≤ 0 → X
product_above w z h = absurd (omega (arith, mul-pos {m = suc w} {n = suc z} (omega arith) (omega arith)))

pub crosses_comm : (v w : ℤ) → crosses v w ≡ crosses w v
crosses_comm v w = ap (λ (z : ℤ). le_z z (pos 0)) (*ℤ_comm v w)

-- v and w lie strictly on one side of zero, and w and z do not: nor do v and z
pub crosses_turn : (v w z : ℤ) → crosses v w ≡ false → crosses w z ≡ true → crosses v z ≡ true
crosses_turn (pos v) (pos zero) (pos z) e f = let h = leb-false (v * zero) 0 e in absurd (omega arith)
crosses_turn (pos v) (pos (suc w)) (pos zero) e f = le-leb (v * zero) 0 (omega arith)
crosses_turn (pos v) (pos (suc w)) (pos (suc z)) e f = product_above w z (leb-true (suc w * suc z) 0 f)
crosses_turn (pos v) (pos w) (negsuc z) e f = negated (v * suc z)
crosses_turn (pos v) (negsuc w) z e f = never (sym (negated (v * suc w)) ∙ e)
crosses_turn (negsuc v) (pos w) z e f = never (sym (negated (suc v * w)) ∙ e)
crosses_turn (negsuc v) (negsuc w) (pos z) e f = negated (suc v * z)
crosses_turn (negsuc v) (negsuc w) (negsuc z) e f = product_above w z (leb-true (suc w * suc z) 0 f)
