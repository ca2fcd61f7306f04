-- Whole numbers by their absolute value. A range of a signed number is one bound in ℕ, `Within z k`, which `omega` reads; these
-- laws carry such bounds through the operations, to the widths of the machine, and to the bits that it computes on.
-- Assumes nothing.
use Rattle.std.specs.Prelude.{◌≡◌, refl, Bool, true, false, not, cond, ℕ, zero, suc, ◌+◌, ◌-◌, ◌*◌, ◌/◌, ◌^◌}
use Rattle.std.specs.Prelude.{◌≤◌, ◌<◌, T, ltb, eqb, ℤ, pos, negsuc, neg_ℤ, nat_abs, ◌+ℤ◌, ◌-ℤ◌, ◌*ℤ◌, ◌<ℤ◌}
use Rattle.std.proofs.Common.{sym, ap, ◌∙◌, le_refl, le_trans, le_of_eq, lt_of_le_of_lt, mul-le-mul}
use Rattle.std.proofs.Common.{div-le_self, arith, ltb→lt, lt→ltb, to_z-of_z, ltb-true, eqb-true}
use Rattle.std.proofs.Math.IntN.{sub_ℕ, +ℤ_idl}
use Rattle.std.specs.Int.Signed.{mag, non_neg, quot_z, lt_z, nat_abs-le}
use Rattle.std.specs.Int.{Width, w64}
use mir.Val.{SFits, hbits, to_z, of_z}
use Rattle.std.proofs.lemmas.Bool.{eqb-false}
use Rattle.integers.specs.Signs.{eq_z}
use Rattle.integers.proofs.SignsLaws.{never, eq_eq_z, ne_eq_z}

-- ---- the absolute value through the operations

pub abs_neg : (z : ℤ) → nat_abs (neg_ℤ z) ≡ nat_abs z
abs_neg (pos zero) = refl
abs_neg (pos (suc n)) = refl
abs_neg (negsuc n) = refl

by_test : (b : Bool) (x y : ℤ) (P : ℤ → Type 0) → (T b → P x) → (T (not b) → P y) → P (cond b x y)
by_test true x y P f g = f tt
by_test false x y P f g = g tt

abs_subℕ : (a b : ℕ) → nat_abs (sub_ℕ a b) ≤ a + b
abs_subℕ a b =
    by_test (ltb a b) (negsuc (b - suc a)) (pos (a - b)) (λ (z : ℤ). nat_abs z ≤ a + b)
    (λ t. let h = ltb→lt a b t in omega arith)
    (λ t. omega arith)

abs_add : (a b : ℤ) → nat_abs (a +ℤ b) ≤ nat_abs a + nat_abs b
abs_add (pos a) (pos b) = le_refl (a + b)
abs_add (pos a) (negsuc b) = abs_subℕ a (suc b)
abs_add (negsuc a) (pos b) = omega (arith, abs_subℕ b (suc a))
abs_add (negsuc a) (negsuc b) = omega arith

abs_sub : (a b : ℤ) → nat_abs (a -ℤ b) ≤ nat_abs a + nat_abs b
abs_sub a b = omega (arith, abs_add a (neg_ℤ b), abs_neg b)

abs_mul : (a b : ℤ) → nat_abs (a *ℤ b) ≡ nat_abs a * nat_abs b
abs_mul (pos a) (pos b) = refl
abs_mul (pos a) (negsuc b) = abs_neg (pos (a * suc b))
abs_mul (negsuc a) (pos b) = abs_neg (pos (suc a * b))
abs_mul (negsuc a) (negsuc b) = refl

abs_quot : (a b : ℤ) → nat_abs (quot_z a b) ≡ nat_abs a / nat_abs b
abs_quot (pos a) (pos b) = refl
abs_quot (pos a) (negsuc b) = abs_neg (pos (a / suc b))
abs_quot (negsuc a) (pos b) = abs_neg (pos (suc a / b))
abs_quot (negsuc a) (negsuc b) = refl

-- ---- a bound through the operations

-- A record, so that the number and its bound are inferred from a hypothesis; `omega` reads its field.
pub record Within (z : ℤ) (k : ℕ) : Type 0 where
  pub abs_le : nat_abs z ≤ k

pub within_nat : {n k : ℕ} → n ≤ k → Within (pos n) k
within_nat h = record { abs_le = h }

pub within_more : {z : ℤ} {m n : ℕ} → Within z m → m ≤ n → Within z n
within_more h k = record { abs_le = le_trans h.abs_le k }

pub within_neg : {z : ℤ} {m : ℕ} → Within z m → Within (neg_ℤ z) m
within_neg {z} h = record { abs_le = omega (arith, abs_neg z) }

pub within_sub : {a b : ℤ} {m n : ℕ} → Within a m → Within b n → Within (a -ℤ b) (m + n)
within_sub {a} {b} h k = record { abs_le = omega (arith, abs_sub a b) }

pub within_mul : {a b : ℤ} {m n : ℕ} → Within a m → Within b n → Within (a *ℤ b) (m * n)
within_mul {a} {b} h k = record { abs_le = le_trans (le_of_eq (abs_mul a b)) (mul-le-mul h.abs_le k.abs_le) }

-- a quotient is within its dividend's bound
pub within_quot : {a : ℤ} {m : ℕ} → Within a m → (b : ℤ) → Within (quot_z a b) m
within_quot {a} {m} h b =
    record { abs_le = le_trans (le_of_eq (abs_quot a b)) (le_trans (div-le_self (nat_abs a) (nat_abs b)) h.abs_le) }

-- two naturals that are no more than k apart
abs_apart : (a b k : ℕ) → a ≤ b + k → b ≤ a + k → nat_abs (pos a -ℤ pos b) ≤ k
abs_apart a zero k h g = omega arith
abs_apart a (suc b) k h g =
    by_test (ltb a (suc b)) (negsuc (suc b - suc a)) (pos (a - suc b)) (λ (z : ℤ). nat_abs z ≤ k)
    (λ t. let l = ltb→lt a (suc b) t in omega arith)
    (λ t. omega arith)

pub within_apart : {a b k : ℕ} → a ≤ b + k → b ≤ a + k → Within (pos a -ℤ pos b) k
within_apart {a} {b} {k} h g = record { abs_le = abs_apart a b k h g }

-- the difference of two naturals is within the larger's bound, and not only within the sum of the two
pub within_difference : {a b k : ℕ} → a ≤ k → b ≤ k → Within (pos a -ℤ pos b) k
within_difference {a} {b} h g = within_apart {a = a} {b = b} (omega arith) (omega arith)

-- ---- a number fits a width where its absolute value is below half the width's power

mag_le_abs : (z : ℤ) → mag z ≤ nat_abs z
mag_le_abs (pos n) = le_refl n
mag_le_abs (negsuc n) = omega arith

-- at a numeral the test computes: `within-fits h tt`
pub within_fits : {w : Width} {z : ℤ} {k : ℕ} → Within z k → T (ltb k (2 ^ hbits w)) → SFits w z
within_fits {w} {z} {k} h t =
    record { sfits = lt_of_le_of_lt (mag_le_abs z) (lt_of_le_of_lt h.abs_le (ltb→lt k (2 ^ hbits w) t)) }

pub fits_within : {w : Width} {z : ℤ} → SFits w z → Within z (2 ^ hbits w)
fits_within {z = z} h = record { abs_le = nat_abs-le z h.sfits }

-- ---- a signed local holds bits, and an operation reads them back: they stand for the number that was written, where it fits

pub read : {w : Width} {z : ℤ} → SFits w z → to_z w (of_z w z) ≡ z
read h = to_z-of_z h

pub read64 : {z : ℤ} {k : ℕ} → Within z k → T (ltb k (2 ^ 63)) → to_z w64 (of_z w64 z) ≡ z
read64 h t = read {w = w64} (within_fits h t)

-- `-x` is `0 - x` to the machine
pub zero_sub : (z : ℤ) → pos 0 -ℤ z ≡ neg_ℤ z
zero_sub z = +ℤ_idl (neg_ℤ z)

-- ---- signs, as a test against 0 tells them

-- for a cast to an unsigned type
pub neg_of_negative : (z : ℤ) → lt_z z (pos 0) ≡ true → T (non_neg (neg_ℤ z))
neg_of_negative (pos n) e = let h = ltb-true n 0 e in absurd (omega arith)
neg_of_negative (negsuc n) e = tt

pub not_negative : (z : ℤ) → lt_z z (pos 0) ≡ false → T (non_neg z)
not_negative (pos n) e = tt
not_negative (negsuc n) e = never e

-- for a divisor
pub above_of_negative : (z : ℤ) → lt_z z (pos 0) ≡ true → pos 0 <ℤ neg_ℤ z
above_of_negative (pos n) e = let h = ltb-true n 0 e in absurd (omega arith)
above_of_negative (negsuc n) e = record { lt = lt→ltb 0 (suc n) (omega arith) }

pub above_of_not : (z : ℤ) → lt_z z (pos 0) ≡ false → eq_z z (pos 0) ≡ false → pos 0 <ℤ z
above_of_not (pos zero) e h = never h
above_of_not (pos (suc n)) e h = record { lt = lt→ltb 0 (suc n) (omega arith) }
above_of_not (negsuc n) e h = never e

-- ---- the bits, which `==` and a division's check look at

pub bits_positive : (w : Width) {z : ℤ} → pos 0 <ℤ z → 0 < of_z w z
bits_positive w {z = pos n} h = ltb→lt 0 n h.lt
bits_positive w {z = negsuc n} h = absurd h.lt

-- `a == b` held
pub bits_same : {w : Width} {a b : ℤ} → SFits w a → SFits w b → of_z w a ≡ of_z w b → eq_z a b ≡ true
bits_same {w} {a} {b} f g e = eq_eq_z a b (sym (read f) ∙ ap (to_z w) e ∙ read g)

-- `a == b` did not hold
pub bits_other : (w : Width) (a b : ℤ) → (of_z w a ≡ of_z w b → ⊥) → eq_z a b ≡ false
bits_other w a b h = ne_eq_z a b (λ e. h (ap (of_z w) e))

pub bits_equal : {w : Width} {a b : ℤ} → SFits w a → SFits w b → eqb (of_z w a) (of_z w b) ≡ eq_z a b
bits_equal {w} {a} {b} f g = go (eqb (of_z w a) (of_z w b)) refl
  where
    go : (t : Bool) → eqb (of_z w a) (of_z w b) ≡ t → t ≡ eq_z a b
    go true e = sym (bits_same f g (eqb-true _ _ e))
    go false e = sym (bits_other w a b (eqb-false _ _ e))
