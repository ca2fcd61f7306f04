-- How many steps a search takes whose widths shrink, and halve at least once in every m + 1 steps: t is the least number of
-- halvings that suffice, and each step leaves less of (m + 1) t, with the streak counted in.
-- Assumes nothing.
use Rattle.std.specs.Prelude.{ℕ, ◌+◌, ◌-◌, ◌*◌, ◌/◌, ◌^◌, ◌≤◌, ◌<◌, ◌≡◌}
use Rattle.std.proofs.Common.{zero-le, ◌∙◌, inl, inr, le_trans, pow-suc, mul_comm, mul_assoc, mul-add, mul-one, mul-le-mul_left}
use Rattle.std.proofs.Common.{mul-le-mul, div-mul-le_self, le-div_iff_mul-le, div-lt_iff_lt-mul, add-one, arith, pow_pos}
use Rattle.std.proofs.Math.Path.{sym, ap}
use Rattle.std.proofs.Math.Nat.{div-div-eq-div-mul}
use Rattle.integers.specs.Digits.{digits, Least}
use Rattle.integers.proofs.DigitsLaws.{digits_least, digits_le, digits_half, digits_some}
use Rattle.rules.specs.Rules.{streak_of}
use Rattle.rules.proofs.RulesLaws.{Halves, Rule7, streak_is}
use Rattle.rules.specs.Search.{turns_of}

-- ---- t is the least whole number, zero or more, with τ 2 ^ (t + 1) at least W

reorder : (τ t : ℕ) → 2 ^ t * (2 * τ) ≡ τ * 2 ^ (t + 1)
reorder τ t =
    mul_comm (2 ^ t) (2 * τ)
    ∙ ap (λ (x : ℕ). x * 2 ^ t) (mul_comm 2 τ)
    ∙ mul_assoc τ 2 (2 ^ t)
    ∙ ap (λ (x : ℕ). τ * x) (mul_comm 2 (2 ^ t) ∙ sym (pow-suc 2 t) ∙ ap (λ (n : ℕ). 2 ^ n) (sym (add-one t)))

module _ (τ W : ℕ) (tol : 1 ≤ τ) where
  covered : (t : ℕ) → (W - 1) / (2 * τ) < 2 ^ t → W ≤ τ * 2 ^ (t + 1)
  covered t h =
      let p : W - 1 < 2 ^ t * (2 * τ) = (div-lt_iff_lt-mul {k = 2 * τ} (omega arith)).0 h in
      omega (arith, reorder τ t)

  covers : (t : ℕ) → W ≤ τ * 2 ^ (t + 1) → (W - 1) / (2 * τ) < 2 ^ t
  covers t h =
      let some : 1 * 2 ≤ 2 ^ t * (2 * τ) = mul-le-mul {n₁ = 1} {m₁ = 2} {n₂ = 2 ^ t} {m₂ = 2 * τ} (pow_pos t) (omega arith) in
      (div-lt_iff_lt-mul {k = 2 * τ} (omega arith)).1 (omega (arith, reorder τ t))

  pub turns_least : Least (λ t. W ≤ τ * 2 ^ (t + 1)) (turns_of τ W)
  unfolding turns_of
  turns_least =
      record {
        holds = covered (digits ((W - 1) / (2 * τ))) (digits_least ((W - 1) / (2 * τ))).holds;
        least = λ u h. (digits_least ((W - 1) / (2 * τ))).least u (covers u h);
      }

-- ---- what a step does to t

div_le : {a b : ℕ} (k : ℕ) → 0 < k → a ≤ b → a / k ≤ b / k
div_le {a} {b} k p h = (le-div_iff_mul-le {k = k} p).1 (le_trans (div-mul-le_self a k) h)

module _ (τ : ℕ) (tol : 1 ≤ τ) where
  pub turns_some : (L : ℕ) → 2 * τ < L → 1 ≤ turns_of τ L
  unfolding turns_of
  turns_some L h = digits_some ((le-div_iff_mul-le {k = 2 * τ} (omega arith)).1 (omega arith))

  turns_le : {L' L : ℕ} → L' ≤ L → turns_of τ L' ≤ turns_of τ L
  unfolding turns_of
  turns_le {L'} {L} h = digits_le (div_le (2 * τ) (omega arith) (omega arith))

  turns_half : (L' L : ℕ) → 2 * τ < L → Halves L L' → turns_of τ L' + 1 ≤ turns_of τ L
  unfolding turns_of
  turns_half L' L g h =
      let swap : (L - 1) / 2 / (2 * τ) ≡ (L - 1) / (2 * τ) / 2 =
      div-div-eq-div-mul (L - 1) 2 (2 * τ)
      ∙ ap (λ (x : ℕ). (L - 1) / x) (mul_comm 2 (2 * τ))
      ∙ sym (div-div-eq-div-mul (L - 1) (2 * τ) 2) in
      let some : 1 ≤ (L - 1) / (2 * τ) = (le-div_iff_mul-le {k = 2 * τ} (omega arith)).1 (omega arith) in
      let half : (L' - 1) / (2 * τ) ≤ (L - 1) / 2 / (2 * τ) = div_le (2 * τ) (omega arith) (omega arith) in
      digits_half some (omega (arith, swap))

-- ---- the bound, kept from step to step: m is the allowed streak, W the distance between the ends

-- after n answers, at width L and streak s
pub record Bound (m τ W n L s : ℕ) : Type 0 where
  pub streak : s ≤ m
  pub left : n + (m + 1) * turns_of τ L ≤ 2 + (m + 1) * turns_of τ W + s
  pub most : n ≤ 2 + (m + 1) * turns_of τ W

pub bound_start : (m τ W : ℕ) → Bound m τ W 2 W 0
bound_start m τ W = record { streak = zero-le; left = omega arith; most = omega arith }

one_more : (a b c : ℕ) → b + 1 ≤ c → a * b + a ≤ a * c
one_more a b c h = le_trans (omega (arith, mul-add a b 1, mul-one a)) (mul-le-mul_left a h)

module _ (m τ W n L s : ℕ) (tol : 1 ≤ τ) (b : Bound m τ W n L s) (going : 2 * τ < L) where
  -- while the search has not stopped
  pub bound_below : n < 2 + (m + 1) * turns_of τ W
  bound_below = omega (arith, b.left, b.streak, mul-le-mul_left (m + 1) (turns_some τ tol L going), mul-one (m + 1))

  -- a step to a narrower width, which halves at the streak m
  pub bound_step : (L' : ℕ) → L' < L → (s ≡ m → Halves L L') → Bound m τ W (n + 1) L' (streak_of L L' s)
  bound_step L' shorter forced = go (streak_is L L' s)
    where
      go : Rule7 L L' s → Bound m τ W (n + 1) L' (streak_of L L' s)
      go (inl (half, e)) =
          rw e
          (record {
            streak = zero-le;
            left = omega (arith, b.left, b.streak, one_more (m + 1) (turns_of τ L') (turns_of τ L) (turns_half τ tol L' L going half));
            most = omega (arith, bound_below);
          })
      go (inr (long, e)) =
          let low : s ≡ m → ⊥ = λ q. omega (arith, forced q) in
          rw e
          (record {
            streak = omega (arith, b.streak);
            left = omega (arith, b.left, mul-le-mul_left (m + 1) (turns_le τ tol {L' = L'} {L = L} (omega arith)));
            most = omega (arith, bound_below);
          })

-- ---- t is largest over the whole range at the least tolerance, whatever the range is

pub turns_few : (τ W H : ℕ) → 1 ≤ τ → W ≤ H → turns_of τ W ≤ turns_of 1 H
turns_few τ W H p h =
    let t = turns_of 1 H in
    let reached : 1 * 2 ^ (t + 1) ≤ τ * 2 ^ (t + 1) = mul-le-mul {n₁ = 1} {m₁ = 2 ^ (t + 1)} {n₂ = τ} {m₂ = 2 ^ (t + 1)} p (omega arith) in
    (turns_least τ W p).least t (omega (arith, (turns_least 1 H (omega arith)).holds, reached))
