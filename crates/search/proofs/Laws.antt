-- Laws of the quote.
-- Assumes nothing.
use mathlib.Core.Path.{◌≡◌}
use Prim.Native.Nat.{ℕ, suc, ◌+◌, ◌-◌, ◌*◌, ◌^◌, ◌≤◌, ◌<◌}
use native.Mathlib.Nat.{pow-suc, lt_of_not-le, le_of_suc-le-suc}
use native.Mathlib.Omega.{arith}
use borrow.Author.Tests.{eq-eqb}
use lib.Count.{count_leading_zeros, leading_length}
use lib.Pow.{pow_mono}
use Rattle.std.specs.Prelude.{Ok}
use Rattle.integers.specs.Digits.{digits}
use Rattle.integers.proofs.DigitsLaws.{digits_least}
use Rattle.rules.specs.declared.Method.{Method}
use Rattle.rules.specs.declared.Opening.{Opening}
use Rattle.rules.specs.Rules.{slots, method_of, allowed}
use Rattle.rules.specs.Refusals.{opening_refusal}
use Rattle.rules.proofs.RefusalsLaws.{Opened}
use Rattle.rules.specs.Search.{t_of, quote_of}
use Rattle.rules.proofs.SearchLaws.{most_slots}

-- ---- the leading zeros of a number and its binary digits make 32

pub digits_leading : (k : ℕ) → k < 2 ^ 32 → 32 - count_leading_zeros 32 k ≡ digits k
digits_leading k h =
    let s = leading_length 32 k h in
    let d = digits_least k in
    let low : digits k ≤ s.0 = d.least s.0 s.2 in
    let high : s.0 ≤ digits k =
    le_of_suc-le-suc
    (lt_of_not-le (λ (l : suc (digits k) ≤ s.0). omega (arith, pow_mono l, pow-suc 2 (digits k), d.holds, s.3))) in
    omega (arith, s.1)

pub allowed_few : (m : Method) → allowed m ≤ 4
allowed_few Method.M = omega arith
allowed_few Method.R = omega arith

-- ---- the quote, from the two numbers that make it

module _ (o : Opening) (a t : ℕ) (e : a ≡ allowed (method_of o)) (f : t ≡ t_of o) where
  pub quote_fits : Opened o → 2 + (a + 1) * t ≤ slots
  quote_fits op = rw (e, f) (most_slots o op)

  pub quote_is : opening_refusal o ≡ 0 → Ok (record { t = t; most = 2 + (a + 1) * t }) ≡ quote_of o
  unfolding quote_of
  quote_is g = rw (e, f) (simp (eq-eqb _ 0 g))
