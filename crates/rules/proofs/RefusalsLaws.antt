-- What an opening that is accepted holds, and what an answer that is not refused is.
-- Assumes nothing.
use Rattle.std.specs.Prelude.{ℕ, zero, suc, ◌*◌, ◌≤◌, ◌≡◌, refl, None, Some, Bool, true, false, cond, ◌||◌, ltb, ℤ, pos, negsuc, nat_abs}
use Rattle.std.proofs.Common.{sym, ap, ◌∙◌, arith, ltb-false, lt-ltb, le-ltb, le-leb, leb-true}
use Rattle.integers.specs.Signs.{eq_z}
use Rattle.integers.proofs.SignsLaws.{eq_eq_z, never, negated, product_above}
use Rattle.rules.specs.declared.Opening.{Opening}
use Rattle.rules.specs.Rules.{highest, largest_tolerance, largest_share, opposed}
use Rattle.rules.specs.Refusals.{if_any, outside, same_side, opening_refusal, answer_refusal, Accepted}

-- ---- a number of a refusal, and 0 for none

pub none_is : (n : ℕ) → None ≡ if_any n → n ≡ 0
none_is zero e = refl
none_is (suc n) e = cc

pub some_is : (n m : ℕ) → Some m ≡ if_any n → m ≡ n
some_is zero m e = cc
some_is (suc n) m e = cc

pub some_above : (n m : ℕ) → Some m ≡ if_any n → m ≡ 0 → ⊥
some_above zero m e f = cc
some_above (suc n) m e f = cc

-- ---- no refusal applies: each cause is absent

pub record Neither (a b : Bool) : Type 0 where
  pub left : a ≡ false
  pub right : b ≡ false

pub or_false : (a b : Bool) → a || b ≡ false → Neither a b
or_false true b e = never e
or_false false b e = record { left = refl; right = e }

-- the first that applies is none: this check does not apply, nor does any after it
passed : (b : Bool) (n rest : ℕ) → cond b (suc n) rest ≡ 0 → (b ≡ false) × (rest ≡ 0)
passed true n rest e = absurd (omega arith)
passed false n rest e = (refl, e)

-- a number that is not outside of a range
pub record Ranged (low high : ℕ) (z : ℤ) : Type 0 where
  pub least : low ≤ nat_abs z
  pub most : nat_abs z ≤ high
  pub whole : z ≡ pos (nat_abs z)

pub ranged : (low high : ℕ) (z : ℤ) → outside low high z ≡ false → Ranged low high z
ranged low high (pos n) e =
    let b = or_false (ltb n low) (ltb high n) e in
    record { least = ltb-false n low b.left; most = ltb-false high n b.right; whole = refl }
ranged low high (negsuc n) e = never e

pub inside : (low high n : ℕ) → low ≤ n → n ≤ high → outside low high (pos n) ≡ false
inside low high n h k = simp (le-ltb n low h, le-ltb high n k)

-- ---- the opening

pub record Opened (o : Opening) : Type 0 where
  pub method : Ranged 0 2 o.method
  pub first : Ranged 0 highest o.first
  pub second : Ranged 0 highest o.second
  pub apart : nat_abs o.first ≡ nat_abs o.second → ⊥
  pub tolerance : Ranged 1 largest_tolerance o.tolerance
  pub share : Ranged 0 largest_share o.share

pub opened : (o : Opening) → Accepted o → Opened o
unfolding opening_refusal
opened o a =
    let p = passed (outside 0 2 o.method) _ _ a.accepted in
    let q = passed (outside 0 highest o.first || outside 0 highest o.second) _ _ p.1 in
    let e = or_false (outside 0 highest o.first) (outside 0 highest o.second) q.0 in
    let r = passed (eq_z o.first o.second) _ _ q.1 in
    let s = passed (outside 1 largest_tolerance o.tolerance) _ _ r.1 in
    let t = passed (outside 0 largest_share o.share) _ _ s.1 in
    let x = ranged 0 highest o.first e.left in
    let y = ranged 0 highest o.second e.right in
    record {
      method = ranged 0 2 o.method p.0;
      first = x;
      second = y;
      apart = λ f. never (sym (eq_eq_z o.first o.second (x.whole ∙ ap pos f ∙ sym y.whole)) ∙ r.0);
      tolerance = ranged 1 largest_tolerance o.tolerance s.0;
      share = ranged 0 largest_share o.share t.0;
    }

pub accepted_by : (o : Opening) → outside 0 2 o.method ≡ false → outside 0 highest o.first ≡ false → outside 0 highest o.second ≡ false
    → eq_z o.first o.second ≡ false → outside 1 largest_tolerance o.tolerance ≡ false → outside 0 largest_share o.share ≡ false → Accepted o
unfolding opening_refusal
accepted_by o a b c d e f = record { accepted = simp (a, b, c, d, e, f) }

-- ---- an answer

pub record Passed (stopped other large same : Bool) : Type 0 where
  pub going : stopped ≡ false
  pub called : other ≡ false
  pub ranged : large ≡ false
  pub crossing : same ≡ false

pub answer_passed : (stopped other large same : Bool) → answer_refusal stopped other large same ≡ 0 → Passed stopped other large same
unfolding answer_refusal
answer_passed stopped other large same h =
    let p = passed stopped _ _ h in
    let q = passed other _ _ p.1 in
    let r = passed large _ _ q.1 in
    let s = passed same _ _ r.1 in
    record { going = p.0; called = q.0; ranged = r.0; crossing = s.0 }

-- two values that are not both positive or both negative have a product that is zero or negative
pub crossing_opposed : (v w : ℤ) → same_side v w ≡ false → opposed v w ≡ true
unfolding same_side opposed
crossing_opposed (pos zero) (pos w) e = le-leb (zero * w) 0 (omega arith)
crossing_opposed (pos (suc v)) (pos zero) e = le-leb (suc v * zero) 0 (omega arith)
crossing_opposed (pos (suc v)) (pos (suc w)) e =
    never (simp (lt-ltb 0 (suc v) (omega arith), lt-ltb 0 (suc w) (omega arith)) at e)
crossing_opposed (pos v) (negsuc w) e = negated (v * suc w)
crossing_opposed (negsuc v) (pos w) e = negated (suc v * w)
crossing_opposed (negsuc v) (negsuc w) e = never e

pub opposed_crossing : (v w : ℤ) → opposed v w ≡ true → same_side v w ≡ false
unfolding same_side opposed
opposed_crossing (pos zero) w e = refl
opposed_crossing (pos (suc v)) (pos zero) e = simp (lt-ltb 0 (suc v) (omega arith), le-ltb (suc v) 0 (omega arith))
opposed_crossing (pos (suc v)) (pos (suc w)) e = product_above v w (leb-true (suc v * suc w) 0 e)
opposed_crossing (pos (suc v)) (negsuc w) e = simp (lt-ltb 0 (suc v) (omega arith), le-ltb (suc v) 0 (omega arith))
opposed_crossing (negsuc v) (pos w) e = le-ltb w 0 (omega arith)
opposed_crossing (negsuc v) (negsuc w) e = product_above v w (leb-true (suc v * suc w) 0 e)
