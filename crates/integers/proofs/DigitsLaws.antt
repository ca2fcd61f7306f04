-- The laws of Digits: the number of binary digits of k is the least t with k < 2 ^ t, and half of a number has a digit less; the first number below
-- another that has a property.
-- Assumes nothing.
use Rattle.std.specs.Prelude.{ℕ, zero, suc, ◌+◌, ◌*◌, ◌/◌, ◌^◌, ◌≤◌, ◌<◌, ◌≡◌, refl, Bool, true, false, cond, eqb}
use Rattle.std.proofs.Common.{zero-le, suc-le-suc, sym, ap, subst, ◌∙◌, le_refl, pow-suc, arith, lt-ltb, le-ltb, ltb-false}
use Rattle.std.proofs.Math.Decide.{dec_le}
use Rattle.std.proofs.Math.Arith.{half_le}
use Rattle.integers.specs.Digits.{halvings, digits, Least, first_below, some_below}
use Rattle.integers.proofs.SignsLaws.{never}

upper : (f k : ℕ) → k ≤ f → k < 2 ^ halvings f k
unfolding halvings
upper zero k h = omega arith
upper (suc f) zero h = omega arith
upper (suc f) (suc k) h = rw pow-suc (omega (arith, upper f (suc k / 2) (half_le h)))

lower : (f k : ℕ) → k ≤ f → (u : ℕ) → k < 2 ^ u → halvings f k ≤ u
unfolding halvings
lower zero k h u p = zero-le
lower (suc f) zero h u p = zero-le
lower (suc f) (suc k) h zero p = absurd (omega arith)
lower (suc f) (suc k) h (suc u) p =
    suc-le-suc (lower f (suc k / 2) (half_le h) u (omega (arith, pow-suc 2 u)))

pub digits_least : (k : ℕ) → Least (λ t. k < 2 ^ t) (digits k)
unfolding digits
digits_least k = record { holds = upper k k (le_refl k); least = lower k k (le_refl k) }

pub digits_le : {j k : ℕ} → j ≤ k → digits j ≤ digits k
digits_le {j} {k} h = (digits_least j).least (digits k) (omega (arith, (digits_least k).holds))

-- half of it has a digit less
pub digits_half : {j k : ℕ} → 0 < k → j ≤ k / 2 → digits j + 1 ≤ digits k
digits_half {j} {k} p h = go (digits k) refl
  where
    go : (d : ℕ) → digits k ≡ d → digits j + 1 ≤ digits k
    go zero e = absurd (omega (arith, subst (λ (n : ℕ). k < 2 ^ n) e (digits_least k).holds))
    go (suc d) e =
        let u : k < 2 ^ d * 2 = rw pow-suc at (subst (λ (n : ℕ). k < 2 ^ n) e (digits_least k).holds) in
        omega (arith, (digits_least j).least d (omega arith))

pub digits_some : {k : ℕ} → 0 < k → 0 < digits k
digits_some {k} p = omega (arith, digits_half {j = 0} p zero-le)

-- closed numbers compute
ten : digits 1000 ≡ 10
unfolding digits halvings
ten = refl

thirty_two : digits 4294967295 ≡ 32
unfolding digits halvings
thirty_two = refl

-- ---- the first below a number

pub first_within : (most : ℕ) (p : ℕ → Bool) → first_below most p ≤ most
unfolding first_below
first_within zero p = zero-le
first_within (suc most) p = go (p 0) (first_within most (λ n. p (suc n)))
  where
    go : (b : Bool) → first_below most (λ n. p (suc n)) ≤ most → cond b 0 (suc (first_below most (λ n. p (suc n)))) ≤ suc most
    go true h = zero-le
    go false h = suc-le-suc h

-- none before it has the property
pub first_before : (most : ℕ) (p : ℕ → Bool) (m : ℕ) → m < first_below most p → p m ≡ false
unfolding first_below
first_before zero p m h = absurd (omega arith)
first_before (suc most) p m h = go (p 0) refl m h (first_before most (λ n. p (suc n)))
  where
    rest : ℕ
    rest = first_below most (λ n. p (suc n))

    go : (b : Bool) → p 0 ≡ b → (m : ℕ) → m < cond b 0 (suc rest) → ((k : ℕ) → k < rest → p (suc k) ≡ false) → p m ≡ false
    go true e m g r = absurd (omega arith)
    go false e zero g r = e
    go false e (suc m) g r = r m (omega arith)

-- it has the property, where one is found
pub first_there : (most : ℕ) (p : ℕ → Bool) → first_below most p < most → p (first_below most p) ≡ true
unfolding first_below
first_there zero p h = absurd (omega arith)
first_there (suc most) p h = go (p 0) refl h (first_there most (λ n. p (suc n)))
  where
    rest : ℕ
    rest = first_below most (λ n. p (suc n))

    go : (b : Bool) → p 0 ≡ b → cond b 0 (suc rest) < suc most → (rest < most → p (suc rest) ≡ true) → p (cond b 0 (suc rest)) ≡ true
    go true e g r = e
    go false e g r = r (omega arith)

-- what has none before it, and has the property itself or is `most`, is the first
pub first_is : (most : ℕ) (p : ℕ → Bool) (i : ℕ) → i ≤ most → ((m : ℕ) → m < i → p m ≡ false) → (i < most → p i ≡ true) → i ≡ first_below most p
first_is most p i h before there = go (dec_le i (first_below most p)) (dec_le (first_below most p) i)
  where
    go : Dec (i ≤ first_below most p) → Dec (first_below most p ≤ i) → i ≡ first_below most p
    go (yes a) (yes b) = omega arith
    go (no a) d = never (sym (first_there most p (omega arith)) ∙ before (first_below most p) (omega arith))
    go (yes a) (no b) = never (sym (there (omega (arith, first_within most p))) ∙ first_before most p i (omega arith))

-- looking below a number is enough where the property holds there unless it holds before
pub first_least : (most : ℕ) (p : ℕ → Bool) → (((m : ℕ) → m < most → p m ≡ false) → p most ≡ true) → Least (λ n. p n ≡ true) (first_below most p)
first_least most p h = record { holds = holds (dec_le (suc (first_below most p)) most); least = λ u e. least u e (dec_le (first_below most p) u) }
  where
    holds : Dec (suc (first_below most p) ≤ most) → p (first_below most p) ≡ true
    holds (yes a) = first_there most p a
    holds (no a) =
        let e : first_below most p ≡ most = omega (arith, first_within most p) in
        ap p e ∙ h (λ m l. first_before most p m (omega arith))

    least : (u : ℕ) → p u ≡ true → Dec (first_below most p ≤ u) → first_below most p ≤ u
    least u e (yes a) = a
    least u e (no a) = never (sym e ∙ first_before most p u (omega arith))

-- ---- whether one below a number has a property

pub some_true : (most : ℕ) (p : ℕ → Bool) (i : ℕ) → i < most → p i ≡ true → some_below most p ≡ true
some_true most p i h e = go (dec_le (first_below most p) i)
  where
    go : Dec (first_below most p ≤ i) → some_below most p ≡ true
    go (yes a) = lt-ltb (first_below most p) most (omega arith)
    go (no a) = never (sym e ∙ first_before most p i (omega arith))

pub some_false : (most : ℕ) (p : ℕ → Bool) → ((m : ℕ) → m < most → p m ≡ false) → some_below most p ≡ false
some_false most p f = le-ltb (first_below most p) most (omega (arith, first_is most p most (le_refl most) f (λ h. absurd (omega arith))))

pub none_below : (most : ℕ) (p : ℕ → Bool) → some_below most p ≡ false → (m : ℕ) → m < most → p m ≡ false
none_below most p e m h = first_before most p m (omega (arith, ltb-false (first_below most p) most e))

-- closed numbers compute: the first that has three digits, and that none below four has so many
first_of_three : first_below 9 (λ n. eqb (digits n) 3) ≡ 4
unfolding first_below digits halvings
first_of_three = refl

none_of_three : some_below 4 (λ n. eqb (digits n) 3) ≡ false
unfolding first_below digits halvings
none_of_three = refl
