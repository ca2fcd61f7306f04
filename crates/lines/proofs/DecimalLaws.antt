-- Laws of printed numbers: what the digits of n are, one by one and as a whole, and how many.
-- Assumes nothing.
use Rattle.std.specs.Prelude.{ℕ, zero, suc, ◌+◌, ◌-◌, ◌*◌, ◌/◌, ◌%◌, ◌^◌, ◌≤◌, ◌<◌, ◌≡◌, length, get_or}
use Rattle.std.proofs.Common.{sym, ◌∙◌, lt-suc_self, pow-suc, arith, length-append, lt-ltb, le-ltb}
use mathlib.Core.List.{List, [], ◌∷◌, ◌++◌, foldl, foldl-append}
use Rattle.std.proofs.Math.Decide.{dec_lt}
use Rattle.std.proofs.Math.ListN.{get_or-append}
use Rattle.lines.specs.Decimal.{digit_byte, decimal_within, decimal_of, number_fields}

-- ---- digits one by one

one_digit : (f n : ℕ) → n < 10 → decimal_within (suc f) n ≡ digit_byte n ∷ []
unfolding decimal_within
one_digit f n h = rw (lt-ltb n 10 h, decimal_within)

more_digits : (f n : ℕ) → 10 ≤ n → decimal_within (suc f) n ≡ decimal_within f (n / 10) ++ (digit_byte (n % 10) ∷ [])
unfolding decimal_within
more_digits f n h = rw (le-ltb n 10 h, decimal_within)

-- induction on a number's decimal digits
pub by_digits : (P : ℕ → Type 0) → ((n : ℕ) → n < 10 → P n) → ((n : ℕ) → 10 ≤ n → P (n / 10) → P n) → (n : ℕ) → P n
by_digits P one more n = within (suc n) n (lt-suc_self n)
  where
    within : (f m : ℕ) → m < f → P m
    within zero m h = absurd (omega arith)
    within (suc f) m h =
        elim (dec_lt m 10) [ yes few ↦ one m few | no many ↦ more m (omega arith) (within f (m / 10) (omega arith)) ]

-- more room than n + 1 changes nothing
few : (n : ℕ) → n < 10 → (f : ℕ) → n < f → decimal_within f n ≡ decimal_of n
unfolding decimal_of
few n h zero e = absurd (omega arith)
few n h (suc f) e = one_digit f n h ∙ sym (one_digit n n h)

many : (n : ℕ) → 10 ≤ n → ((f : ℕ) → n / 10 < f → decimal_within f (n / 10) ≡ decimal_of (n / 10))
    → (f : ℕ) → n < f → decimal_within f n ≡ decimal_of n
unfolding decimal_of
many n h rest zero e = absurd (omega arith)
many n h rest (suc f) e =
    more_digits f n h ∙ rw (rest f (omega arith), ← rest n (omega arith)) (sym (more_digits n n h))

pub decimal_one : (n : ℕ) → n < 10 → decimal_of n ≡ digit_byte n ∷ []
unfolding decimal_of
decimal_one n h = one_digit n n h

pub decimal_more : (n : ℕ) → 10 ≤ n → decimal_of n ≡ decimal_of (n / 10) ++ (digit_byte (n % 10) ∷ [])
unfolding decimal_of
decimal_more n h =
    more_digits n n h
    ∙ rw (by_digits (λ m. (f : ℕ) → m < f → decimal_within f m ≡ decimal_of m) few many (n / 10) n (omega arith))

-- ---- what they are

-- P holds of every element
abbrev pub Each : (ℕ → Type 0) → List ℕ → Type 0
Each P [] = Unit {0}
Each P (x ∷ xs) = P x × Each P xs

each_append : (P : ℕ → Type 0) (xs ys : List ℕ) → Each P xs → Each P ys → Each P (xs ++ ys)
each_append P [] ys p q = q
each_append P (x ∷ xs) ys p q = (p.0, each_append P xs ys p.1 q)

-- the bytes of `0` to `9`
abbrev pub IsDigit : ℕ → Type 0
IsDigit b = (48 ≤ b) × (b ≤ 57)

-- the number that digits make
abbrev pub decimal_value : List ℕ → ℕ
decimal_value = foldl (λ v b. v * 10 + (b - 48)) 0

-- bytes that print n: digits alone, so that no field needs quotes; they make n; and the first is no 0, unless n is 0
pub record Prints (n : ℕ) (bytes : List ℕ) : Type 0 where
  pub some : 0 < length bytes
  pub digits : Each IsDigit bytes
  pub makes : decimal_value bytes ≡ n
  pub first : 0 < n → 48 < get_or bytes 0 0

pub decimal_prints : (n : ℕ) → Prints n (decimal_of n)
decimal_prints = by_digits (λ n. Prints n (decimal_of n)) one more
  where
    one : (n : ℕ) → n < 10 → Prints n (decimal_of n)
    one n h = rw (decimal_one n h) (record { some = omega arith; digits = ((omega arith, omega arith), tt); makes = omega arith; first = λ p. omega arith })

    more : (n : ℕ) → 10 ≤ n → Prints (n / 10) (decimal_of (n / 10)) → Prints n (decimal_of n)
    more n h e =
        let tenth = decimal_of (n / 10) in
        let last = digit_byte (n % 10) ∷ [] in
        rw (decimal_more n h)
        (record {
          some = rw length-append (omega arith);
          digits = each_append IsDigit tenth last e.digits ((omega arith, omega arith), tt);
          makes = rw (foldl-append, e.makes) (omega arith);
          first = λ p. rw (get_or-append tenth last 0 0 e.some) (e.first (omega arith));
        })

-- ---- how many they are

-- a number below 10 ^ k has at most k of them, if k is not 0
abbrev DigitsAtMost : ℕ → ℕ → Type 0
DigitsAtMost n k = n < 10 ^ k → length (decimal_of n) ≤ k

pub decimal_length : (n k : ℕ) → n < 10 ^ suc k → length (decimal_of n) ≤ suc k
decimal_length = by_digits (λ n. (k : ℕ) → DigitsAtMost n (suc k)) (λ n h k e. rw (decimal_one n h) (omega arith)) longer
  where
    longer : (n : ℕ) → 10 ≤ n → ((k : ℕ) → DigitsAtMost (n / 10) (suc k)) → (k : ℕ) → DigitsAtMost n (suc k)
    longer n h rest zero e = absurd (omega arith)
    longer n h rest (suc k) e =
        rw (decimal_more n h, length-append) (omega (arith, rest k (omega (arith, pow-suc 10 (suc k)))))

-- ten digits and a comma for each number of 32 bits
pub fields_length : (ns : List ℕ) → Each (λ n. n < 2 ^ 32) ns → length (number_fields ns) ≤ 11 * length ns
unfolding number_fields
fields_length [] h = omega arith
fields_length (n ∷ ns) h =
    rw length-append (omega (arith, decimal_length n 9 (omega (arith, h.0)), fields_length ns h.1))
