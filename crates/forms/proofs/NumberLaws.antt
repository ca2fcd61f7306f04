-- Laws of numbers: digits are read as their value, and a field that is read as a number is an optional minus and 1 to 5 digits.
-- Assumes nothing.
use Rattle.std.specs.Prelude.{ℕ, ◌+◌, ◌-◌, ◌*◌, ◌≤◌, ◌≡◌, refl, Bool, true, false, cond, ◌&&◌, List, [], ◌∷◌, ◌++◌, length, ℤ, pos, neg_ℤ, eqb, leb}
use Rattle.std.specs.Prelude.{None, Some}
use Rattle.std.proofs.Common.{ap, ◌∙◌, arith, ne_eqb, le-leb, leb-true, eqb-true}
use Rattle.std.proofs.Math.Bool.{and-eq-true_iff}
use Rattle.std.proofs.lemmas.Option.{none-some, cond_some}
use Rattle.forms.specs.Number.{minus, is_digit, all_digits, value_from, value_of, is_numeral, signed, signed_of, number_of}
use Rattle.forms.proofs.TextLaws.{Lacks}

-- ---- digits read as their value

never : (b : Bool) → b ≡ true → b ≡ false → ⊥
never b e f = let z : ◌≡◌ {A = ℕ} 0 1 = cc in omega arith

pub both : (a b : Bool) → (a && b) ≡ true → (a ≡ true) × (b ≡ true)
both a b e = (and-eq-true_iff a b).0 e

-- the bytes 48 to 57
pub digit_bytes : (b : ℕ) → is_digit b ≡ true → (48 ≤ b) × (b ≤ 57)
digit_bytes b e = let h = both (leb 48 b) (leb b 57) e in (leb-true 48 b h.0, leb-true b 57 h.1)

pub bytes_digit : (b : ℕ) → 48 ≤ b → b ≤ 57 → is_digit b ≡ true
bytes_digit b h k = simp (le-leb 48 b h, le-leb b 57 k)

-- the first of some digits, and the others
pub digits_head : (b : ℕ) (s : List ℕ) → all_digits (b ∷ s) ≡ true → (is_digit b ≡ true) × (all_digits s ≡ true)
unfolding all_digits
digits_head b s e = both (is_digit b) (all_digits s) e

-- one more digit at the end
pub digits_last : (s : List ℕ) (b : ℕ) → all_digits s ≡ true → is_digit b ≡ true → all_digits (s ++ b ∷ []) ≡ true
unfolding all_digits
digits_last [] b e d = simp d
digits_last (c ∷ s) b e d = let h = both (is_digit c) (all_digits s) e in simp h.0 (digits_last s b h.1 d)

pub value_last : (v : ℕ) (s : List ℕ) (b : ℕ) → value_from v (s ++ b ∷ []) ≡ value_from v s * 10 + (b - 48)
unfolding value_from
value_last v [] b = refl
value_last v (c ∷ s) b = value_last (v * 10 + (c - 48)) s b

-- ---- 1 to 5 digits

pub numeral : (s : List ℕ) → 1 ≤ length s → length s ≤ 5 → all_digits s ≡ true → is_numeral s ≡ true
numeral s m n h = simp (le-leb 1 (length s) m, le-leb (length s) 5 n, h)

pub record IsNumeral (s : List ℕ) : Type 0 where
  pub some : 1 ≤ length s
  pub few : length s ≤ 5
  pub digits : all_digits s ≡ true

pub numeral_is : (s : List ℕ) → is_numeral s ≡ true → IsNumeral s
numeral_is s e =
    let h = both (leb 1 (length s)) _ e in
    let k = both (leb (length s) 5) (all_digits s) h.1 in
    record { some = leb-true 1 (length s) h.0; few = leb-true (length s) 5 k.0; digits = k.1 }

signed_read : (negative : Bool) (s : List ℕ) → is_numeral s ≡ true → signed_of negative s ≡ Some (signed negative (value_of s))
unfolding signed_of
signed_read negative s e = ap (λ (b : Bool). cond b (Some (signed negative (value_of s))) None) e

-- a numeral is read as it is, and negated after a minus

pub digits_read : (s : List ℕ) → is_numeral s ≡ true → number_of s ≡ Some (pos (value_of s))
unfolding number_of
digits_read [] e = absurd (never false e refl)
digits_read (b ∷ s) e =
    let d = digit_bytes b (digits_head b s (numeral_is (b ∷ s) e).digits).0 in
    simp (ne_eqb b minus (λ f. omega (arith, d.0))) (signed_read false (b ∷ s) e)

pub minus_read : (s : List ℕ) → is_numeral s ≡ true → number_of (minus ∷ s) ≡ Some (neg_ℤ (pos (value_of s)))
unfolding number_of
minus_read s e = signed_read true s e

-- ---- and nothing else is read as a number

-- the bytes of a number: 1 to 5 digits, or a minus and 1 to 5 digits
pub data NumberText : List ℕ → ℤ → Type 0 where
  plain : {s : List ℕ} → IsNumeral s → NumberText s (pos (value_of s))
  negated : {s : List ℕ} → IsNumeral s → NumberText (minus ∷ s) (neg_ℤ (pos (value_of s)))

signed_is : (negative : Bool) (s : List ℕ) (z : ℤ) → signed_of negative s ≡ Some z → (is_numeral s ≡ true) × (signed negative (value_of s) ≡ z)
unfolding signed_of
signed_is negative s z e = cond_some (is_numeral s) (signed negative (value_of s)) z e

pub number_text : (f : List ℕ) (z : ℤ) → number_of f ≡ Some z → NumberText f z
unfolding number_of
number_text [] z e = absurd (none-some z e)
number_text (b ∷ s) z e = go (eqb b minus) refl e
  where
    go : (t : Bool) → eqb b minus ≡ t → cond t (signed_of true s) (signed_of false (b ∷ s)) ≡ Some z → NumberText (b ∷ s) z
    go true m f =
        let n = signed_is true s z f in
        rw (eqb-true b minus m, ← n.1) (negated (numeral_is s n.0))
    go false m f = let n = signed_is false (b ∷ s) z f in rw (← n.1) (plain (numeral_is (b ∷ s) n.0))

-- so a number is short, and has no byte that is no digit and no minus
pub record NumberBytes (f : List ℕ) : Type 0 where
  pub short : length f ≤ 6
  pub lacks : (x : ℕ) → is_digit x ≡ false → eqb x minus ≡ false → Lacks x f

pub digits_lack : (x : ℕ) (s : List ℕ) → is_digit x ≡ false → all_digits s ≡ true → Lacks x s
digits_lack x [] n e = tt
digits_lack x (b ∷ s) n e =
    let h = digits_head b s e in
    ((λ f. never (is_digit b) h.0 (ap is_digit f ∙ n)), digits_lack x s n h.1)

pub text_bytes : {f : List ℕ} {z : ℤ} → NumberText f z → NumberBytes f
text_bytes (plain {s} n) = record { short = omega (arith, n.few); lacks = λ x d k. digits_lack x s d n.digits }
text_bytes (negated {s} n) =
    record {
      short = omega (arith, n.few);
      lacks = λ x d k. ((λ g. never (eqb minus minus) refl (ap (λ (y : ℕ). eqb y minus) g ∙ k)), digits_lack x s d n.digits);
    }

pub number_bytes : (f : List ℕ) (z : ℤ) → number_of f ≡ Some z → NumberBytes f
number_bytes f z e = text_bytes (number_text f z e)
