-- Laws of fields: a body made of fields is cut into them, and every body is made of its fields. A field that is read as a number is
-- the number's bytes, or these between double quotes.
-- Assumes nothing.
use Rattle.std.specs.Prelude.{ℕ, suc, ◌-◌, ◌≤◌, ◌≡◌, refl, Bool, true, false, cond, List, [], ◌∷◌, ◌++◌, length, take, drop, get_or, ℤ, eqb}
use Rattle.std.specs.Prelude.{None, Some}
use Rattle.std.proofs.Common.{sym, ap, ap₂, subst, ◌∙◌, arith, length-append, take-append-drop, drop_of_length-le, take_at, drop-cons, ne_eqb, le-leb, eqb-true}
use Rattle.std.proofs.Math.Bool.{and-false}
use Rattle.std.proofs.lemmas.List.{get_or_at}
use Rattle.std.proofs.lemmas.Bool.{eqb-false}
use Rattle.std.proofs.lemmas.Option.{none-some}
use Rattle.forms.specs.Text.{comma, double_quote, onto, fields_of}
use Rattle.forms.specs.Number.{minus, is_digit, all_digits, signed_of, number_of}
use Rattle.forms.specs.Entries.{field_of}
use Rattle.forms.proofs.TextLaws.{Lacks, lacks_append}
use Rattle.forms.proofs.NumberLaws.{NumberText, number_text, text_bytes, number_bytes}

-- ---- a body made of fields

pub fields_one : (f : List ℕ) → Lacks comma f → fields_of f ≡ f ∷ []
unfolding fields_of
fields_one [] h = refl
fields_one (x ∷ f) h = simp (ne_eqb x comma h.0) (ap (onto x) (fields_one f h.1))

pub fields_append : (f s : List ℕ) → Lacks comma f → fields_of (f ++ comma ∷ s) ≡ f ∷ fields_of s
unfolding fields_of
fields_append [] s h = refl
fields_append (x ∷ f) s h = simp (ne_eqb x comma h.0) (ap (onto x) (fields_append f s h.1))

-- fields with commas between them
abbrev pub joined : List (List ℕ) → List ℕ
joined [] = []
joined (f ∷ []) = f
joined (f ∷ g ∷ fs) = f ++ comma ∷ joined (g ∷ fs)

abbrev pub AllLack : ℕ → List (List ℕ) → Type 0
AllLack x [] = Unit {0}
AllLack x (f ∷ fs) = Lacks x f × AllLack x fs

pub fields_joined : (f : List ℕ) (fs : List (List ℕ)) → AllLack comma (f ∷ fs) → fields_of (joined (f ∷ fs)) ≡ f ∷ fs
fields_joined f [] h = fields_one f h.0
fields_joined f (g ∷ fs) h =
    fields_append f (joined (g ∷ fs)) h.0 ∙ ap (λ (l : List (List ℕ)). f ∷ l) (fields_joined g fs h.1)

-- ---- every body is made of its fields

-- a byte in front of the first field
joined_onto : (x : ℕ) (fs : List (List ℕ)) → joined (onto x fs) ≡ x ∷ joined fs
joined_onto x [] = refl
joined_onto x (f ∷ []) = refl
joined_onto x (f ∷ g ∷ fs) = refl

-- an empty field in front of another
joined_empty : (x : ℕ) (fs : List (List ℕ)) → joined ([] ∷ onto x fs) ≡ comma ∷ joined (onto x fs)
joined_empty x [] = refl
joined_empty x (f ∷ fs) = refl

-- there is a first field
fields_some : (s : List ℕ) → joined ([] ∷ fields_of s) ≡ comma ∷ joined (fields_of s)
unfolding fields_of
fields_some [] = refl
fields_some (x ∷ s) = go (eqb x comma)
  where
    go : (b : Bool) → joined ([] ∷ cond b ([] ∷ fields_of s) (onto x (fields_of s))) ≡ comma ∷ joined (cond b ([] ∷ fields_of s) (onto x (fields_of s)))
    go true = refl
    go false = joined_empty x (fields_of s)

pub fields_whole : (s : List ℕ) → joined (fields_of s) ≡ s
unfolding fields_of
fields_whole [] = refl
fields_whole (x ∷ s) = go (eqb x comma) refl (fields_whole s)
  where
    go : (b : Bool) → eqb x comma ≡ b → joined (fields_of s) ≡ s → joined (cond b ([] ∷ fields_of s) (onto x (fields_of s))) ≡ x ∷ s
    go true e f = fields_some s ∙ ap₂ (λ (y : ℕ) (t : List ℕ). y ∷ t) (sym (eqb-true x comma e)) f
    go false e f = joined_onto x (fields_of s) ∙ ap (λ (t : List ℕ). x ∷ t) f

-- ---- a field is read as a number, or as one between double quotes

no_number : (s : List ℕ) → number_of (double_quote ∷ s) ≡ None
unfolding number_of signed_of all_digits
no_number s = simp and-false

-- after an opening quote: a number, and the closing quote last
pub enclosed_read : (s : List ℕ)
    → field_of (double_quote ∷ s) ≡ cond (eqb (get_or s (length s - 1) 0) double_quote) (number_of (take (length s - 1) s)) None
unfolding field_of
enclosed_read [] = no_number []
enclosed_read (b ∷ s) =
    let n = length s in
    let a : suc (suc n) - 1 ≡ suc n = omega arith in
    let c : suc (suc n) - 2 ≡ n = omega arith in
    let d : suc n - 1 ≡ n = omega arith in
    simp (a, c, d, le-leb 2 (suc (suc n)) (omega arith)) (cases (eqb (get_or (b ∷ s) n 0) double_quote))
  where
    cases : (t : Bool) → number_of (cond t (take (length s) (b ∷ s)) (double_quote ∷ b ∷ s)) ≡ cond t (number_of (take (length s) (b ∷ s))) None
    cases true = refl
    cases false = no_number (b ∷ s)

pub enclosed_last : (s : List ℕ) (x : ℕ) → field_of (double_quote ∷ s ++ x ∷ []) ≡ cond (eqb x double_quote) (number_of s) None
enclosed_last s x =
    let n : length (s ++ x ∷ []) - 1 ≡ length s = omega (arith, length-append s (x ∷ [])) in
    enclosed_read (s ++ x ∷ []) ∙ rw n (simp (get_or_at s x [] 0 (length s) refl, take_at s (x ∷ []) (length s) refl))

-- without one it is the number
pub bare_read : (b : ℕ) (s : List ℕ) → eqb b double_quote ≡ false → field_of (b ∷ s) ≡ number_of (b ∷ s)
unfolding field_of
bare_read b s e = simp (e, and-false)

-- both spellings of a number are read as it

pub number_field : (f : List ℕ) (z : ℤ) → number_of f ≡ Some z → field_of f ≡ Some z
unfolding number_of
number_field [] z e = absurd (none-some z e)
number_field (b ∷ s) z e = bare_read b s (ne_eqb b double_quote ((number_bytes (b ∷ s) z e).lacks double_quote refl refl).0) ∙ e

pub enclosed_field : (s : List ℕ) (z : ℤ) → number_of s ≡ Some z → field_of (double_quote ∷ s ++ double_quote ∷ []) ≡ Some z
enclosed_field s z e = enclosed_last s double_quote ∙ e

-- and nothing else is

pub data FieldText : List ℕ → ℤ → Type 0 where
  bare : {f : List ℕ} {z : ℤ} → NumberText f z → FieldText f z
  enclosed : {s : List ℕ} {z : ℤ} → NumberText s z → FieldText (double_quote ∷ s ++ double_quote ∷ []) z

-- all but the closing quote, and the closing quote
closed_whole : (s : List ℕ) → eqb (get_or s (length s - 1) 0) double_quote ≡ true → take (length s - 1) s ++ double_quote ∷ [] ≡ s
closed_whole [] e = let n : ◌≡◌ {A = ℕ} 0 1 = cc in absurd (omega arith)
closed_whole (b ∷ s) e =
    let n = length (b ∷ s) - 1 in
    let last : drop n (b ∷ s) ≡ double_quote ∷ [] =
    drop-cons (b ∷ s) n 0 (omega arith)
    ∙ ap₂ (λ (x : ℕ) (t : List ℕ). x ∷ t) (eqb-true _ double_quote e) (drop_of_length-le (b ∷ s) {i = suc n} (omega arith)) in
    ap (λ (t : List ℕ). take n (b ∷ s) ++ t) (sym last) ∙ take-append-drop n (b ∷ s)

enclosed_text : (s : List ℕ) (z : ℤ) → field_of (double_quote ∷ s) ≡ Some z → FieldText (double_quote ∷ s) z
enclosed_text s z e = go (eqb (get_or s (length s - 1) 0) double_quote) refl (sym (enclosed_read s) ∙ e)
  where
    go : (t : Bool) → eqb (get_or s (length s - 1) 0) double_quote ≡ t → cond t (number_of (take (length s - 1) s)) None ≡ Some z
        → FieldText (double_quote ∷ s) z
    go true c f = subst (λ (u : List ℕ). FieldText (double_quote ∷ u) z) (closed_whole s c) (enclosed (number_text (take (length s - 1) s) z f))
    go false c f = absurd (none-some z f)

pub field_text : (f : List ℕ) (z : ℤ) → field_of f ≡ Some z → FieldText f z
unfolding field_of number_of
field_text [] z e = absurd (none-some z e)
field_text (b ∷ s) z e = go (eqb b double_quote) refl
  where
    go : (t : Bool) → eqb b double_quote ≡ t → FieldText (b ∷ s) z
    go true c = let q = eqb-true b double_quote c in rw q (enclosed_text s z (rw q at e))
    go false c = bare (number_text (b ∷ s) z (sym (bare_read b s c) ∙ e))

-- so a field is short, and has no byte that is no digit, no minus and no double quote
pub record FieldBytes (f : List ℕ) : Type 0 where
  pub short : length f ≤ 8
  pub lacks : (x : ℕ) → is_digit x ≡ false → eqb x minus ≡ false → eqb x double_quote ≡ false → Lacks x f

text_field : {f : List ℕ} {z : ℤ} → FieldText f z → FieldBytes f
text_field (bare n) = let b = text_bytes n in record { short = omega (arith, b.short); lacks = λ x d m q. b.lacks x d m }
text_field (enclosed {s} n) =
    let b = text_bytes n in
    record {
      short = omega (arith, b.short, length-append s (double_quote ∷ []));
      lacks = λ x d m q.
          let other : double_quote ≡ x → ⊥ = λ g. eqb-false x double_quote q (sym g) in
          (other, lacks_append x s (double_quote ∷ []) (b.lacks x d m) (other, tt));
    }

pub field_bytes : (f : List ℕ) (z : ℤ) → field_of f ≡ Some z → FieldBytes f
field_bytes f z e = text_field (field_text f z e)
