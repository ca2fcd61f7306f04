-- The laws of the pieces: a number by its sign, a sheet as its records, and texts put into a buffer one behind the other.
-- Assumes nothing.
use Rattle.std.specs.Prelude.{ℕ, ◌+◌, ◌≤◌, ◌<◌, ◌≡◌, refl, Bool, true, false, cond, List, [], ◌∷◌, ◌++◌, ℤ, pos, negsuc, nat_abs, length, take, drop, set}
use Rattle.std.proofs.Common.{sym, ap, ap₂, ◌∙◌, arith, append_assoc, add-zero, zero-add, add-one, ltb-true}
use Rattle.std.proofs.Common.{length-append, length-drop, length-take-le, take_at, drop_at, drop-drop}
use Rattle.std.proofs.Math.Seq.{take-append_seam, append_snoc, paste-zero}
use Rattle.std.proofs.lemmas.List.{set_split}
use Rattle.std.specs.Int.Signed.{lt_z}
use Rattle.integers.specs.Signs.{eq_z}
use Rattle.integers.proofs.SignsLaws.{never}
use Rattle.rules.specs.declared.Opening.{Opening}
use Rattle.rules.specs.declared.Answer.{Answer}
use Rattle.forms.specs.Bytes.{cr, lf, comma, minus}
use Rattle.lines.specs.Decimal.{decimal_of}
use Rattle.clean_sheets.specs.Clean.{number_text, answers_text, share_text, sheet_text}
use Rattle.sheet_text.specs.Pieces.{field_text, last_text, tail_text, opening_text, answer_text, spliced, Puts}

-- ---- a number, by its sign

pub number_below : (z : ℤ) → lt_z z (pos 0) ≡ true → number_text z ≡ minus ∷ decimal_of (nat_abs z)
unfolding number_text
number_below (pos n) e = let h = ltb-true n 0 e in absurd (omega arith)
number_below (negsuc n) e = refl

pub number_above : (z : ℤ) → lt_z z (pos 0) ≡ false → number_text z ≡ decimal_of (nat_abs z)
unfolding number_text
number_above (pos n) e = refl
number_above (negsuc n) e = never e

-- ---- the end of an opening's record, by p

module _ (t p : ℤ) where
  pub tail_alone : eq_z p (pos 0) ≡ true → tail_text t p ≡ last_text t
  unfolding tail_text
  tail_alone e = simp e

  pub tail_with_share : eq_z p (pos 0) ≡ false → tail_text t p ≡ field_text t comma ++ last_text p
  unfolding tail_text
  tail_with_share e = simp e

-- ---- the sheet is its records, one after the other

three_fields : (m x y rest : List ℕ)
    → m ++ comma ∷ x ++ comma ∷ y ++ comma ∷ rest ≡ (m ++ comma ∷ []) ++ (x ++ comma ∷ []) ++ (y ++ comma ∷ []) ++ rest
three_fields m x y rest = simp append_assoc

-- what stands before the answers, after the first three fields
tail_text_lem : (t p : ℤ) (rest : List ℕ) → number_text t ++ (share_text p ++ cr ∷ lf ∷ rest) ≡ tail_text t p ++ rest
unfolding tail_text
tail_text_lem t p rest = go (eq_z p (pos 0))
  where
    go : (b : Bool)
        → number_text t ++ (cond b [] (comma ∷ number_text p) ++ cr ∷ lf ∷ rest) ≡ cond b (last_text t) (field_text t comma ++ last_text p) ++ rest
    go true = simp append_assoc
    go false = simp append_assoc

pub sheet_records : (o : Opening) (answers : List Answer) → sheet_text o answers ≡ opening_text o ++ answers_text answers
unfolding sheet_text opening_text
sheet_records o answers =
    let m = number_text o.method in
    let x = number_text o.first in
    let y = number_text o.second in
    let t = number_text o.tolerance in
    let p = share_text o.share in
    let rest = answers_text answers in
    let ends = m ++ comma ∷ x ++ comma ∷ y in
    let three = field_text o.method comma ++ field_text o.first comma ++ field_text o.second comma in
    append_assoc (ends ++ comma ∷ t) p (cr ∷ lf ∷ rest)
    ∙ append_assoc ends (comma ∷ t) (p ++ cr ∷ lf ∷ rest)
    ∙ three_fields m x y (t ++ (p ++ cr ∷ lf ∷ rest))
    ∙ ap (λ (l : List ℕ). three ++ l) (tail_text_lem o.tolerance o.share rest)
    ∙ sym (append_assoc three (tail_text o.tolerance o.share) rest)

pub answer_record : (x : ℕ) (v : ℤ) (answers : List Answer)
    → answers_text (record { point = pos x; value = v } ∷ answers) ≡ answer_text x v ++ answers_text answers
unfolding answers_text answer_text
answer_record x v answers = simp append_assoc

-- how long a record is, by its fields
pub opening_length : (o : Opening)
    → length (opening_text o)
    ≡ length (field_text o.method comma) + length (field_text o.first comma) + length (field_text o.second comma)
    + length (tail_text o.tolerance o.share)
unfolding opening_text
opening_length o =
    let a = field_text o.method comma ++ field_text o.first comma in
    let b = a ++ field_text o.second comma in
    omega (
      arith,
      length-append b (tail_text o.tolerance o.share),
      length-append a (field_text o.second comma),
      length-append (field_text o.method comma) (field_text o.first comma),
    )

pub answer_length : (x : ℕ) (v : ℤ) → length (answer_text x v) ≡ length (decimal_of x) + 1 + length (last_text v)
unfolding answer_text number_text
answer_length x v =
    let a = decimal_of x ++ comma ∷ [] in
    omega (arith, length-append a (last_text v), length-append (decimal_of x) (comma ∷ []))

-- ---- a text in the middle of a buffer

module _ (b : List ℕ) (at : ℕ) where
  spliced_length : (s : List ℕ) → at + length s ≤ length b → length (spliced b at s) ≡ length b
  spliced_length s h =
      omega (
        arith,
        length-append (take at b ++ s) (drop (at + length s) b),
        length-append (take at b) s,
        length-take-le at b (omega arith),
        length-drop (at + length s) b,
      )

  -- one text, and then another behind it
  spliced_more : (s t : List ℕ) → at + length s + length t ≤ length b → spliced (spliced b at s) (at + length s) t ≡ spliced b at (s ++ t)
  spliced_more s t h =
      let n : length (take at b ++ s) ≡ at + length s = omega (arith, length-append (take at b) s, length-take-le at b (omega arith)) in
      let e : take (at + length s) (spliced b at s) ≡ take at b ++ s = take_at (take at b ++ s) (drop (at + length s) b) (at + length s) n in
      let q : at + length s + length t ≡ at + length (s ++ t) = omega (arith, length-append s t) in
      let f : drop (at + length s + length t) (spliced b at s) ≡ drop (at + length (s ++ t)) b =
      sym (drop-drop (length t) (at + length s) (spliced b at s))
      ∙ ap (drop (length t)) (drop_at (take at b ++ s) (drop (at + length s) b) (at + length s) n)
      ∙ drop-drop (length t) (at + length s) b
      ∙ ap (λ (k : ℕ). drop k b) q in
      ap₂ (λ (x y : List ℕ). x ++ t ++ y) e f ∙ simp append_assoc

-- ---- a text put

module _ {before : List ℕ} {at : ℕ} {text after : List ℕ} {end : ℕ} (p : Puts before at text after end) where
  -- the buffer is as long as it was
  pub same_size : length after ≡ length before
  same_size = ap length p.bytes ∙ spliced_length before at text p.room

  -- another text behind it
  pub puts_more : {more last : List ℕ} {stop : ℕ} → Puts after end more last stop → Puts before at (text ++ more) last stop
  puts_more {more} q =
      let n : length (text ++ more) ≡ length text + length more = length-append text more in
      let room : at + length text + length more ≤ length before = omega (arith, q.room, p.ends, same_size) in
      record {
        room = omega arith;
        bytes =
            q.bytes
            ∙ ap₂ (λ (b : List ℕ) (k : ℕ). spliced b k more) p.bytes p.ends
            ∙ spliced_more before at text more room;
        ends = omega (arith, q.ends, p.ends);
      }

-- nothing
pub puts_none : (before : List ℕ) (at : ℕ) → at ≤ length before → Puts before at [] before at
puts_none before at h = record { room = omega arith; bytes = paste-zero before at []; ends = sym (add-zero at) }

-- one byte
pub puts_byte : (before : List ℕ) (at x : ℕ) → at < length before → Puts before at (x ∷ []) (set before at x) (at + 1)
puts_byte before at x h =
    record {
      room = omega arith;
      bytes = set_split before at x h ∙ ap (λ (n : ℕ). take at before ++ x ∷ drop n before) (sym (add-one at)) ∙ sym (append_snoc (take at before) x _);
      ends = refl;
    }

-- a text put at the beginning
module _ {before text after : List ℕ} {end : ℕ} (p : Puts before 0 text after end) where
  pub front_length : end ≡ length text
  front_length = p.ends ∙ zero-add (length text)

  pub front_text : take end after ≡ text
  front_text = ap₂ take front_length p.bytes ∙ take-append_seam text (drop (0 + length text) before)

-- the same in the code's words
pub in_words : {before : List ℕ} {at : ℕ} {text text' after after' : List ℕ} {end end' : ℕ} → Puts before at text after end
    → text ≡ text' → after' ≡ after → end' ≡ end → Puts before at text' after' end'
in_words p e f g = rw (← e, f, g) p
