-- Laws of the spelling, both ways: a sheet in any spelling is read as its numbers, and what is read is spelled. No bound on the length
-- of a text is asked. Then: every opening and list of answers whose numbers have five digits at most has a text.
-- Assumes nothing.
use Rattle.std.specs.Prelude.{ℕ, zero, suc, ◌+◌, ◌-◌, ◌*◌, ◌/◌, ◌%◌, ◌^◌, ◌≤◌, ◌<◌, ◌≡◌, refl, true, length, take, ℤ, pos, negsuc, nat_abs, Some, Ok}
use Rattle.std.proofs.Common.{sym, ap, subst, subst₂, ◌∙◌, pow-suc, div-add-mod', arith, length-append, take_at}
use mathlib.Core.List.{List, [], ◌∷◌, ◌++◌, map, flatten, append-nil, append_assoc}
use Rattle.std.proofs.lemmas.List.{length-map}
use Rattle.std.proofs.Math.Seq.{append_snoc}
use Rattle.rules.specs.declared.Opening.{Opening}
use Rattle.rules.specs.declared.Answer.{Answer}
use Rattle.rules.specs.Rules.{slots, padded}
use Rattle.forms.specs.declared.Entries.{Entries}
use Rattle.forms.specs.Bytes.{cr, lf, comma}
use Rattle.forms.specs.Number.{is_digit, all_digits, value_from, value_of, number_of}
use Rattle.forms.proofs.NumberLaws.{digit_bytes, bytes_digit, digits_head, digits_last, value_last, numeral, IsNumeral, digits_read, minus_read}
use Rattle.forms.proofs.NumberLaws.{NumberText}
use Rattle.forms.proofs.TextLaws.{LineEnd, after, records_with}
use Rattle.forms.proofs.FieldLaws.{FieldText, joined, number_field, enclosed_field, field_text}
use Rattle.forms.specs.Entries.{field_of, filled, entries_of}
use Rattle.forms.proofs.ReadingLaws.{Spells, ShareNumbers, opening_numbers, SpellsOpening, SpellsAnswers, entries_read}
use Rattle.forms.proofs.TakenLaws.{Laid, entries_laid}
use Rattle.journal.specs.Answers.{points, values}
use Rattle.journal.specs.Spelling.{digit, Digits, Numeral, Field, AnswersText, ShareText, SheetText}
use Rattle.journal.specs.Reading.{ReadAs, Reading}

-- ---- a numeral is read as its number

all_digits_lem : {s : List ℕ} {n : ℕ} → Digits s n → all_digits s ≡ true
unfolding all_digits
all_digits_lem (Digits.one d h) = digits_last [] (digit d) refl (bytes_digit (digit d) (omega arith) (omega arith))
all_digits_lem (Digits.more {s} r d h) = digits_last s (digit d) (all_digits_lem r) (bytes_digit (digit d) (omega arith) (omega arith))

pub some_digit : {s : List ℕ} {n : ℕ} → Digits s n → 1 ≤ length s
some_digit (Digits.one d h) = omega arith
some_digit (Digits.more {s} r d h) = omega (arith, length-append s (digit d ∷ []))

digits_value : {s : List ℕ} {n : ℕ} → Digits s n → value_of s ≡ n
unfolding value_from
digits_value (Digits.one d h) = omega arith
digits_value (Digits.more {s} r d h) = omega (arith, value_last 0 s (digit d), digits_value r)

pub numeral_read : {f : List ℕ} {z : ℤ} → Numeral f z → number_of f ≡ Some z
numeral_read (Numeral.plain {s} r h) = cc (digits_read s (numeral s (some_digit r) (omega arith) (all_digits_lem r)), digits_value r)
numeral_read (Numeral.negated {s} r h) = cc (minus_read s (numeral s (some_digit r) (omega arith) (all_digits_lem r)), digits_value r)

-- ---- and what is read as a number is its numeral

-- a byte that is a digit's
digit_is : (b : ℕ) → is_digit b ≡ true → (digit (b - 48) ≡ b) × (b - 48 ≤ 9)
digit_is b e = let h = digit_bytes b e in let l = h.0 in let m = h.1 in (omega arith, omega arith)

-- the digits t after those that make n
digits_after : {s : List ℕ} {n : ℕ} (t : List ℕ) → Digits s n → all_digits t ≡ true → Digits (s ++ t) (value_from n t)
unfolding value_from
digits_after {s} [] r e = rw (append-nil s) r
digits_after {s} {n} (b ∷ t) r e =
    let h = digits_head b t e in
    let d = digit_is b h.0 in
    let m : Digits (s ++ b ∷ []) (n * 10 + (b - 48)) =
    subst (λ (c : ℕ). Digits (s ++ c ∷ []) (n * 10 + (b - 48))) d.0 (Digits.more r (b - 48) (omega (arith, d.1))) in
    subst (λ (u : List ℕ). Digits u (value_from (n * 10 + (b - 48)) t)) (append_snoc s b t) (digits_after {s = s ++ b ∷ []} {n = n * 10 + (b - 48)} t m h.1)

digits_of_value : (s : List ℕ) → IsNumeral s → Digits s (value_of s)
unfolding value_from
digits_of_value [] n = absurd (omega (arith, n.some))
digits_of_value (b ∷ t) n =
    let h = digits_head b t n.digits in
    let d = digit_is b h.0 in
    let z : b - 48 ≡ 0 * 10 + (b - 48) = omega arith in
    digits_after t (subst₂ (λ (c k : ℕ). Digits (c ∷ []) k) d.0 z (Digits.one (b - 48) (omega (arith, d.1)))) h.1

number_numeral : {f : List ℕ} {z : ℤ} → NumberText f z → Numeral f z
number_numeral (NumberText.plain {s} n) = Numeral.plain (digits_of_value s n) (omega (arith, n.few))
number_numeral (NumberText.negated {s} n) = Numeral.negated (digits_of_value s n) (omega (arith, n.few))

-- ---- a field is read as its number, and what is read as a number is its field

pub field_read : {f : List ℕ} {z : ℤ} → Field f z → field_of f ≡ Some z
field_read (Field.bare {s} {z} n) = number_field s z (numeral_read n)
field_read (Field.enclosed {s} {z} n) = enclosed_field s z (numeral_read n)

text_field : {f : List ℕ} {z : ℤ} → FieldText f z → Field f z
text_field (FieldText.bare n) = Field.bare (number_numeral n)
text_field (FieldText.enclosed n) = Field.enclosed (number_numeral n)

pub read_field : {f : List ℕ} {z : ℤ} → field_of f ≡ Some z → Field f z
read_field {f} {z} e = text_field (field_text f z e)

-- ---- a text is read as its numbers

-- what stands after a record's body where these rows follow: its line end, and their records
abbrev behind : List ℕ → List (List (List ℕ)) → List ℕ
behind end rows = after end (map joined rows) ++ flatten (records_with end (map joined rows))

-- one record more
behind_more : (end : List ℕ) (row : List (List ℕ)) (rows : List (List (List ℕ))) → behind end (row ∷ rows) ≡ cr ∷ lf ∷ joined row ++ behind end rows
unfolding flatten
behind_more end row rows =
    ap (λ (t : List ℕ). cr ∷ lf ∷ t) (append_assoc (joined row) (after end (map joined rows)) (flatten (records_with end (map joined rows))))

-- the text after the first record falls into rows of fields
record Fielded (t : List ℕ) (answers : List Answer) : Type 0 where
  rows : List (List (List ℕ))
  spelled : SpellsAnswers rows (points answers) (values answers)
  end : List ℕ
  line_end : LineEnd end
  text : behind end rows ≡ t
  count : length rows ≡ length answers

answers_fielded : {t : List ℕ} {answers : List Answer} → AnswersText t answers → Fielded t answers
unfolding flatten
answers_fielded AnswersText.unended =
    record { rows = []; spelled = SpellsAnswers.no_answer; end = []; line_end = LineEnd.absent; text = refl; count = refl }
answers_fielded AnswersText.ended =
    record { rows = []; spelled = SpellsAnswers.no_answer; end = cr ∷ lf ∷ []; line_end = LineEnd.present; text = refl; count = refl }
answers_fielded (AnswersText.next {f} {g} p v r) =
    let k = answers_fielded r in
    record {
      rows = (f ∷ g ∷ []) ∷ k.rows;
      spelled = SpellsAnswers.one_answer (Spells.more (field_read p) (Spells.more (field_read v) Spells.none)) k.spelled;
      end = k.end;
      line_end = k.line_end;
      text = behind_more k.end (f ∷ g ∷ []) k.rows ∙ ap (λ (t : List ℕ). cr ∷ lf ∷ f ++ comma ∷ g ++ t) k.text;
      count = ap suc k.count;
    }

-- what stands after τ is one field or none
record ShareFielded (s : List ℕ) (p : ℤ) : Type 0 where
  fields : List (List ℕ)
  numbers : List ℤ
  share : ShareNumbers numbers p
  spelled : Spells fields numbers
  text : (k : List ℕ) → joined (k ∷ fields) ≡ k ++ s

share_fielded : {s : List ℕ} {p : ℤ} → ShareText s p → ShareFielded s p
share_fielded ShareText.absent =
    record { fields = []; numbers = []; share = ShareNumbers.absent; spelled = Spells.none; text = λ k. sym (append-nil k) }
share_fielded (ShareText.present {f} {p} h) =
    record {
      fields = f ∷ [];
      numbers = p ∷ [];
      share = ShareNumbers.present;
      spelled = Spells.more (field_read h) Spells.none;
      text = λ k. refl;
    }

-- the first record is a row of four fields and the share
first_text : (f g h k s : List ℕ) {tail : List ℕ} → tail ≡ k ++ s
    → f ++ comma ∷ (g ++ comma ∷ (h ++ comma ∷ tail)) ≡ f ++ comma ∷ g ++ comma ∷ h ++ comma ∷ k ++ s
first_text f g h k s e = rw e (simp append_assoc)

-- the whole text is the first row and what stands after it
whole_text : (end : List ℕ) (head : List (List ℕ)) (rows : List (List (List ℕ)))
    → flatten (records_with end (map joined (head ∷ rows))) ≡ joined head ++ behind end rows
unfolding flatten
whole_text end head rows = append_assoc (joined head) (after end (map joined rows)) (flatten (records_with end (map joined rows)))

-- a sheet in any spelling is read as its numbers
pub spelled_read : {t : List ℕ} {o : Opening} {answers : List Answer} → SheetText t o answers → length answers ≤ slots → ReadAs t o answers
spelled_read (SheetText.sheet {f} {g} {h} {k} {s} {o = o} {answers = answers} m x y w p t) l =
    let a = answers_fielded t in
    let d = share_fielded p in
    let row = Spells.more (field_read m) (Spells.more (field_read x) (Spells.more (field_read y) (Spells.more (field_read w) d.spelled))) in
    let head : SpellsOpening (f ∷ g ∷ h ∷ k ∷ d.fields) o = record { rest = d.numbers; share = d.share; numbers = row } in
    let e = entries_read o a.line_end head a.spelled (omega (arith, a.count)) in
    subst₂ (λ (u v : List ℕ). ReadAs (u ++ v) o answers) (first_text f g h k s (d.text k)) a.text
    (subst (λ (u : List ℕ). ReadAs u o answers) (whole_text a.end (f ∷ g ∷ h ∷ k ∷ d.fields) a.rows) e)

-- ---- and what is read is spelled

-- rows of fields are a text of answers
record Answered (end : List ℕ) (rows : List (List (List ℕ))) : Type 0 where
  answers : List Answer
  text : AnswersText (behind end rows) answers
  count : length answers ≡ length rows

rows_answered : {end : List ℕ} → LineEnd end → {rows : List (List (List ℕ))} {ps vs : List ℤ} → SpellsAnswers rows ps vs → Answered end rows
unfolding flatten
rows_answered LineEnd.present SpellsAnswers.no_answer = record { answers = []; text = AnswersText.ended; count = refl }
rows_answered LineEnd.absent SpellsAnswers.no_answer = record { answers = []; text = AnswersText.unended; count = refl }
rows_answered {end} l (SpellsAnswers.one_answer {rows = rows} {point = p} {value = v} (Spells.more {f} e (Spells.more {f = g} d Spells.none)) h) =
    let k = rows_answered l h in
    let a : Answer = record { point = p; value = v } in
    let t = AnswersText.next {f = f} {g = g} {a = a} (read_field e) (read_field d) k.text in
    record {
      answers = a ∷ k.answers;
      text = subst (λ (s : List ℕ). AnswersText s (a ∷ k.answers)) (sym (behind_more end (f ∷ g ∷ []) rows)) t;
      count = ap suc k.count;
    }

-- the opening and the answers that a text spells, as many as the slots can hold
pub record Spelled (text : List ℕ) : Type 0 where
  pub opening : Opening
  pub answers : List Answer
  pub spells : SheetText text opening answers
  pub few : length answers ≤ slots

fields_share : {fs : List (List ℕ)} {zs : List ℤ} {p : ℤ} → Spells fs zs → ShareNumbers zs p → (k : List ℕ)
    → (s : List ℕ) × ShareText s p × (joined (k ∷ fs) ≡ k ++ s)
fields_share Spells.none ShareNumbers.absent k = ([], ShareText.absent, sym (append-nil k))
fields_share (Spells.more {f} e Spells.none) ShareNumbers.present k = (comma ∷ f, ShareText.present (read_field e), refl)
fields_share {p = p} (Spells.more {f = f} {z = z} e (Spells.more {fs = fs} {zs = zs} _ _)) x k = elim x [ ]

head_spelled : {head : List (List ℕ)} {zs : List ℤ} {t : List ℕ} (o : Opening) {answers : List Answer}
    → ShareNumbers zs o.share → Spells head (opening_numbers o zs) → AnswersText t answers → SheetText (joined head ++ t) o answers
head_spelled {t = t} o {answers} h (Spells.more {f} m (Spells.more {f = g} x (Spells.more {f = e} y (Spells.more {f = k} w r)))) a =
    let p = fields_share r h k in
    let text = SheetText.sheet {o = o} (read_field m) (read_field x) (read_field y) (read_field w) p.1 a in
    subst (λ (u : List ℕ). SheetText (u ++ t) o answers) (sym (first_text f g e k p.0 p.2)) text

laid_spelled : {text : List ℕ} → Laid text → Spelled text
laid_spelled l =
    let k = rows_answered l.line_end l.spelled_rows in
    let whole = sym (whole_text l.end l.head l.rows) ∙ l.whole in
    let h = l.spelled_head in
    record {
      opening = l.opening;
      answers = k.answers;
      spells =
          subst (λ (t : List ℕ). SheetText t l.opening k.answers) whole
          (head_spelled l.opening h.share h.numbers k.text);
      few = omega (arith, l.few, k.count);
    }

pub read_spelled : (text : List ℕ) → (entries_of text).form ≡ Ok tt → Spelled text
read_spelled text e = laid_spelled (entries_laid text e)

-- ---- a text is read as one opening and one list of answers

padded_once : (xs ys : List ℤ) → length xs ≡ length ys → padded xs ≡ padded ys → xs ≡ ys
padded_once xs ys l e = sym (take_at xs _ _ refl) ∙ ap (take (length xs)) e ∙ take_at ys _ _ (sym l)

answers_once : (xs ys : List Answer) → points xs ≡ points ys → values xs ≡ values ys → xs ≡ ys
answers_once [] [] p v = refl
answers_once [] (y ∷ ys) p v = cc
answers_once (x ∷ xs) [] p v = cc
answers_once (x ∷ xs) (y ∷ ys) p v =
    let q : x.point ≡ y.point = cc in
    let w : x.value ≡ y.value = cc in
    let r : xs ≡ ys = answers_once xs ys (cc) (cc) in
    λ i. record { point = q i; value = w i } ∷ r i

filled_once : (o u : Opening) (xs ys : List Answer) → filled o (points xs) (values xs) ≡ filled u (points ys) (values ys) → (o ≡ u) × (xs ≡ ys)
filled_once o u xs ys e =
    let l : length (points xs) ≡ length (points ys) = ap (λ (x : Entries). x.count) e in
    let m : length (values xs) ≡ length (values ys) = simp length-map (simp length-map at l) in
    let p = padded_once (points xs) (points ys) l (ap (λ (x : Entries). x.points) e) in
    let v = padded_once (values xs) (values ys) m (ap (λ (x : Entries). x.values) e) in
    (ap (λ (x : Entries). x.opening) e, answers_once xs ys p v)

-- ---- the claim about the reader

pub reading : (text : List ℕ) → Reading text
reading text =
    record {
      exactly = λ o answers. (back o answers, λ h. spelled_read h.0 h.1);
      taken = λ e. let s = read_spelled text e in (s.opening, s.answers, spelled_read s.spells s.few);
      once = λ o u xs ys a b. filled_once o u xs ys (sym a ∙ b);
    }
  where
    back : (o : Opening) (answers : List Answer) → ReadAs text o answers → SheetText text o answers × (length answers ≤ slots)
    back o answers r =
        let s = read_spelled text (ap (λ (x : Entries). x.form) r) in
        let e = filled_once s.opening o s.answers answers (sym (spelled_read s.spells s.few) ∙ r) in
        (subst₂ (SheetText text) e.0 e.1 s.spells, subst (λ (xs : List Answer). length xs ≤ slots) e.1 s.few)

-- ---- every opening and list of answers has a text

-- a number of five digits at most
abbrev pub Spellable : ℤ → Type 0
Spellable z = nat_abs z ≤ 99999

pub record SpellableOpening (o : Opening) : Type 0 where
  pub method : Spellable o.method
  pub first : Spellable o.first
  pub second : Spellable o.second
  pub tolerance : Spellable o.tolerance
  pub share : Spellable o.share

abbrev pub SpellableAnswers : List Answer → Type 0
SpellableAnswers [] = Unit {0}
SpellableAnswers (a ∷ answers) = Spellable a.point × Spellable a.value × SpellableAnswers answers

-- with leading zeros, in k + 1 digits
digits_of : (k n : ℕ) → n < 10 ^ suc k → (s : List ℕ) × Digits s n × (length s ≡ suc k)
digits_of zero n h = (digit n ∷ [], Digits.one n (omega arith), refl)
digits_of (suc k) n h =
    let r = digits_of k (n / 10) (omega (arith, pow-suc 10 (suc k))) in
    let g = Digits.more r.1 (n % 10) (omega arith) in
    (_, rw (div-add-mod' n 10) at g, omega (arith, r.2, length-append r.0 (digit (n % 10) ∷ [])))

numeral_of : (z : ℤ) → Spellable z → (f : List ℕ) × Numeral f z
numeral_of (pos n) h =
    let r = digits_of 4 n (omega arith) in
    (_, Numeral.plain r.1 (omega (arith, r.2)))
numeral_of (negsuc n) h =
    let r = digits_of 4 (suc n) (omega arith) in
    (_, Numeral.negated r.1 (omega (arith, r.2)))

answers_text : (answers : List Answer) → SpellableAnswers answers → (t : List ℕ) × AnswersText t answers
answers_text [] h = (_, AnswersText.ended)
answers_text (a ∷ answers) h =
    (_, AnswersText.next (Field.bare (numeral_of a.point h.0).1) (Field.bare (numeral_of a.value h.1).1) (answers_text answers h.2).1)

pub has_text : (o : Opening) (answers : List Answer) → SpellableOpening o → SpellableAnswers answers → (t : List ℕ) × SheetText t o answers
has_text o answers h k =
    let m = numeral_of o.method h.method in
    let x = numeral_of o.first h.first in
    let y = numeral_of o.second h.second in
    let w = numeral_of o.tolerance h.tolerance in
    let p = numeral_of o.share h.share in (
      _,
      SheetText.sheet (Field.bare m.1) (Field.bare x.1) (Field.bare y.1) (Field.bare w.1) (ShareText.present (Field.bare p.1))
          (answers_text answers k).1,
    )
