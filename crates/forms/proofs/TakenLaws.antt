-- What is read is a sheet: the other way round of ReadingLaws. Every text that is read is a list of rows, a row a list of fields, and
-- a field the bytes of a number, between double quotes or not: four or five fields to the opening, two to each answer, and no more answers than
-- slots; CR LF after each row, or after each but the last.
-- Assumes nothing.
use Rattle.std.specs.Prelude.{ℕ, zero, suc, ◌+◌, ◌≤◌, ◌≡◌, Bool, ◌||◌, length, ℤ, eqb, ltb}
use Rattle.std.specs.Prelude.{Option, None, Some, Ok}
use Rattle.std.proofs.Math.Path.{refl}
use Rattle.std.proofs.Common.{sym, ap, ap₂, subst, ◌∙◌, arith, eqb-true}
use Rattle.std.proofs.Math.Bool.{true, false, cond}
use mathlib.Core.List.{List, [], ◌∷◌, map, flatten}
use Rattle.std.proofs.lemmas.Bool.{eqb-false}
use Rattle.std.proofs.lemmas.Option.{none-some, same_Some}
use Rattle.rules.specs.declared.Answer.{Answer}
use Rattle.rules.specs.declared.Opening.{Opening}
use Rattle.rules.specs.Rules.{slots}
use Rattle.forms.specs.declared.Entries.{Entries}
use Rattle.forms.specs.Text.{records_of, body_of, fields_of}
use Rattle.forms.specs.Entries.{longest_text, too_long, too_many, malformed, whole_text, opening_place, answer_place}
use Rattle.forms.specs.Entries.{field_of, numbers_of, none_malformed, are_numbers, integer_of, integer_at, answer_of, opening_with, opening_of}
use Rattle.forms.specs.Entries.{refused, opened, entered, answers_from, records_read, entries_of}
use Rattle.forms.proofs.TextLaws.{LineEnd, Lined, records_with, records_whole, records_lined}
use Rattle.forms.proofs.FieldLaws.{joined, fields_whole}
use Rattle.forms.proofs.NumberLaws.{both}
use Rattle.forms.proofs.ReadingLaws.{Spells, ShareNumbers, opening_numbers, SpellsOpening, SpellsAnswers}

-- ---- a record that is read is a row

pub record RecordText (r : List ℕ) (zs : List ℤ) : Type 0 where
  pub fields : List (List ℕ)
  pub spelled : Spells fields zs
  pub whole : joined fields ≡ body_of r

-- fields none of which is malformed are spellings of their numbers
fields_spelled : (fs : List (List ℕ)) → none_malformed (map field_of fs) ≡ true → Spells fs (map integer_of (map field_of fs))
fields_spelled [] e = Spells.none
fields_spelled (f ∷ fs) e = go (field_of f) refl e (fields_spelled fs)
  where
    go : (n : Option ℤ) → field_of f ≡ n → none_malformed (n ∷ map field_of fs) ≡ true
        → (none_malformed (map field_of fs) ≡ true → Spells fs (map integer_of (map field_of fs)))
        → Spells (f ∷ fs) (integer_of n ∷ map integer_of (map field_of fs))
    go (Some z) d h more = Spells.more d (more h)
    go None d h more = let n : ◌≡◌ {A = ℕ} 0 1 = cc in absurd (omega arith)

-- a record of k numbers that is not malformed: what is made of its numbers is what it is read as
record Made {A : Type 0} (k : ℕ) (r : List ℕ) (make : List (Option ℤ) → A) (a : A) : Type 0 where
  text : RecordText r (map integer_of (numbers_of (body_of r)))
  count : length (numbers_of (body_of r)) ≡ k
  made : make (numbers_of (body_of r)) ≡ a

record_read : {A : Type 0} (k : ℕ) (r : List ℕ) (make : List (Option ℤ) → A) (bad a : A) → (bad ≡ a → ⊥)
    → cond (are_numbers k (numbers_of (body_of r))) (make (numbers_of (body_of r))) bad ≡ a → Made k r make a
record_read k r make bad a fine = go (are_numbers k (numbers_of (body_of r))) refl
  where
    go : (n : Bool) → are_numbers k (numbers_of (body_of r)) ≡ n → cond n (make (numbers_of (body_of r))) bad ≡ a → Made k r make a
    go true n e =
        let h = both (eqb (length (numbers_of (body_of r))) k) _ n in
        record {
          text =
              record {
                fields = fields_of (body_of r);
                spelled = fields_spelled (fields_of (body_of r)) h.1;
                whole = fields_whole (body_of r);
              };
          count = eqb-true _ k h.0;
          made = e;
        }
    go false n e = absurd (fine e)

-- the integers at k places, from place i on
abbrev integers_from : ℕ → ℕ → List (Option ℤ) → List ℤ
integers_from i zero ns = []
integers_from i (suc k) ns = integer_at ns i ∷ integers_from (suc i) k ns

integers_later : (n : Option ℤ) (ns : List (Option ℤ)) (i k : ℕ) → integers_from (suc i) k (n ∷ ns) ≡ integers_from i k ns
integers_later n ns i zero = refl
integers_later n ns i (suc k) = ap (λ (zs : List ℤ). integer_at ns i ∷ zs) (integers_later n ns (suc i) k)

all_integers : (k : ℕ) (ns : List (Option ℤ)) → length ns ≡ k → map integer_of ns ≡ integers_from 0 k ns
all_integers zero [] e = refl
all_integers zero (n ∷ ns) e = absurd (omega arith)
all_integers (suc k) [] e = absurd (omega arith)
all_integers (suc k) (n ∷ ns) e =
    ap (λ (zs : List ℤ). integer_of n ∷ zs) (all_integers k ns (omega arith) ∙ sym (integers_later n ns 0 k))

answer_record : (r : List ℕ) (a : Answer) → answer_of r ≡ Some a → RecordText r (a.point ∷ a.value ∷ [])
unfolding answer_of
answer_record r a e =
    let ns = numbers_of (body_of r) in
    let d = record_read 2 r (λ ns. Some (record { point = integer_at ns 0; value = integer_at ns 1 })) None (Some a) (none-some a) e in
    let same = same_Some _ a d.made in
    subst (λ (b : Answer). RecordText r (b.point ∷ b.value ∷ [])) same
    (subst (RecordText r) (all_integers 2 ns d.count) d.text)

-- the text of an opening is a row of four or of five
pub record OpeningRow (text : List ℕ) (o : Opening) : Type 0 where
  pub fields : List (List ℕ)
  pub spelled : SpellsOpening fields o
  pub whole : joined fields ≡ text

-- what four or five numbers make
abbrev opened_by : List (Option ℤ) → Option Opening
opened_by ns = Some (opening_with ns)

module _ (r : List ℕ) (o : Opening) where
  abbrev numbers : List (Option ℤ)
  numbers = numbers_of (body_of r)

  abbrev MadeOf : ℕ → Type 0
  MadeOf k = Made k r opened_by (Some o)

  made_of : (k : ℕ) → cond (are_numbers k numbers) (opened_by numbers) None ≡ Some o → MadeOf k
  made_of k = record_read k r opened_by None (Some o) (none-some o)

  -- a row of k numbers, where zs stand after τ
  row_of : (k : ℕ) (zs : List ℤ) → MadeOf k → integers_from 0 k numbers ≡ opening_numbers (opening_with numbers) zs
      → ShareNumbers zs (opening_with numbers).share → OpeningRow (body_of r) o
  row_of k zs d e h =
      let same = same_Some (opening_with numbers) o d.made in
      let spelled = subst (Spells d.text.fields) (all_integers k numbers d.count ∙ e) d.text.spelled in
      subst (OpeningRow (body_of r)) same
      (record { fields = d.text.fields; spelled = record { rest = zs; share = h; numbers = spelled }; whole = d.text.whole })

  opening_record : opening_of r ≡ Some o → OpeningRow (body_of r) o
  unfolding opening_of
  opening_record = go (are_numbers 4 numbers) refl
    where
      go : (b : Bool) → are_numbers 4 numbers ≡ b
          → cond (b || are_numbers 5 numbers) (opened_by numbers) None ≡ Some o
          → OpeningRow (body_of r) o
      go true n h = let d = made_of 4 (rw n h) in row_of 4 [] d refl (rw d.count ShareNumbers.absent)
      go false n h = let d = made_of 5 h in row_of 5 (integer_at numbers 4 ∷ []) d refl (rw d.count ShareNumbers.present)

-- ---- the answers' records are rows

pub record RecordsText (rs : List (List ℕ)) : Type 0 where
  pub rows : List (List (List ℕ))
  pub points : List ℤ
  pub values : List ℤ
  pub spelled : SpellsAnswers rows points values
  pub whole : map joined rows ≡ map body_of rs
  pub count : length rows ≡ length rs

more_rows : (r : List ℕ) (rs : List (List ℕ)) (point value : ℤ) → RecordText r (point ∷ value ∷ []) → RecordsText rs → RecordsText (r ∷ rs)
more_rows r rs point value a k =
    record {
      rows = a.fields ∷ k.rows;
      points = point ∷ k.points;
      values = value ∷ k.values;
      spelled = SpellsAnswers.one_answer a.spelled k.spelled;
      whole = ap₂ (λ (b : List ℕ) (bs : List (List ℕ)). b ∷ bs) a.whole k.whole;
      count = ap suc k.count;
    }

-- after the answers of e
pub record AnswersTaken (e : Entries) (rs : List (List ℕ)) : Type 0 where
  pub rows : RecordsText rs
  pub few : e.count + length rs ≤ slots

no_refusal : (n k : ℕ) {X : Type 0} → (refused n k).form ≡ Ok tt → X
unfolding refused
no_refusal n k e = let z : ◌≡◌ {A = ℕ} 0 1 = cc in absurd (omega arith)

answers_taken : (e : Entries) (rs : List (List ℕ)) → e.count ≤ slots → (answers_from e rs).form ≡ Ok tt → AnswersTaken e rs
unfolding answers_from entered
answers_taken e [] h f =
    record {
      rows = record { rows = []; points = []; values = []; spelled = SpellsAnswers.no_answer; whole = refl; count = refl };
      few = omega arith;
    }
answers_taken e (r ∷ rs) h f = go (eqb e.count slots) refl (answer_of r) refl (λ x v. answers_taken (entered e x v) rs) f
  where
    go : (b : Bool) → eqb e.count slots ≡ b → (a : Option Answer) → answer_of r ≡ a
        → ((x v : ℤ) → e.count + 1 ≤ slots → (answers_from (entered e x v) rs).form ≡ Ok tt → AnswersTaken (entered e x v) rs)
        → (cond {A = Entries} b (refused too_many (answer_place e.count))
        (elim a [ Some x ↦ answers_from (entered e x.point x.value) rs | None ↦ refused malformed (answer_place e.count) ])
        ).form ≡ Ok tt
        → AnswersTaken e (r ∷ rs)
    go true c a d more f = no_refusal _ _ f
    go false c (Some a) d more f =
        let t = more a.point a.value (omega (arith, eqb-false e.count slots c)) f in
        record { rows = more_rows r rs a.point a.value (answer_record r a d) t.rows; few = omega (arith, t.few) }
    go false c None d more f = no_refusal _ _ f

-- ---- the whole text

-- how a text that is read lies
pub record Laid (text : List ℕ) : Type 0 where
  pub opening : Opening
  pub head : List (List ℕ)
  pub rows : List (List (List ℕ))
  pub points : List ℤ
  pub values : List ℤ
  pub end : List ℕ
  pub spelled_head : SpellsOpening head opening
  pub spelled_rows : SpellsAnswers rows points values
  pub line_end : LineEnd end
  pub few : length rows ≤ slots
  pub whole : flatten (records_with end (map joined (head ∷ rows))) ≡ text

laid : (r : List ℕ) (rs : List (List ℕ)) (o : Opening) → Lined (r ∷ rs) → OpeningRow (body_of r) o → AnswersTaken (opened o) rs
    → Laid (flatten (r ∷ rs))
unfolding opened
laid r rs o l h t =
    let bodies : map joined (h.fields ∷ t.rows.rows) ≡ map body_of (r ∷ rs) =
    ap₂ (λ (b : List ℕ) (bs : List (List ℕ)). b ∷ bs) h.whole t.rows.whole in
    record {
      opening = o;
      head = h.fields;
      rows = t.rows.rows;
      points = t.rows.points;
      values = t.rows.values;
      end = l.end;
      spelled_head = h.spelled;
      spelled_rows = t.rows.spelled;
      line_end = l.line_end;
      few = omega (arith, t.few, t.rows.count);
      whole = ap flatten (ap (records_with l.end) bodies ∙ l.whole);
    }

records_laid : (rs : List (List ℕ)) → Lined rs → (records_read rs).form ≡ Ok tt → Laid (flatten rs)
unfolding records_read opened
records_laid [] l f = no_refusal _ _ f
records_laid (r ∷ rs) l f = go (opening_of r) refl f
  where
    go : (a : Option Opening) → opening_of r ≡ a
        → (elim a as (λ x. Entries) [ Some o ↦ answers_from (opened o) rs | None ↦ refused malformed opening_place ]
        ).form ≡ Ok tt
        → Laid (flatten (r ∷ rs))
    go (Some o) d f = laid r rs o l (opening_record r o d) (answers_taken (opened o) rs (omega arith) f)
    go None d f = no_refusal _ _ f

pub entries_laid : (text : List ℕ) → (entries_of text).form ≡ Ok tt → Laid text
unfolding entries_of
entries_laid text = go (ltb longest_text (length text))
  where
    go : (b : Bool) → (cond b (refused too_long whole_text) (records_read (records_of text))).form ≡ Ok tt → Laid text
    go true f = no_refusal _ _ f
    go false f = subst Laid (records_whole text) (records_laid (records_of text) (records_lined text) f)
