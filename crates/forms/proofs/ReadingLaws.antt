-- A sheet in any spelling is read as its numbers. A sheet is a list of rows, a row a list of fields, and a field the bytes of a
-- number, between double quotes or not: four or five fields to the opening, two to an answer. CR LF may be absent after the last row. No bound
-- on the length of the text is asked: a field has 8 bytes at most.
-- Assumes nothing.
use Rattle.std.specs.Prelude.{ℕ, suc, ◌+◌, ◌-◌, ◌*◌, ◌≤◌, ◌<◌, ◌≡◌, refl, false, length, set, ℤ, pos, eqb}
use Rattle.std.specs.Prelude.{Some}
use Rattle.std.proofs.Common.{sym, ap, ◌∙◌, arith, length-append, ne_eqb}
use mathlib.Core.List.{List, [], ◌∷◌, ◌++◌, map, flatten, append-nil}
use Rattle.std.proofs.Math.Seq.{set-append_seam, append_snoc}
use Rattle.rules.specs.declared.Opening.{Opening}
use Rattle.rules.specs.Rules.{slots, padded}
use Rattle.forms.specs.Text.{cr, comma, double_quote}
use Rattle.forms.specs.Number.{minus, is_digit}
use Rattle.forms.specs.Entries.{longest_text, field_of, numbers_of, answer_of, opening_from, opening_of, filled, opened, entered, answers_from, records_read}
use Rattle.forms.specs.Entries.{entries_of}
use Rattle.forms.proofs.TextLaws.{Lacks, LineEnd, Body, AllBodies, after, records_with, lacks_append, no_cr_no_end, records_text, after_end, body_of_lem}
use Rattle.forms.proofs.FieldLaws.{AllLack, joined, fields_joined, field_bytes}
use Rattle.forms.proofs.EntriesLaws.{entries_short}

-- ---- a row

-- each field is a spelling of its number
pub data Spells : List (List ℕ) → List ℤ → Type 0 where
  none : Spells [] []
  more : {f : List ℕ} {fs : List (List ℕ)} {z : ℤ} {zs : List ℤ} → field_of f ≡ Some z → Spells fs zs → Spells (f ∷ fs) (z ∷ zs)

-- no field holds a byte that is no digit, no minus and no double quote
fields_lack : (x : ℕ) → is_digit x ≡ false → eqb x minus ≡ false → eqb x double_quote ≡ false
    → {fs : List (List ℕ)} {zs : List ℤ} → Spells fs zs → AllLack x fs
fields_lack x d m q none = tt
fields_lack x d m q (more e h) = ((field_bytes _ _ e).lacks x d m q, fields_lack x d m q h)

numbers_read : {fs : List (List ℕ)} {zs : List ℤ} → Spells fs zs → map field_of fs ≡ map Some zs
numbers_read none = refl
numbers_read (more e h) = cc (numbers_read h)

pub row_numbers : {f : List ℕ} {fs : List (List ℕ)} {zs : List ℤ} → Spells (f ∷ fs) zs → numbers_of (joined (f ∷ fs)) ≡ map Some zs
row_numbers {f} {fs} h =
    ap (map field_of) (fields_joined f fs (fields_lack comma refl refl refl h)) ∙ numbers_read h

-- ---- a row holds no CR LF, some bytes, and few

row_no_cr : {fs : List (List ℕ)} {zs : List ℤ} → Spells fs zs → Lacks cr (joined fs)
row_no_cr none = tt
row_no_cr (more e none) = (field_bytes _ _ e).lacks cr refl refl refl
row_no_cr (more {f} e (more g h)) =
    lacks_append cr f _ ((field_bytes _ _ e).lacks cr refl refl refl) ((λ k. let n : ◌≡◌ {A = ℕ} 44 13 = k in omega arith), row_no_cr (more g h))

row_body : {fs : List (List ℕ)} {y z : ℤ} {zs : List ℤ} → Spells fs (y ∷ z ∷ zs) → Body (joined fs)
row_body (more {f} e (more {f = g} {fs = fs} d h)) =
    record {
      no_end = no_cr_no_end (joined (f ∷ g ∷ fs)) (row_no_cr (more e (more d h)));
      some = omega (arith, length-append f (comma ∷ joined (g ∷ fs)));
    }

row_short : {fs : List (List ℕ)} {zs : List ℤ} → Spells fs zs → length (joined fs) ≤ 9 * length zs
row_short none = omega arith
row_short (more {f} {z = z} e none) = omega (arith, (field_bytes f z e).short)
row_short (more {f} {z = z} e (more {f = g} {fs = fs} r h)) =
    omega (arith, (field_bytes f z e).short, length-append f (comma ∷ joined (g ∷ fs)), row_short (more r h))

-- ---- a row with its line end, or without, is read as its numbers

pub answer_read : {fs : List (List ℕ)} {point value : ℤ} {end : List ℕ} → Spells fs (point ∷ value ∷ []) → LineEnd end
    → answer_of (joined fs ++ end) ≡ Some (record { point = point; value = value })
unfolding answer_of
answer_read (more {f} {fs} e h) l =
    simp (body_of_lem l (joined (f ∷ fs)) (row_body (more e h)).no_end, row_numbers (more e h))

-- the numbers after τ: none, and p is 0; or p
pub data ShareNumbers : List ℤ → ℤ → Type 0 where
  absent : ShareNumbers [] (pos 0)
  present : {p : ℤ} → ShareNumbers (p ∷ []) p

abbrev pub opening_numbers : Opening → List ℤ → List ℤ
opening_numbers o zs = o.method ∷ o.first ∷ o.second ∷ o.tolerance ∷ zs

pub record SpellsOpening (fs : List (List ℕ)) (o : Opening) : Type 0 where
  pub rest : List ℤ
  pub share : ShareNumbers rest o.share
  pub numbers : Spells fs (opening_numbers o rest)

row_opened : {fs : List (List ℕ)} (zs : List ℤ) {y z : ℤ} {end : List ℕ} → Spells fs (y ∷ z ∷ zs) → LineEnd end
    → opening_of (joined fs ++ end) ≡ opening_from (map Some (y ∷ z ∷ zs))
unfolding opening_of
row_opened zs (more {f} {fs} e h) l =
    ap (λ (b : List ℕ). opening_from (numbers_of b)) (body_of_lem l (joined (f ∷ fs)) (row_body (more e h)).no_end)
    ∙ ap opening_from (row_numbers (more e h))

share_opened : {zs : List ℤ} {p : ℤ} → ShareNumbers zs p → (m x y t : ℤ)
    → opening_from (map Some (m ∷ x ∷ y ∷ t ∷ zs))
    ≡ Some (record { method = m; first = x; second = y; tolerance = t; share = p })
share_opened ShareNumbers.absent m x y t = refl
share_opened ShareNumbers.present m x y t = refl

pub opening_read : {fs : List (List ℕ)} {o : Opening} {end : List ℕ} → SpellsOpening fs o → LineEnd end
    → opening_of (joined fs ++ end) ≡ Some o
opening_read {o = o} h l =
    row_opened _ h.numbers l ∙ share_opened h.share o.method o.first o.second o.tolerance

opening_body : {fs : List (List ℕ)} {o : Opening} → SpellsOpening fs o → Body (joined fs)
opening_body h = row_body h.numbers

share_few : {zs : List ℤ} {p : ℤ} → ShareNumbers zs p → length zs ≤ 1
share_few ShareNumbers.absent = omega arith
share_few ShareNumbers.present = omega arith

opening_short : {fs : List (List ℕ)} {o : Opening} → SpellsOpening fs o → length (joined fs) ≤ 45
opening_short h = omega (arith, row_short h.numbers, share_few h.share)

-- ---- the answers' rows

pub data SpellsAnswers : List (List (List ℕ)) → List ℤ → List ℤ → Type 0 where
  no_answer : SpellsAnswers [] [] []
  one_answer : {row : List (List ℕ)} {rows : List (List (List ℕ))} {point value : ℤ} {points values : List ℤ}
      → Spells row (point ∷ value ∷ []) → SpellsAnswers rows points values → SpellsAnswers (row ∷ rows) (point ∷ points) (value ∷ values)

answers_bodies : {rows : List (List (List ℕ))} {points values : List ℤ} → SpellsAnswers rows points values → AllBodies (map joined rows)
answers_bodies no_answer = tt
answers_bodies (one_answer h k) = (row_body h, answers_bodies k)

end_short : {end : List ℕ} → LineEnd end → length end ≤ 2
end_short LineEnd.present = omega arith
end_short LineEnd.absent = omega arith

-- one record more, of a row that has k bytes at most
rows_longer : {end : List ℕ} → LineEnd end → (row : List (List ℕ)) (rows : List (List (List ℕ))) (k n : ℕ) → length (joined row) ≤ k
    → length (flatten (records_with end (map joined rows))) ≤ n → length (flatten (records_with end (map joined (row ∷ rows)))) ≤ k + 2 + n
unfolding flatten
rows_longer {end} l row rows k n h g =
    let b = joined row in
    let bs = map joined rows in
    omega (arith, length-append b (after end bs), end_short (after_end l bs), length-append (b ++ after end bs) (flatten (records_with end bs)))

answers_short : {end : List ℕ} → LineEnd end → {rows : List (List (List ℕ))} {points values : List ℤ} → SpellsAnswers rows points values
    → length (flatten (records_with end (map joined rows))) ≤ 20 * length rows
unfolding flatten
answers_short l no_answer = omega arith
answers_short l (one_answer {row} {rows} h k) =
    omega (arith, rows_longer l row rows 18 (20 * length rows) (row_short h) (answers_short l k))

-- ---- an answer enters the first slot that is not filled

pub set_padded : (zs : List ℤ) (z : ℤ) → length zs < slots → set (padded zs) (length zs) z ≡ padded (zs ++ z ∷ [])
set_padded zs z h =
    let e : slots - length zs ≡ suc (slots - length (zs ++ z ∷ [])) = omega (arith, length-append zs (z ∷ [])) in
    rw e (set-append_seam zs (pos 0) _ z ∙ sym (append_snoc zs z _))

entered_filled : (o : Opening) (ps vs : List ℤ) (p v : ℤ) → length ps ≡ length vs → length ps < slots
    → entered (filled o ps vs) p v ≡ filled o (ps ++ p ∷ []) (vs ++ v ∷ [])
unfolding entered
entered_filled o ps vs p v e h =
    let c : length ps + 1 ≡ length (ps ++ p ∷ []) = sym (length-append ps (p ∷ [])) in
    let k : set (padded vs) (length ps) v ≡ padded (vs ++ v ∷ []) = rw e (set_padded vs v (omega arith)) in
    simp (set_padded ps p h, k, c)

answers_filled : (o : Opening) (ps vs : List ℤ) {end : List ℕ} → LineEnd end → {rows : List (List (List ℕ))} {points values : List ℤ}
    → SpellsAnswers rows points values → length ps ≡ length vs → length ps + length rows ≤ slots
    → answers_from (filled o ps vs) (records_with end (map joined rows)) ≡ filled o (ps ++ points) (vs ++ values)
unfolding answers_from
answers_filled o ps vs l no_answer e h = simp append-nil
answers_filled o ps vs l (one_answer {rows = rows} {point = p} {value = v} a k) e h =
    let g : length (ps ++ p ∷ []) ≡ length (vs ++ v ∷ []) = omega (arith, length-append ps (p ∷ []), length-append vs (v ∷ [])) in
    let m : length (ps ++ p ∷ []) + length rows ≤ slots = omega (arith, length-append ps (p ∷ [])) in
    simp (ne_eqb (length ps) slots (λ f. omega arith), answer_read a (after_end l (map joined rows)), entered_filled o ps vs p v e (omega arith))
    (answers_filled o (ps ++ p ∷ []) (vs ++ v ∷ []) l k g m ∙ simp append_snoc)

-- ---- the sheet

-- of the opening o and no more answers than the slots
pub entries_read : (o : Opening) {end : List ℕ} → LineEnd end → {head : List (List ℕ)} {rows : List (List (List ℕ))} {points values : List ℤ}
    → SpellsOpening head o → SpellsAnswers rows points values → length rows ≤ slots
    → entries_of (flatten (records_with end (map joined (head ∷ rows)))) ≡ filled o points values
unfolding records_read opened
entries_read o {end} l {head} {rows} h k m =
    let text = flatten (records_with end (map joined (head ∷ rows))) in
    let n : length text ≤ longest_text = omega (arith, rows_longer l head rows 45 (20 * length rows) (opening_short h) (answers_short l k)) in
    entries_short text n
    ∙ ap records_read (records_text l (map joined (head ∷ rows)) (opening_body h, answers_bodies k))
    ∙ rw (opening_read h (after_end l (map joined rows)), records_read) (answers_filled o [] [] l k refl (omega arith))
