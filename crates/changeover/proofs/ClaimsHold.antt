-- The claims on the change of the house default hold. A text that is read has a twin with the number of m in place of 0, whose outcome today is
-- the text's own with 0 as m; so the claims on clean sheets, of the twin, are claims on the text.
-- Assumes nothing.
use Rattle.std.specs.Prelude.{ℕ, zero, suc, ◌≤◌, ◌≡◌, refl, Bool, true, false, cond, List, [], ◌∷◌, ◌⊎◌, ℤ, pos, negsuc, length}
use Rattle.std.specs.Prelude.{Result, Ok, Err}
use Rattle.std.proofs.Common.{sym, ap, subst, ◌∙◌, inl, inr, arith}
use Rattle.integers.specs.Signs.{eq_z}
use Rattle.integers.proofs.SignsLaws.{never, eq_eq_z}
use Rattle.rules.specs.declared.Opening.{Opening}
use Rattle.rules.specs.declared.Method.{Method}
use Rattle.rules.specs.declared.Answer.{Answer}
use Rattle.rules.specs.declared.Refusal.{Refusal}
use Rattle.rules.specs.Rules.{slots}
use Rattle.rules.specs.Refusals.{Accepted}
use Rattle.rules.proofs.RefusalsLaws.{Ranged, opened}
use Rattle.rules.specs.Search.{is_refused, progress_of, is_refusal}
use Rattle.held.specs.declared.Search.{Search}
use Rattle.held.specs.declared.Entered.{Entered}
use Rattle.held.specs.Held.{values_of, held_report}
use Rattle.forms.specs.declared.Entries.{Entries}
use Rattle.forms.specs.Entries.{filled, entries_of}
use Rattle.outcomes.specs.Sheet.{judged, sheet_of}
use Rattle.outcomes.proofs.SheetLaws.{sheet_read}
use Rattle.journal.specs.Answers.{points, values}
use Rattle.journal.specs.Spelling.{digit, Digits, Numeral, Field, SheetText, CleanText}
use Rattle.journal.specs.Reading.{ReadAs}
use Rattle.journal.proofs.SpellingLaws.{reading, spelled_read}
use Rattle.journal.proofs.CleanLaws.{clean_sheet, one_text}
use Rattle.journal.proofs.RunLaws.{spellable_opening, spellable_journal}
use Rattle.clean_sheets.specs.Clean.{held_answers, clean_of, longest_sheet, cleaned_of, rewritten_of}
use Rattle.clean_sheets.specs.Claims.{AcceptedSearch, CleanSheet, Rewritten}
use Rattle.clean_sheets.proofs.TextLaws.{text_clean}
use Rattle.clean_sheets.proofs.ClaimsHold as clean
use Rattle.changeover.specs.Changeover.{old_default, method_number, number_under, opening_under, entries_under, sheet_under, search_under, clean_under}
use Rattle.changeover.specs.Changeover.{changed_search}
use Rattle.changeover.specs.Claims.{Under, RefusedBefore, EveryChangedSheet, EveryChangedSearch}
use Rattle.changeover.proofs.UnderLaws.{alike, under_method, under_refusal, under_read, under_other, sheet_others, sheet_same, held_same, clean_same}

-- ---- the number of an accepted opening's method

one_or_two : (m : Method) (o : Opening) → Accepted (opening_under m o) → ((opening_under m o).method ≡ pos 1) ⊎ ((opening_under m o).method ≡ pos 2)
unfolding opening_under
one_or_two m o a = go m (eq_z o.method (pos 0)) refl (opened (opening_under m o) a).method
  where
    kept : (z : ℤ) → eq_z z (pos 0) ≡ false → Ranged 0 2 z → (z ≡ pos 1) ⊎ (z ≡ pos 2)
    kept (pos zero) e r = never e
    kept (pos (suc zero)) e r = inl refl
    kept (pos (suc (suc zero))) e r = inr refl
    kept (pos (suc (suc (suc n)))) e r = absurd (omega (arith, r.most))
    kept (negsuc n) e r = never (sym (eq_eq_z (negsuc n) (pos (suc n)) r.whole))

    go : (m : Method) (b : Bool) → eq_z o.method (pos 0) ≡ b → Ranged 0 2 (cond b (method_number m) o.method)
        → (cond b (method_number m) o.method ≡ pos 1) ⊎ (cond b (method_number m) o.method ≡ pos 2)
    go Method.M true e r = inl refl
    go Method.R true e r = inr refl
    go m false e r = kept o.method e r

no_zero : {z : ℤ} → (z ≡ pos 1) ⊎ (z ≡ pos 2) → z ≡ pos 0 → ⊥
no_zero (inl e) f = never (sym (eq_eq_z (pos 1) (pos 0) (sym e ∙ f)))
no_zero (inr e) f = never (sym (eq_eq_z (pos 2) (pos 0) (sym e ∙ f)))

-- ---- a text and its twin

-- a field for the method
method_field : (m : Method) (z : ℤ) {f : List ℕ} → Field f z → (g : List ℕ) × Field g (number_under m z)
method_field m z {f} k = go m (eq_z z (pos 0))
  where
    one_digit : (d : ℕ) → d ≤ 9 → Field (digit d ∷ []) (pos d)
    one_digit d h = Field.bare (Numeral.plain (Digits.one d h) (omega arith))

    go : (m : Method) (b : Bool) → (g : List ℕ) × Field g (cond b (method_number m) z)
    go Method.M true = (digit 1 ∷ [], one_digit 1 (omega arith))
    go Method.R true = (digit 2 ∷ [], one_digit 2 (omega arith))
    go m false = (f, k)

twin : (m : Method) {text : List ℕ} {o : Opening} {answers : List Answer} → SheetText text o answers
    → (t : List ℕ) × SheetText t (opening_under m o) answers
unfolding opening_under
twin m {o = o} {answers} (SheetText.sheet {f} {g} {h} {k} {s} {t} a b c d e r) =
    let p = method_field m o.method a in
    (_, SheetText.sheet {o = opening_under m o} p.1 b c d e r)

module _ (m : Method) (text : List ℕ) (o : Opening) (answers : List Answer) (r : ReadAs text o answers) where
  abbrev read : Entries
  read = filled (opening_under m o) (points answers) (values answers)

  -- any text that is read as the opening under m and the same answers
  pub as_twin : (t : List ℕ) → ReadAs t (opening_under m o) answers → sheet_of t ≡ sheet_under m text
  as_twin t k = sym (sheet_read t read (sym k) refl) ∙ under_read m text (filled o (points answers) (values answers)) (sym r) refl

  spelled : SheetText text o answers × (length answers ≤ slots)
  spelled = ((reading text).exactly o answers).0 r

  abbrev twin_text : List ℕ
  twin_text = (twin m spelled.0).0

  twin_read : ReadAs twin_text (opening_under m o) answers
  twin_read = spelled_read (twin m spelled.0).1 spelled.1

  twin_same : sheet_of twin_text ≡ sheet_under m text
  twin_same = as_twin twin_text twin_read

  module _ (taken : is_refusal (sheet_under m text).report ≡ false) where
    twin_taken : is_refusal (sheet_of twin_text).report ≡ false
    twin_taken = ap (λ (e : Entered). is_refusal e.report) twin_same ∙ taken

    -- the twin cleaned is the text changed over
    twin_claims : Rewritten twin_text
    twin_claims = clean.rewritten twin_text twin_taken

    twin_cleaned : rewritten_of twin_text ≡ cleaned_of (sheet_under m text)
    twin_cleaned = ap cleaned_of twin_same

    under_accepted : Accepted (opening_under m o)
    under_accepted = record { accepted = (clean.passed twin_text twin_taken (opening_under m o) answers twin_read).0 }

    under_opening : (sheet_under m text).search.opening ≡ opening_under m o
    under_opening =
        ap (λ (e : Entered). e.search.opening) (sym twin_same)
        ∙ clean.opening_held twin_text twin_taken (opening_under m o) answers twin_read

    under_same : sheet_of (cleaned_of (sheet_under m text)) ≡ sheet_under m text
    under_same = ap sheet_of (sym twin_cleaned) ∙ twin_claims.same ∙ twin_same

    under_clean : CleanText (cleaned_of (sheet_under m text)) (opening_under m o) answers
    under_clean = subst (λ (t : List ℕ). CleanText t (opening_under m o) answers) twin_cleaned (twin_claims.clean (opening_under m o) answers twin_read)

    -- it is read with a method of its own, and no more changed
    under_again : sheet_under m (cleaned_of (sheet_under m text)) ≡ sheet_under m text
    under_again = sheet_others m (cleaned_of (sheet_under m text)) (λ f z. numbered (ap (λ (e : Entries). e.opening.method) (sym read_again) ∙ z)) ∙ under_same
      where
        read_again : ReadAs (cleaned_of (sheet_under m text)) (opening_under m o) answers
        read_again = spelled_read (clean_sheet under_clean) spelled.1

        numbered : (opening_under m o).method ≡ pos 0 → ⊥
        numbered z = no_zero (one_or_two m o under_accepted) z

    under_short : length (cleaned_of (sheet_under m text)) ≤ longest_sheet
    under_short = rw (sym twin_cleaned) twin_claims.short

-- ---- the claims

pub under : Under
under =
    record {
      alike = alike;
      method = under_method;
      others = sheet_others;
      twin = λ m text t o answers r k. sym (as_twin m text o answers r t k);
      sheet = sheet_same;
      held = held_same;
      clean = clean_same;
    }

pub refused_before : RefusedBefore
unfolding cleaned_of changed_search
refused_before = record { sheet = λ text h. simp h; search = λ s h. simp h }

form_read : (m : Method) (text : List ℕ) → is_refusal (sheet_under m text).report ≡ false → (entries_of text).form ≡ Ok tt
unfolding sheet_under
form_read m text taken = go (entries_of text).form refl taken
  where
    go : (f : Result (Unit {0}) Refusal) → (entries_of text).form ≡ f → is_refusal (judged (entries_under m (entries_of text)) f).report ≡ false → f ≡ Ok tt
    go (Ok u) e h = refl
    go (Err r) e h = never h

pub changed_sheets : EveryChangedSheet
changed_sheets text taken =
    let m = old_default in
    let read = (reading text).taken (form_read m text taken) in
    let o = read.0 in
    let answers = read.1 in
    let r = read.2 in
    let same = under_same m text o answers r taken in
    let opening = ap (λ (e : Entered). e.search.opening.method) same ∙ ap (λ (u : Opening). u.method) (under_opening m text o answers r taken) in
    record {
      same = same;
      named = subst (λ (z : ℤ). (z ≡ pos 1) ⊎ (z ≡ pos 2)) (sym opening) (one_or_two m o (under_accepted m text o answers r taken));
      clean = λ u xs k. under_clean m text u xs k taken;
      again = ap cleaned_of (under_again m text o answers r taken);
      short = under_short m text o answers r taken;
    }

module _ (s : Search) (a : AcceptedSearch (search_under old_default s)) where
  abbrev new : Search
  new = search_under old_default s

  abbrev answers : List Answer
  answers = held_answers new

  fine : is_refused (progress_of new.opening (values_of new)) ≡ false
  fine = clean.values_accepted new a

  new_accepted : Accepted new.opening
  new_accepted = clean.accepted new.opening (values_of new) fine

  old_accepted : Accepted s.opening
  old_accepted = record { accepted = sym (under_refusal old_default s.opening) ∙ new_accepted.accepted }

  few : length answers ≤ slots
  few = clean.fits new.opening (values_of new) fine

  claims : CleanSheet new
  claims = clean.clean_sheets new a

  -- the old clean sheet is read as the opening as held, and the answers by the old reading
  old_spelled : CleanText (clean_under old_default s) s.opening answers
  unfolding clean_under
  old_spelled =
      let kept = clean.kept new.opening (values_of new) fine in
      let journal = spellable_journal new.opening (opened new.opening new_accepted) answers kept in
      text_clean s.opening answers (spellable_opening s.opening (opened s.opening old_accepted)) journal

  old_read : ReadAs (clean_under old_default s) s.opening answers
  old_read = spelled_read (clean_sheet old_spelled) few

  new_read : ReadAs (clean_of new) new.opening answers
  new_read = spelled_read claims.spelled few

  outcomes_same : sheet_under old_default (clean_under old_default s) ≡ sheet_of (clean_of new)
  outcomes_same = sym (as_twin old_default (clean_under old_default s) s.opening answers old_read (clean_of new) new_read)

  -- the clean sheet of the new search is cleaned already
  cleaned : rewritten_of (clean_of new) ≡ clean_of new
  cleaned =
      let taken = ap (λ (e : Entered). is_refusal e.report) claims.restored ∙ a.accepted in
      one_text ((clean.rewritten (clean_of new) taken).clean new.opening answers new_read) claims.clean

  changed : changed_search s ≡ record { report = held_report new; search = new }
  unfolding changed_search
  changed = rw a.accepted

stays : (s : Search) → (s.opening.method ≡ pos 0 → ⊥) → search_under old_default s ≡ s
stays s h = ap (λ (o : Opening). record { opening = o; count = s.count; slots = s.slots }) (under_other old_default s.opening h)

stays_new : (s : Search) → AcceptedSearch (search_under old_default s) → search_under old_default (search_under old_default s) ≡ search_under old_default s
stays_new s a = stays (search_under old_default s) (no_zero (one_or_two old_default s.opening (new_accepted s a)))

again : (s : Search) (a : AcceptedSearch (search_under old_default s)) → changed_search (new s a) ≡ record { report = held_report (new s a); search = new s a }
again s a =
    changed (new s a) (subst AcceptedSearch (sym (stays_new s a)) a)
    ∙ ap (λ (x : Search). record { report = held_report x; search = x }) (stays_new s a)

pub changed_searches : EveryChangedSearch
changed_searches s a =
    record {
      spelled = old_spelled s a;
      others = λ h. rw (changed s a) (stays s h);
      again = rw (changed s a) (again s a);
      old = rw (changed s a) (outcomes_same s a ∙ (claims s a).restored);
      sheet = rw (changed s a) (ap cleaned_of (outcomes_same s a) ∙ cleaned s a);
      same = rw (changed s a) refl;
      named = rw (changed s a) (one_or_two old_default s.opening (new_accepted s a));
    }
