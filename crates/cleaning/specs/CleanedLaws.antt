-- The laws of a sheet cleaned into a buffer: what is answered for a refused outcome, and for an accepted one by what the writer tells.
-- Assumes nothing.
use Rattle.std.specs.Prelude.{ℕ, ◌≤◌, ◌≡◌, refl, Bool, true, false, cond, List, ltb, length, Ok, Err}
use Rattle.std.proofs.Common.{sym, ap, subst, ◌∙◌, arith, ltb-true, ltb-false, le-leb}
use Rattle.std.proofs.lemmas.Bool.{lt-leb}
use Rattle.integers.proofs.SignsLaws.{never}
use Rattle.rules.specs.declared.Report.{Report}
use Rattle.rules.specs.Refusals.{refusal}
use Rattle.rules.specs.Search.{is_refusal}
use Rattle.held.specs.declared.Search.{Search}
use Rattle.held.specs.declared.Entered.{Entered}
use Rattle.held.specs.Held.{held_report}
use Rattle.printing.specs.Printed.{record_of, longest_record, placed, placed_length}
use Rattle.outcomes.specs.Sheet.{sheet_of}
use Rattle.clean_sheets.specs.Clean.{clean_of, longest_sheet, buffer_too_short, whole_buffer, fitted_in, written_after, written_of, buffer_of, cleaned_of}
use Rattle.clean_sheets.proofs.ClaimsHold.{accepted_cleaned, search_accepted, rewritten}
use Rattle.cleaning.specs.Cleaned.{length_told, outcome_length, outcome_left}

-- ---- what the writer tells and leaves of an accepted search

fitted_length : (buffer text : List ℕ) → length_told (fitted_in buffer text) ≡ placed_length text buffer
unfolding placed_length
fitted_length buffer text = go (ltb (length buffer) (length text)) refl
  where
    go : (b : Bool) → ltb (length buffer) (length text) ≡ b
        → length_told (cond b (Err (refusal buffer_too_short whole_buffer)) (Ok (length text))) ≡ placed_length text buffer
    go true e = simp (lt-leb (length text) (length buffer) (ltb-true (length buffer) (length text) e))
    go false e = simp (le-leb (length text) (length buffer) (ltb-false (length buffer) (length text) e))

told_length : (r : Report) (buffer text : List ℕ) → is_refusal r ≡ false → length_told (written_after r buffer text) ≡ placed_length text buffer
told_length (Report.Next point taken) buffer text h = fitted_length buffer text
told_length (Report.Stop lower upper better taken) buffer text h = fitted_length buffer text
told_length (Report.Refused number place) buffer text h = never h

written_length : (s : Search) (buffer : List ℕ) → is_refusal (held_report s) ≡ false → length_told (written_of s buffer) ≡ placed_length (clean_of s) buffer
unfolding written_of
written_length s buffer h = told_length (held_report s) buffer (clean_of s) h

written_buffer : (s : Search) (buffer : List ℕ) → is_refusal (held_report s) ≡ false → buffer_of s buffer ≡ placed (clean_of s) buffer
unfolding buffer_of
written_buffer s buffer h = simp h

-- ---- an outcome cleaned into what was `before` and is `after`, with n bytes

pub record Cleans (e : Entered) (before : List ℕ) (n : ℕ) (after : List ℕ) : Type 0 where
  pub long : n ≡ placed_length (cleaned_of e) before
  pub bytes : after ≡ placed (cleaned_of e) before
  pub short : length (cleaned_of e) ≤ longest_sheet

refused_cleaned : (e : Entered) → is_refusal e.report ≡ true → cleaned_of e ≡ record_of e.report
unfolding cleaned_of
refused_cleaned e h = simp h

-- what an accepted outcome has that is a text's
pub record Writable (e : Entered) : Type 0 where
  pub search : is_refusal (held_report e.search) ≡ false
  pub short : length (cleaned_of e) ≤ longest_sheet

module _ (e : Entered) (before : List ℕ) where
  refused_length : is_refusal e.report ≡ true → outcome_length e before ≡ placed_length (cleaned_of e) before
  refused_length h = rw (refused_cleaned e h) (simp h)

  refused_left : is_refusal e.report ≡ true → outcome_left e before ≡ placed (cleaned_of e) before
  refused_left h = rw (refused_cleaned e h) (simp h)

  accepted_length : is_refusal e.report ≡ false → Writable e → outcome_length e before ≡ placed_length (cleaned_of e) before
  accepted_length h k = rw (accepted_cleaned e h) (simp h (written_length e.search before k.search))

  accepted_left : is_refusal e.report ≡ false → Writable e → outcome_left e before ≡ placed (cleaned_of e) before
  accepted_left h k = rw (accepted_cleaned e h) (simp h (written_buffer e.search before k.search))

  cleans_own : (is_refusal e.report ≡ false → Writable e) → (is_refusal e.report ≡ true → length (record_of e.report) ≤ longest_record) → (n : ℕ)
      → n ≡ outcome_length e before → (after : List ℕ) → after ≡ outcome_left e before → Cleans e before n after
  cleans_own writable brief n long after bytes = go (is_refusal e.report) refl
    where
      go : (b : Bool) → is_refusal e.report ≡ b → Cleans e before n after
      go true h =
          record { long = long ∙ refused_length h; bytes = bytes ∙ refused_left h; short = omega (arith, ap length (refused_cleaned e h), brief h) }
      go false h =
          record { long = long ∙ accepted_length h (writable h); bytes = bytes ∙ accepted_left h (writable h); short = (writable h).short }

-- an outcome e that is put into a buffer, and is known to be u
pub cleans : (e u : Entered) → e ≡ u → (is_refusal u.report ≡ false → Writable u) → (before : List ℕ) (n : ℕ) (after : List ℕ)
    → n ≡ outcome_length e before → after ≡ outcome_left e before → (is_refusal e.report ≡ true → length (record_of e.report) ≤ longest_record)
    → Cleans u before n after
cleans e u is writable before n after long bytes brief =
    let own : is_refusal e.report ≡ false → Writable e = λ h. subst Writable (sym is) (writable (ap (λ (x : Entered). is_refusal x.report) (sym is) ∙ h)) in
    subst (λ (x : Entered). Cleans x before n after) is (cleans_own e before own brief n long after bytes)

-- the outcome of a text is writable
pub sheet_writable : (text : List ℕ) → is_refusal (sheet_of text).report ≡ false → Writable (sheet_of text)
sheet_writable text taken = record { search = search_accepted text taken; short = (rewritten text taken).short }
