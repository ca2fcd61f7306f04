-- The claims on the change of the house default, request 2026-08: that reading with 0 as m is what it should be; on every sheet and every held
-- search that the old reading accepts; and on those that it refuses. Nothing is proved here: ClaimsHold has the proofs. The contracts of
-- `old_sheets::read_old_sheet`, `old_sheets::change_sheet` and `changing::change_search` say what is told and left, and cite the claims.
-- Assumes nothing.
use Rattle.std.specs.Prelude.{ℕ, ◌≤◌, ◌≡◌, true, false, cond, List, ◌⊎◌, ℤ, pos, length, Ok}
use Rattle.integers.specs.Signs.{eq_z}
use Rattle.rules.specs.declared.Opening.{Opening}
use Rattle.rules.specs.declared.Method.{Method}
use Rattle.rules.specs.declared.Answer.{Answer}
use Rattle.rules.specs.Rules.{house, method_of}
use Rattle.rules.specs.Refusals.{opening_refusal}
use Rattle.rules.specs.Search.{report_of, is_refusal}
use Rattle.held.specs.declared.Search.{Search}
use Rattle.held.specs.Held.{held_report}
use Rattle.forms.specs.Entries.{entries_of}
use Rattle.outcomes.specs.Sheet.{sheet_of}
use Rattle.journal.specs.Spelling.{CleanText}
use Rattle.journal.specs.Reading.{ReadAs}
use Rattle.printing.specs.Printed.{record_of}
use Rattle.clean_sheets.specs.Clean.{held_answers, clean_of, longest_sheet}
use Rattle.clean_sheets.specs.Claims.{AcceptedSearch, cleared}
use Rattle.changeover.specs.Changeover.{old_default, opening_under, sheet_under, search_under, clean_under, changed_sheet, changed_search}

-- ---- what reading with 0 as m is

pub record Under : Type 0 where
  -- the number of a method counts for nothing but the method that it stands for, and its refusal
  pub alike : (o u : Opening) → o.first ≡ u.first → o.second ≡ u.second → o.tolerance ≡ u.tolerance → o.share ≡ u.share
      → method_of o ≡ method_of u → opening_refusal o ≡ opening_refusal u → (vs : List ℤ) → report_of o vs ≡ report_of u vs
  -- an opening with 0 stands for m, and every other for what it stands for today
  pub method : (m : Method) (o : Opening) → method_of (opening_under m o) ≡ cond (eq_z o.method (pos 0)) m (method_of o)
  -- a text that is not read with method 0 has one outcome, whatever m is: today's
  pub others : (m : Method) (text : List ℕ) → ((entries_of text).form ≡ Ok tt → (entries_of text).opening.method ≡ pos 0 → ⊥)
      → sheet_under m text ≡ sheet_of text
  -- with 0 as m a text is what every text is today that has the number of m in place of 0, and the same answers; refused or not
  pub twin : (m : Method) (text t : List ℕ) (o : Opening) (answers : List Answer) → ReadAs text o answers → ReadAs t (opening_under m o) answers
      → sheet_under m text ≡ sheet_of t
  -- with the house default for m every text and every held search has today's report, and every held search today's clean sheet
  pub sheet : (text : List ℕ) → (sheet_under house text).report ≡ (sheet_of text).report
  pub held : (s : Search) → held_report (search_under house s) ≡ held_report s
  pub clean : (s : Search) → clean_under house s ≡ clean_of s

-- ---- of a sheet that the old reading accepts

pub record ChangedSheet (text : List ℕ) : Type 0 where
  -- today's reader reports on the new sheet as the old reading did on the old one, and reads it as the same search, with 1 in place of 0
  pub same : sheet_of (changed_sheet text) ≡ sheet_under old_default text
  -- its method is 1 or 2
  pub named : let z = (sheet_of (changed_sheet text)).search.opening.method in (z ≡ pos 1) ⊎ (z ≡ pos 2)
  -- it is the clean text of the opening that the old one is read as, but for the method 0, and of the same answers, points and values
  pub clean : (o : Opening) (answers : List Answer) → ReadAs text o answers → CleanText (changed_sheet text) (opening_under old_default o) answers
  -- changed over again it is the same text
  pub again : changed_sheet (changed_sheet text) ≡ changed_sheet text
  pub short : length (changed_sheet text) ≤ longest_sheet

abbrev pub EveryChangedSheet : Type 0
EveryChangedSheet = (text : List ℕ) → is_refusal (sheet_under old_default text).report ≡ false → ChangedSheet text

-- ---- of what the old reading refuses: the record of that refusal, and the search as it was

pub record RefusedBefore : Type 0 where
  pub sheet : (text : List ℕ) → is_refusal (sheet_under old_default text).report ≡ true → changed_sheet text ≡ record_of (sheet_under old_default text).report
  pub search : (s : Search) → is_refusal (held_report (search_under old_default s)) ≡ true
      → changed_search s ≡ record { report = held_report (search_under old_default s); search = s }

-- ---- of a held search that the old reading accepts

pub record ChangedSearch (s : Search) : Type 0 where
  -- its old clean sheet is the clean text of the opening as held, also with 0, and of its values at the points that the old reading called for
  pub spelled : CleanText (clean_under old_default s) s.opening (held_answers (search_under old_default s))
  -- the old reading takes its old clean sheet for it, fresh slots at 0
  pub old : sheet_under old_default (clean_under old_default s) ≡ record { report = (changed_search s).report; search = cleared (changed_search s).search }
  -- that sheet, changed over, is the clean sheet of the search changed over
  pub sheet : changed_sheet (clean_under old_default s) ≡ clean_of (changed_search s).search
  -- today's report of the search changed over is the old one of the search as it was
  pub same : held_report (changed_search s).search ≡ held_report (search_under old_default s)
  -- its method is 1 or 2
  pub named : let z = (changed_search s).search.opening.method in (z ≡ pos 1) ⊎ (z ≡ pos 2)
  -- with another method than 0 it stays as it was, and so it does when it is changed over again
  pub others : (s.opening.method ≡ pos 0 → ⊥) → (changed_search s).search ≡ s
  pub again : changed_search (changed_search s).search ≡ changed_search s

abbrev pub EveryChangedSearch : Type 0
EveryChangedSearch = (s : Search) → AcceptedSearch (search_under old_default s) → ChangedSearch s
