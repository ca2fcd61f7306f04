-- The claims on clean sheets, request 2026-02: on the clean sheet of every accepted search, and on that of every sheet that is accepted.
-- Nothing is proved here: ClaimsHold has the proofs. The contracts of `writing::write_sheet` and `cleaning::clean_sheet` say what is told and
-- left, and cite the claims.
-- Assumes nothing.
use Rattle.std.specs.Prelude.{ℕ, ◌≤◌, ◌<◌, ◌≡◌, false, List, pos, nat_abs, length, take, get_or}
use Rattle.rules.specs.declared.Opening.{Opening}
use Rattle.rules.specs.declared.Answer.{Answer}
use Rattle.rules.specs.declared.Report.{Report}
use Rattle.rules.specs.Rules.{slots, padded}
use Rattle.rules.specs.Search.{report_of, is_refusal}
use Rattle.held.specs.declared.Search.{Search}
use Rattle.held.specs.Held.{values_of, held_report}
use Rattle.outcomes.specs.Sheet.{sheet_of}
use Rattle.journal.specs.Answers.{points, values}
use Rattle.journal.specs.Spelling.{SheetText, CleanText, Clean}
use Rattle.journal.specs.Reading.{ReadAs}
use Rattle.clean_sheets.specs.Clean.{held_answers, clean_of, longest_sheet, rewritten_of}

-- ---- of an accepted search

-- its report is no refusal; it has all its slots, as every search of the program has
pub record AcceptedSearch (s : Search) : Type 0 where
  pub accepted : is_refusal (held_report s) ≡ false
  pub full : length s.slots ≡ slots

-- the search with its fresh slots, those at and past the count, at 0
abbrev pub cleared : Search → Search
cleared s = record { opening = s.opening; count = s.count; slots = padded (values_of s) }

pub record CleanSheet (s : Search) : Type 0 where
  -- the answers are as many as the search counts, with its values, each at the point that the search over the values before it calls for
  pub count : length (held_answers s) ≡ s.count
  pub held : values (held_answers s) ≡ values_of s
  pub called : (i : ℕ) → i < s.count → report_of s.opening (take i (values_of s)) ≡ Report.Next (nat_abs (get_or (points (held_answers s)) i (pos 0))) i
  -- the sheet is a clean text of the opening and these answers; it spells them as the reader takes them, and no other text that is clean does
  pub clean : CleanText (clean_of s) s.opening (held_answers s)
  pub spelled : SheetText (clean_of s) s.opening (held_answers s)
  pub only : (text : List ℕ) → Clean text → SheetText text s.opening (held_answers s) → text ≡ clean_of s
  -- reading it restores the search, fresh slots at 0, and gives its report
  pub restored : sheet_of (clean_of s) ≡ record { report = held_report s; search = cleared s }
  -- the same search yields the same bytes, whatever its fresh slots hold
  pub same : (s' : Search) → s'.opening ≡ s.opening → values_of s' ≡ values_of s → clean_of s' ≡ clean_of s
  -- a buffer of the longest sheet's length always suffices
  pub short : length (clean_of s) ≤ longest_sheet

abbrev pub EveryCleanSheet : Type 0
EveryCleanSheet = (s : Search) → AcceptedSearch s → CleanSheet s

-- ---- of a sheet that is accepted

pub record Rewritten (text : List ℕ) : Type 0 where
  -- the new text is the clean one of the opening and the answers, points and values, that the old one is read as
  pub clean : (o : Opening) (answers : List Answer) → ReadAs text o answers → CleanText (rewritten_of text) o answers
  -- it is reported on as the old one, and read as the same search
  pub same : sheet_of (rewritten_of text) ≡ sheet_of text
  -- cleaned again it is the same text
  pub again : rewritten_of (rewritten_of text) ≡ rewritten_of text
  pub short : length (rewritten_of text) ≤ longest_sheet

abbrev pub EveryRewritten : Type 0
EveryRewritten = (text : List ℕ) → is_refusal (sheet_of text).report ≡ false → Rewritten text
