-- The outcome of a sheet as the four numbers of a run, request 2026-10: its kind, its method as written, the answers taken and the most answers
-- quoted. Of a refused sheet the method is the one that its first record carries, and the other two are 0.
-- Assumes nothing.
use Rattle.std.specs.Prelude.{ℕ, cond, List, [], ◌∷◌, ltb, ℤ, nat_abs, length, Option, None, Some, Result, Ok, Err}
use Rattle.rules.specs.declared.Opening.{Opening}
use Rattle.rules.specs.declared.Report.{Report}
use Rattle.rules.specs.declared.Quote.{Quote}
use Rattle.rules.specs.declared.Refusal.{Refusal}
use Rattle.rules.specs.Refusals.{outside}
use Rattle.rules.specs.Search.{quote_of}
use Rattle.forms.specs.Text.{records_of}
use Rattle.forms.specs.Entries.{longest_text, opening_of}
use Rattle.outcomes.specs.Sheet.{sheet_of}
use Rattle.seasons.specs.declared.Outcome.{Outcome}
use Rattle.seasons.specs.Season.{other, stopped_outcome, unfinished_outcome}

-- ---- the method as written

-- 0, 1 and 2 as they are; any other number is booked as other
unfoldable pub method_number : ℤ → ℕ
method_number m = cond (outside 0 2 m) other (nat_abs m)

-- of a record; where its form is not an opening's, other
abbrev pub method_in : Option Opening → ℕ
method_in (Some o) = method_number o.method
method_in None = other

-- of the first record; where there is none, other
abbrev pub method_of_first : List (List ℕ) → ℕ
method_of_first [] = other
method_of_first (r ∷ rs) = method_in (opening_of r)

-- of a text; no record is read of one that is too long
unfoldable pub method_written : List ℕ → ℕ
method_written text = cond (ltb longest_text (length text)) other (method_of_first (records_of text))

-- ---- the four numbers

-- of the numbers that say refused, the one that is written
abbrev pub refused_outcome : ℕ
refused_outcome = 2

abbrev pub most_quoted : Result Quote Refusal → ℕ
most_quoted (Ok q) = q.most
most_quoted (Err r) = 0

-- by the report on the sheet, whose opening is o
abbrev pub outcome_by : ℕ → Opening → Report → Outcome
outcome_by method o (Report.Stop lower upper better taken) =
    record { kind = stopped_outcome; method = method; answers = taken; quoted = most_quoted (quote_of o) }
outcome_by method o (Report.Next point taken) =
    record { kind = unfinished_outcome; method = method; answers = taken; quoted = most_quoted (quote_of o) }
outcome_by method o (Report.Refused number place) = record { kind = refused_outcome; method = method; answers = 0; quoted = 0 }

unfoldable pub sheet_outcome : List ℕ → Outcome
sheet_outcome text = outcome_by (method_written text) (sheet_of text).search.opening (sheet_of text).report
