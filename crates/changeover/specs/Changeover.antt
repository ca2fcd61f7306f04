-- The change of the house default, as request 2026-08 says it: sheets and held searches read with 0 as a method m, which is a parameter; and
-- what the old ones become, in which 0 was M. A text is the list of its bytes.
-- Assumes nothing.
use Rattle.std.specs.Prelude.{ℕ, cond, List, ℤ, pos}
use Rattle.integers.specs.Signs.{eq_z}
use Rattle.rules.specs.declared.Opening.{Opening}
use Rattle.rules.specs.declared.Method.{Method}
use Rattle.rules.specs.Search.{is_refusal}
use Rattle.held.specs.declared.Search.{Search}
use Rattle.held.specs.declared.Entered.{Entered}
use Rattle.held.specs.Held.{held_report}
use Rattle.forms.specs.declared.Entries.{Entries}
use Rattle.forms.specs.Entries.{entries_of}
use Rattle.outcomes.specs.Sheet.{judged}
use Rattle.clean_sheets.specs.Clean.{held_answers, sheet_text, cleaned_of}

-- what 0 stood for until then
abbrev pub old_default : Method
old_default = Method.M

-- ---- read with 0 as m

-- a method's own number
abbrev pub method_number : Method → ℤ
method_number Method.M = pos 1
method_number Method.R = pos 2

-- the number of m in place of 0
abbrev pub number_under : Method → ℤ → ℤ
number_under m z = cond (eq_z z (pos 0)) (method_number m) z

-- an opening
unfoldable pub opening_under : Method → Opening → Opening
opening_under m o =
    record {
      method = number_under m o.method;
      first = o.first;
      second = o.second;
      tolerance = o.tolerance;
      share = o.share;
    }

-- what a text says
abbrev pub entries_under : Method → Entries → Entries
entries_under m e =
    record { form = e.form; opening = opening_under m e.opening; count = e.count; points = e.points; values = e.values }

-- the outcome of a text: of the same entries, by the same rules
unfoldable pub sheet_under : Method → List ℕ → Entered
sheet_under m text = judged (entries_under m (entries_of text)) (entries_of text).form

-- a held search
abbrev pub search_under : Method → Search → Search
search_under m s = record { opening = opening_under m s.opening; count = s.count; slots = s.slots }

-- its clean sheet: the opening as it is held, also with 0, and every value at the point that was called for with 0 as m
unfoldable pub clean_under : Method → Search → List ℕ
clean_under m s = sheet_text s.opening (held_answers (search_under m s))

-- ---- changed over

-- what the program `old_default` answers to a text: the clean sheet of the search that the old reading takes it for, where method 0 is 1; or the
-- record of the old reading's refusal
abbrev pub changed_sheet : List ℕ → List ℕ
changed_sheet text = cleaned_of (sheet_under old_default text)

-- a held search by the old reading: refused, it stays as it was; accepted, its method is 1 in place of 0
unfoldable pub changed_search : Search → Entered
changed_search s =
    let report = held_report (search_under old_default s) in
    record { report = report; search = cond (is_refusal report) s (search_under old_default s) }
