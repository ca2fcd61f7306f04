-- The clean sheet of a held search, as request 2026-02 says it: the opening with its method as held, then every answer with its point,
-- no quotes, no leading zeros, no −0, CR LF after every record; the opening in four fields where p is 0, as request 2026-07 says it; and what
-- is told when it is to be written into a lent buffer. A text is the list of its bytes.
-- Assumes nothing.
use Rattle.std.specs.Prelude.{ℕ, suc, ◌+◌, ◌*◌, cond, List, [], ◌∷◌, ◌++◌, ltb, ℤ, pos, negsuc, length, Result, Ok, Err}
use Rattle.integers.specs.Signs.{eq_z}
use Rattle.rules.specs.declared.Opening.{Opening}
use Rattle.rules.specs.declared.Answer.{Answer}
use Rattle.rules.specs.declared.Progress.{Progress}
use Rattle.rules.specs.declared.Report.{Report}
use Rattle.rules.specs.declared.Refusal.{Refusal}
use Rattle.rules.specs.Rules.{slots, first_of, second_of, next_of}
use Rattle.rules.specs.Refusals.{refusal}
use Rattle.rules.specs.Search.{begin_of, take_of, is_refusal}
use Rattle.rules.specs.Rows.{refused_kind, written_kind}
use Rattle.held.specs.declared.Search.{Search}
use Rattle.held.specs.declared.Entered.{Entered}
use Rattle.held.specs.Held.{values_of, held_report}
use Rattle.forms.specs.Bytes.{cr, lf, comma, minus}
use Rattle.lines.specs.Decimal.{decimal_of}
use Rattle.printing.specs.Printed.{record_of, placed}
use Rattle.outcomes.specs.Sheet.{sheet_of}
use Rattle.clean_sheets.specs.declared.WrittenRow.{WrittenRow}

-- ---- the answers of a search

-- the point called for: x0 at 0, x1 at 1, from 2 on the next point of the bracket. Once refused, none is: 0 stands for it
abbrev pub called_at : Opening → Progress → ℕ
called_at o Progress.Begun = first_of o
called_at o (Progress.First v) = second_of o
called_at o (Progress.Bracketed k) = next_of o k
called_at o (Progress.Refused n i) = 0

-- each value with the point that was called for where it was taken
unfoldable pub with_points : Opening → Progress → List ℤ → List Answer
with_points o p [] = []
with_points o p (v ∷ vs) = record { point = pos (called_at o p); value = v } ∷ with_points o (take_of o p v) vs

-- the values held, in order, each with its point
abbrev pub held_answers : Search → List Answer
held_answers s = with_points s.opening (begin_of s.opening) (values_of s)

-- ---- their text

-- a number in decimal, with a minus where it is below 0
unfoldable pub number_text : ℤ → List ℕ
number_text (pos n) = decimal_of n
number_text (negsuc n) = minus ∷ decimal_of (suc n)

-- point,value and CR LF
unfoldable pub answers_text : List Answer → List ℕ
answers_text [] = []
answers_text (a ∷ answers) = number_text a.point ++ comma ∷ number_text a.value ++ cr ∷ lf ∷ answers_text answers

-- a fifth field for p, or none where p is 0
abbrev pub share_text : ℤ → List ℕ
share_text p = cond (eq_z p (pos 0)) [] (comma ∷ number_text p)

-- method,x0,x1,τ or method,x0,x1,τ,p and CR LF, then the answers
unfoldable pub sheet_text : Opening → List Answer → List ℕ
sheet_text o answers =
    number_text o.method ++ comma ∷ number_text o.first ++ comma ∷ number_text o.second ++ comma ∷ number_text o.tolerance
    ++ share_text o.share ++ cr ∷ lf ∷ answers_text answers

unfoldable pub clean_of : Search → List ℕ
clean_of s = sheet_text s.opening (held_answers s)

-- the length of the longest: method 1, ends 5 each, τ 4, p 3, four commas and CR LF; for each slot point 5, comma, value 6 and CR LF
abbrev pub longest_sheet : ℕ
longest_sheet = 24 + 14 * slots

-- ---- written into a lent buffer

-- the buffer is shorter than the sheet
abbrev pub buffer_too_short : ℕ
buffer_too_short = 13

-- its place: it is a refusal of the whole
abbrev pub whole_buffer : ℕ
whole_buffer = 0

-- the sheet's length, or that the buffer is shorter
abbrev pub fitted_in : List ℕ → List ℕ → Result ℕ Refusal
fitted_in buffer text =
    cond (ltb (length buffer) (length text)) (Err (refusal buffer_too_short whole_buffer)) (Ok (length text))

-- the search itself is checked first: its refusal, with its place, or else the buffer
abbrev pub written_after : Report → List ℕ → List ℕ → Result ℕ Refusal
written_after (Report.Refused number place) buffer text = Err (refusal number place)
written_after (Report.Next point taken) buffer text = fitted_in buffer text
written_after (Report.Stop lower upper better taken) buffer text = fitted_in buffer text

-- what is told
unfoldable pub written_of : Search → List ℕ → Result ℕ Refusal
written_of s buffer = written_after (held_report s) buffer (clean_of s)

-- the buffer afterwards: the sheet at its beginning, and its further bytes as they were; on a refusal all of them as they were
unfoldable pub buffer_of : Search → List ℕ → List ℕ
buffer_of s buffer = cond (is_refusal (held_report s)) buffer (placed (clean_of s) buffer)

-- as plain numbers
abbrev pub written_row_of : Result ℕ Refusal → WrittenRow
written_row_of (Ok length) = record { kind = written_kind; length = length; number = 0; place = 0 }
written_row_of (Err r) = record { kind = refused_kind; length = 0; number = r.number; place = r.place }

-- ---- a sheet cleaned

-- of an outcome: the clean sheet of its search; of a refusal its record, as the program `zeroin` writes it
unfoldable pub cleaned_of : Entered → List ℕ
cleaned_of e = cond (is_refusal e.report) (record_of e.report) (clean_of e.search)

-- what the program `clean` answers to a text
abbrev pub rewritten_of : List ℕ → List ℕ
rewritten_of text = cleaned_of (sheet_of text)
