-- The report as one RFC 4180 record: the word next, stop or refuse, then its numbers, then CR LF. No field needs quotes. A text is
-- the list of its bytes.
-- Assumes nothing.
use Rattle.std.specs.Prelude.{ℕ, cond, List, [], ◌∷◌, ◌++◌, leb, length, drop}
use Rattle.rules.specs.declared.Report.{Report}
use Rattle.lines.specs.Decimal.{number_fields}
use Rattle.lines.specs.Line.{longest_line}

-- ---- records

-- CR LF
abbrev pub line_end : List ℕ
line_end = 13 ∷ 10 ∷ []

-- a record of a word and numbers
unfoldable pub record_with : List ℕ → List ℕ → List ℕ
record_with word numbers = word ++ number_fields numbers ++ line_end

-- the word: `next`, `stop` or `refuse`
abbrev pub word_of : Report → List ℕ
word_of (Report.Next point taken) = 110 ∷ 101 ∷ 120 ∷ 116 ∷ []
word_of (Report.Stop lower upper better taken) = 115 ∷ 116 ∷ 111 ∷ 112 ∷ []
word_of (Report.Refused number place) = 114 ∷ 101 ∷ 102 ∷ 117 ∷ 115 ∷ 101 ∷ []

-- then its numbers
abbrev pub report_numbers : Report → List ℕ
report_numbers (Report.Next point taken) = point ∷ taken ∷ []
report_numbers (Report.Stop lower upper better taken) = lower ∷ upper ∷ better ∷ taken ∷ []
report_numbers (Report.Refused number place) = number ∷ place ∷ []

unfoldable pub record_of : Report → List ℕ
record_of report = record_with (word_of report) (report_numbers report)

-- the length of the longest record of 32-bit numbers: `stop`, four commas, four numbers of ten digits, CR LF
abbrev pub longest_record : ℕ
longest_record = longest_line

-- ---- a text written into a buffer

-- the text at the beginning of the buffer, whose further bytes keep their contents; a buffer too short for it is left alone
unfoldable pub placed : List ℕ → List ℕ → List ℕ
placed text buffer = cond (leb (length text) (length buffer)) (text ++ drop (length text) buffer) buffer

-- how many bytes are written
unfoldable pub placed_length : List ℕ → List ℕ → ℕ
placed_length text buffer = cond (leb (length text) (length buffer)) (length text) 0
