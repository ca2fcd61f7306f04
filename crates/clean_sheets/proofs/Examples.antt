-- Clean sheets worked by hand, in lists with one statement each: the sheet of a search, what is told and left in a buffer, and a sheet
-- cleaned. All hold by computation.
-- Assumes nothing.
use Rattle.std.specs.Prelude.{ℕ, ◌+◌, ◌≡◌, refl, List, [], ◌∷◌, ◌++◌, ℤ, pos, length, take, replicate, Result, Ok, Err}
use Prim.Native.String.{String}
use Rattle.rules.specs.declared.Opening.{Opening}
use Rattle.rules.specs.declared.Refusal.{Refusal}
use Rattle.rules.specs.Rules.{slots, method_of, tolerance_at, start_of, stopped_of, forward_of, displacement_of, linear_of, cross_of, rational_of}
use Rattle.rules.specs.Rules.{doubled_of, opposed, partner_of, streak_of, renewed_of, advance_of, step_of, reach_of, offset_of, next_of}
use Rattle.rules.specs.Refusals.{refusal, opening_refusal, answer_refusal, same_side}
use Rattle.rules.specs.Search.{begin_of, offer_of, take_of, progress_of, answers_of, bracket_report, report_at}
use Rattle.held.specs.declared.Search.{Search}
use Rattle.held.specs.Held.{standing_of, held_report}
use Rattle.forms.specs.Text.{records_of, fields_of}
use Rattle.forms.specs.Number.{all_digits, value_from, signed_of, number_of}
use Rattle.forms.specs.Entries.{field_of, answer_of, opening_of, refused, opened, entered, answers_from, records_read, entries_of}
use Rattle.forms.proofs.Examples.{bytes, up_to100, negative}
use Rattle.lines.specs.Decimal.{decimal_within, decimal_of, number_fields}
use Rattle.printing.specs.Printed.{record_with, record_of, placed}
use Rattle.outcomes.specs.Sheet.{outcome_of, sheet_of}
use Rattle.clean_sheets.specs.Clean.{with_points, number_text, answers_text, sheet_text, clean_of}
use Rattle.clean_sheets.specs.Clean.{longest_sheet, written_of, buffer_of, cleaned_of, rewritten_of}

-- the values held, and 7 in the slots past them
abbrev holds : Opening → List ℤ → Search
holds o vs = record { opening = o; count = length vs; slots = take slots (vs ++ replicate slots (pos 7)) }

abbrev with_share : (method first second tolerance share : ℕ) → Opening
with_share method first second tolerance share =
    record { method = pos method; first = pos first; second = pos second; tolerance = pos tolerance; share = pos share }

abbrev opening : (method first second tolerance : ℕ) → Opening
opening method first second tolerance = with_share method first second tolerance 0

-- ---- the sheet of a search

record Sheet : Type 0 where
  search : Search
  text : List ℕ

abbrev sheet : Search → String → Sheet
sheet s text = record { search = s; text = bytes text }

abbrev sheets : List Sheet
sheets =
    -- no answer; the method is as held, also 0
    sheet (holds up_to100 []) "1,0,100,1\r\n"
    ∷ sheet (holds (opening 0 60000 0 5000) []) "0,60000,0,5000\r\n"
    -- one answer; two, with a value of 0
    ∷ sheet (holds up_to100 (negative 50 ∷ [])) "1,0,100,1\r\n0,-50\r\n"
    ∷ sheet (holds (opening 2 100 0 1) (pos 0 ∷ negative 10000 ∷ [])) "2,100,0,1\r\n100,0\r\n0,-10000\r\n"
    -- document 01's trial to its stop
    ∷ sheet (holds up_to100 (negative 50 ∷ pos 100 ∷ negative 10 ∷ negative 2 ∷ pos 1 ∷ []))
    "1,0,100,1\r\n0,-50\r\n100,100\r\n33,-10\r\n41,-2\r\n43,1\r\n"
    -- with a share: at 100 the tolerance is 1 + 10, so 89 is called for
    ∷ sheet (holds (with_share 2 60000 0 5000 1) []) "2,60000,0,5000,1\r\n"
    ∷ sheet (holds (with_share 1 100 0 1 100) (negative 2 ∷ pos 100 ∷ negative 10 ∷ [])) "1,100,0,1,100\r\n100,-2\r\n0,100\r\n89,-10\r\n"
    ∷ []

abbrev AllClean : List Sheet → Type 0
AllClean [] = Unit {0}
AllClean (x ∷ xs) = (clean_of x.search ≡ x.text) × AllClean xs

sheets_hold : AllClean sheets
unfolding method_of tolerance_at start_of stopped_of forward_of displacement_of linear_of cross_of rational_of doubled_of opposed partner_of streak_of
    renewed_of advance_of step_of reach_of offset_of next_of opening_refusal answer_refusal same_side begin_of offer_of take_of decimal_within decimal_of
    with_points number_text answers_text sheet_text clean_of
sheets_hold = (refl, (refl, (refl, (refl, (refl, (refl, (refl, tt)))))))

-- the bound
bound : longest_sheet ≡ 1102
bound = refl

-- ---- written into a buffer of so many bytes, all of them 9

record Writing : Type 0 where
  search : Search
  size : ℕ
  told : Result ℕ Refusal
  left : List ℕ

abbrev writing : Search → ℕ → Result ℕ Refusal → List ℕ → Writing
writing s n told left = record { search = s; size = n; told = told; left = left }

-- of equal ends, and claiming so many answers
abbrev claiming : ℕ → Search
claiming n = record { opening = opening 1 5 5 1; count = n; slots = replicate slots (pos 0) }

abbrev writings : List Writing
writings =
    -- with room; exactly as long; one byte short
    writing (holds up_to100 []) 13 (Ok 11) (bytes "1,0,100,1\r\n" ++ replicate 2 9)
    ∷ writing (holds up_to100 []) 11 (Ok 11) (bytes "1,0,100,1\r\n")
    ∷ writing (holds up_to100 []) 10 (Err (refusal 13 0)) (replicate 10 9)
    -- the search itself comes first: 9, before its opening; the opening, also of a search whose slots are all taken; a held value, with its index
    ∷ writing (claiming (slots + 1)) 0 (Err (refusal 9 0)) []
    ∷ writing (claiming slots) 0 (Err (refusal 3 0)) []
    ∷ writing (holds (opening 1 5 5 1) []) 0 (Err (refusal 3 0)) []
    ∷ writing (holds up_to100 (pos 5 ∷ pos 6 ∷ [])) 30 (Err (refusal 8 1)) (replicate 30 9)
    ∷ []

abbrev AllWritten : List Writing → Type 0
AllWritten [] = Unit {0}
AllWritten (x ∷ xs) =
    (written_of x.search (replicate x.size 9) ≡ x.told) × (buffer_of x.search (replicate x.size 9) ≡ x.left) × AllWritten xs

writings_hold : AllWritten writings
unfolding opening_refusal answer_refusal same_side begin_of offer_of take_of progress_of report_at standing_of held_report decimal_within decimal_of
    with_points number_text answers_text sheet_text clean_of placed written_of buffer_of
writings_hold = (refl, refl, (refl, refl, (refl, refl, (refl, refl, (refl, refl, (refl, refl, (refl, refl, tt)))))))

-- ---- a sheet cleaned

record Cleaning : Type 0 where
  before : List ℕ
  after : List ℕ

abbrev cleaning : String → String → Cleaning
cleaning before after = record { before = bytes before; after = bytes after }

abbrev cleanings : List Cleaning
cleanings =
    -- quotes, leading zeros, −0 and a missing CR LF
    cleaning "\"01\",-0,00100,\"1\"\r\n-00,\"-050\"\r\n0100,00000" "1,0,100,1\r\n0,-50\r\n100,0\r\n"
    -- a clean sheet stays as it is
    ∷ cleaning "0,0,100,1\r\n0,-50\r\n" "0,0,100,1\r\n0,-50\r\n"
    -- a fifth field of 0 is left out, and any other kept
    ∷ cleaning "1,0,100,1,0\r\n" "1,0,100,1\r\n"
    ∷ cleaning "1,0,100,1,-00" "1,0,100,1\r\n"
    ∷ cleaning "1,0,100,1,\"020\"\r\n0,-50" "1,0,100,1,20\r\n0,-50\r\n"
    -- a refused one: its refusal's record
    ∷ cleaning "1,0,100,1,101\r\n" "refuse,17,1\r\n"
    ∷ cleaning "1,0,100,1\r\n1,-50\r\n" "refuse,6,2\r\n"
    ∷ cleaning "" "refuse,12,1\r\n"
    ∷ []

abbrev AllCleaned : List Cleaning → Type 0
AllCleaned [] = Unit {0}
AllCleaned (x ∷ xs) = (rewritten_of x.before ≡ x.after) × AllCleaned xs

cleanings_hold : AllCleaned cleanings
unfolding tolerance_at start_of stopped_of method_of forward_of displacement_of linear_of step_of reach_of offset_of next_of opening_refusal answer_refusal
    same_side begin_of offer_of take_of answers_of bracket_report report_at records_of fields_of all_digits value_from signed_of number_of field_of answer_of
    opening_of refused opened entered answers_from records_read entries_of outcome_of sheet_of decimal_within decimal_of number_fields record_with record_of
    with_points number_text answers_text sheet_text clean_of cleaned_of
cleanings_hold = (refl, (refl, (refl, (refl, (refl, (refl, (refl, (refl, tt))))))))
