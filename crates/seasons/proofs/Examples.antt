-- Season reports and outcomes of sheets worked by hand, in lists with one statement each. All hold by computation.
-- Assumes nothing.
use Rattle.std.specs.Prelude.{ℕ, ◌≡◌, refl, Bool, true, false, List, [], ◌∷◌, ◌++◌, replicate, Ok, Err}
use Rattle.integers.specs.Digits.{halvings, digits}
use Rattle.rules.specs.Rules.{method_of, tolerance_at, start_of, stopped_of, forward_of, displacement_of, linear_of, cross_of, rational_of}
use Rattle.rules.specs.Rules.{doubled_of, opposed, partner_of, streak_of, renewed_of, advance_of, step_of, reach_of, offset_of, next_of}
use Rattle.rules.specs.Refusals.{refusal, opening_refusal, answer_refusal, same_side}
use Rattle.rules.specs.Search.{begin_of, offer_of, answers_of, bracket_report, report_at, turns_of, quote_of}
use Rattle.forms.specs.Text.{records_of, fields_of}
use Rattle.forms.specs.Number.{all_digits, value_from, signed_of, number_of}
use Rattle.forms.specs.Entries.{field_of, answer_of, opening_of, refused, opened, entered, answers_from, records_read, entries_of}
use Rattle.forms.proofs.Examples.{bytes}
use Rattle.outcomes.specs.Sheet.{outcome_of, sheet_of}
use Rattle.seasons.specs.declared.Outcome.{Outcome}
use Rattle.seasons.specs.declared.Tally.{Tally}
use Rattle.seasons.specs.declared.Season.{Season}
use Rattle.seasons.specs.Season.{outcomes_of, filter, sum, maximum, tally_of, tallies_of, misshapen, no_tally, season_of, season_row_of}
use Rattle.seasons.specs.Sheets.{method_number, method_written, sheet_outcome}
use Rattle.seasons.specs.Claims.{Reordered, behind, swapped, again}

-- ---- reports

abbrev tally : (stopped unfinished refused answers quoted largest : ℕ) → Tally
tally a b c d e f = record { stopped = a; unfinished = b; refused = c; answers = d; quoted = e; largest = f }

-- of so many outcomes, and the tallies of methods 0, 1, 2 and of any other
abbrev counted : ℕ → Tally → Tally → Tally → Tally → Season
counted n a b c d = record { counted = Ok n; tallies = a ∷ b ∷ c ∷ d ∷ [] }

abbrev refuses19 : Season
refuses19 = record { counted = Err (refusal 19 0); tallies = no_tally ∷ no_tally ∷ no_tally ∷ no_tally ∷ [] }

record Example : Type 0 where
  run : List ℕ
  report : Season

abbrev example : List ℕ → Season → Example
example ns s = record { run = ns; report = s }

-- ten outcomes: kind, method, answers, quoted
abbrev ten : List ℕ
ten =
    0 ∷ 1 ∷ 9 ∷ 30
    ∷ 0 ∷ 1 ∷ 12 ∷ 58
    ∷ 1 ∷ 1 ∷ 3 ∷ 30
    ∷ 2 ∷ 1 ∷ 70 ∷ 72
    ∷ 0 ∷ 0 ∷ 4 ∷ 7
    ∷ 1 ∷ 2 ∷ 11 ∷ 37
    ∷ 65535 ∷ 2 ∷ 500 ∷ 600
    ∷ 0 ∷ 3 ∷ 8 ∷ 10
    ∷ 3 ∷ 7 ∷ 77 ∷ 77
    ∷ 1 ∷ 65535 ∷ 5 ∷ 9
    ∷ []

abbrev examples : List Example
examples =
    example ten (counted 10 (tally 1 0 0 4 7 4) (tally 2 1 1 24 118 12) (tally 0 1 1 11 37 11) (tally 1 1 1 13 19 8))
    -- no outcome; a refused one alone, of whose answers nothing is seen; all numbers as large as 16 bits can hold, which says refused, and
    -- as large as they can be otherwise
    ∷ example [] (counted 0 no_tally no_tally no_tally no_tally)
    ∷ example (2 ∷ 0 ∷ 9 ∷ 30 ∷ []) (counted 1 (tally 0 0 1 0 0 0) no_tally no_tally no_tally)
    ∷ example (replicate 8 65535) (counted 2 no_tally no_tally no_tally (tally 0 0 2 0 0 0))
    ∷ example (0 ∷ 2 ∷ 65535 ∷ 65535 ∷ 1 ∷ 2 ∷ 65535 ∷ 65535 ∷ []) (counted 2 no_tally no_tally (tally 1 1 0 131070 131070 65535) no_tally)
    -- numbers not in whole fours
    ∷ example (0 ∷ []) refuses19
    ∷ example (0 ∷ 1 ∷ []) refuses19
    ∷ example (0 ∷ 1 ∷ 9 ∷ []) refuses19
    ∷ example (0 ∷ 1 ∷ 9 ∷ 30 ∷ 0 ∷ []) refuses19
    ∷ []

abbrev AllReported : List Example → Type 0
AllReported [] = Unit {0}
AllReported (x ∷ xs) = (season_of x.run ≡ x.report) × AllReported xs

examples_hold : AllReported examples
unfolding season_of misshapen outcomes_of tallies_of tally_of filter sum maximum
examples_hold = (refl, (refl, (refl, (refl, (refl, (refl, (refl, (refl, (refl, tt)))))))))

-- ---- how many numbers

record Length : Type 0 where
  numbers : ℕ
  refused : Bool

abbrev lengths : List Length
lengths =
    record { numbers = 0; refused = false }
    ∷ record { numbers = 4; refused = false }
    ∷ record { numbers = 6; refused = true }
    ∷ record { numbers = 39999; refused = true }
    ∷ record { numbers = 40000; refused = false }
    ∷ record { numbers = 40001; refused = true }
    ∷ record { numbers = 40004; refused = true }
    ∷ []

abbrev AllJudged : List Length → Type 0
AllJudged [] = Unit {0}
AllJudged (x ∷ xs) = (misshapen x.numbers ≡ x.refused) × AllJudged xs

lengths_hold : AllJudged lengths
unfolding misshapen
lengths_hold = (refl, (refl, (refl, (refl, (refl, (refl, (refl, tt)))))))

-- ---- plain numbers

counted_row : season_row_of (season_of (0 ∷ 1 ∷ 9 ∷ 30 ∷ []))
    ≡ record { kind = 6; outcomes = 1; number = 0; place = 0; tallies = no_tally ∷ tally 1 0 0 9 30 9 ∷ no_tally ∷ no_tally ∷ [] }
unfolding season_of misshapen outcomes_of tallies_of tally_of filter sum maximum
counted_row = refl

refused_row : season_row_of (season_of (0 ∷ []))
    ≡ record { kind = 3; outcomes = 0; number = 19; place = 0; tallies = no_tally ∷ no_tally ∷ no_tally ∷ no_tally ∷ [] }
unfolding season_of misshapen
refused_row = refl

-- ---- another order

-- the last of three comes first
rotated : (a b c : Outcome) → Reordered (a ∷ b ∷ c ∷ []) (c ∷ a ∷ b ∷ [])
rotated a b c = again (behind swapped) swapped

-- ---- sheets

record Sheet : Type 0 where
  text : List ℕ
  outcome : Outcome

-- a text, and the four numbers of its outcome
abbrev sheet : List ℕ → ℕ → ℕ → ℕ → ℕ → Sheet
sheet text a b c d = record { text = text; outcome = record { kind = a; method = b; answers = c; quoted = d } }

abbrev sheets : List Sheet
sheets =
    -- document 01's sheet to its stop; the same on its way by R, by the house default, in another spelling, with a share
    sheet (bytes "1,0,100,1\r\n0,-50\r\n100,100\r\n33,-10\r\n41,-2\r\n43,1\r\n") 0 1 5 26
    ∷ sheet (bytes "2,0,100,1\r\n0,-50\r\n100,100\r\n33,-10\r\n40,-5\r\n") 1 2 4 32
    ∷ sheet (bytes "0,0,100,1\r\n") 1 0 0 32
    ∷ sheet (bytes "\"00\",0100,-0,1\r\n100,0") 1 0 1 32
    ∷ sheet (bytes "2,18000,26000,25,2\r\n") 1 2 0 42
    -- stopped by the house default
    ∷ sheet (bytes "0,0,2,1\r\n0,-1\r\n2,1\r\n") 0 0 2 2
    -- refused for an answer, for the form of a later record, for the ends: the method is the first record's
    ∷ sheet (bytes "1,0,100,1\r\n0,5\r\n100,7\r\n") 2 1 0 0
    ∷ sheet (bytes "2,0,100,1\r\n0,\r\n") 2 2 0 0
    ∷ sheet (bytes "0,5,5,1\r\n") 2 0 0 0
    -- refused for its method: 3 stands for any other
    ∷ sheet (bytes "3,0,100,1\r\n") 2 3 0 0
    ∷ sheet (bytes "7,0,100,1\r\n") 2 3 0 0
    ∷ sheet (bytes "-1,0,100,1\r\n") 2 3 0 0
    ∷ sheet (bytes "99999,0,100,1\r\n") 2 3 0 0
    -- refused for the form of the first record, or its absence, and for the length of the text
    ∷ sheet (bytes "2,0,100\r\n0,-50\r\n") 2 3 0 0
    ∷ sheet [] 2 3 0 0
    ∷ sheet (bytes "2,0,100,1\r\n" ++ replicate 4086 48) 2 3 0 0
    ∷ []

abbrev AllBooked : List Sheet → Type 0
AllBooked [] = Unit {0}
AllBooked (x ∷ xs) = (sheet_outcome x.text ≡ x.outcome) × AllBooked xs

sheets_hold : AllBooked sheets
unfolding method_of tolerance_at start_of stopped_of forward_of displacement_of linear_of cross_of rational_of doubled_of opposed partner_of streak_of
    renewed_of advance_of step_of reach_of offset_of next_of opening_refusal answer_refusal same_side begin_of offer_of answers_of bracket_report report_at
    records_of fields_of all_digits value_from signed_of number_of field_of answer_of opening_of refused opened entered answers_from records_read entries_of
    outcome_of sheet_of halvings digits turns_of quote_of method_number method_written sheet_outcome
sheets_hold = (refl, (refl, (refl, (refl, (refl, (refl, (refl, (refl, (refl, (refl, (refl, (refl, (refl, (refl, (refl, (refl, tt))))))))))))))))
