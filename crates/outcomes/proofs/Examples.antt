-- Sheets worked by hand, document 01's two among them: one list with one statement, that the outcome of each is the one beside it. All
-- hold by computation.
-- Assumes nothing.
use Rattle.std.specs.Prelude.{ℕ, ◌≡◌, refl, List, [], ◌∷◌, ℤ, pos}
use Prim.Native.String.{String}
use Rattle.rules.specs.declared.Report.{Report}
use Rattle.rules.specs.Rules.{padded, method_of, tolerance_at, start_of, stopped_of, forward_of, displacement_of, linear_of, cross_of, rational_of}
use Rattle.rules.specs.Rules.{doubled_of, opposed, partner_of, streak_of, renewed_of, advance_of, step_of, reach_of, offset_of, next_of}
use Rattle.rules.specs.Refusals.{opening_refusal, answer_refusal, same_side}
use Rattle.rules.specs.Search.{begin_of, offer_of, answers_of, bracket_report, report_at}
use Rattle.held.specs.declared.Entered.{Entered}
use Rattle.held.specs.Held.{blank}
use Rattle.forms.specs.Text.{records_of, fields_of}
use Rattle.forms.specs.Number.{all_digits, value_from, signed_of, number_of}
use Rattle.forms.specs.Entries.{field_of, answer_of, opening_of, refused, opened, entered, answers_from, records_read, entries_of}
use Rattle.forms.proofs.Examples.{bytes, up_to100, negative}
use Rattle.outcomes.specs.Sheet.{outcome_of, sheet_of}

record Example : Type 0 where
  text : List ℕ
  outcome : Entered

-- a sheet by M from 0 to 100 with τ 1 and the values, with its report; and a refused one
abbrev held : String → ℕ → List ℤ → Report → Example
held s n vs r =
    record { text = bytes s; outcome = record { report = r; search = record { opening = up_to100; count = n; slots = padded vs } } }

abbrev refuses : String → ℕ → ℕ → Example
refuses s n k = record { text = bytes s; outcome = record { report = Report.Refused n k; search = blank } }

abbrev examples : List Example
examples =
    -- no answer, and document 01's sheet to its stop
    held "1,0,100,1\r\n" 0 [] (Report.Next 0 0)
    ∷ held "1,0,100,1\r\n0,-50\r\n100,100\r\n33,-10\r\n41,-2\r\n43,1\r\n" 5 (negative 50 ∷ pos 100 ∷ negative 10 ∷ negative 2 ∷ pos 1 ∷ [])
    (Report.Stop 41 43 43 5)
    -- the same as a spreadsheet may save it: fields between double quotes, and no CR LF at the end
    ∷ held "\"1\",\"0\",\"100\",\"1\"\r\n0,\"-50\"\r\n100,100\r\n33,\"-10\"\r\n41,\"-2\"\r\n43,1" 5
    (negative 50 ∷ pos 100 ∷ negative 10 ∷ negative 2 ∷ pos 1 ∷ []) (Report.Stop 41 43 43 5)
    -- with 42,1 last
    ∷ refuses "1,0,100,1\r\n0,-50\r\n100,100\r\n33,-10\r\n41,-2\r\n42,1\r\n" 6 6
    -- the form of every record comes before the opening, and the opening before the answers
    ∷ refuses "3,5,5,0\r\n0,\r\n" 12 2
    ∷ refuses "3,5,5,0\r\n0,20000\r\n" 1 1
    -- value 1 stands in record 3
    ∷ refuses "1,0,100,1\r\n0,5\r\n100,7\r\n" 8 3
    ∷ []

abbrev AllCome : List Example → Type 0
AllCome [] = Unit {0}
AllCome (e ∷ es) = (sheet_of e.text ≡ e.outcome) × AllCome es

examples_hold : AllCome examples
unfolding method_of tolerance_at start_of stopped_of forward_of displacement_of linear_of cross_of rational_of doubled_of opposed partner_of streak_of
    renewed_of advance_of step_of reach_of offset_of next_of opening_refusal answer_refusal same_side begin_of offer_of answers_of bracket_report report_at
    records_of fields_of all_digits value_from signed_of number_of field_of answer_of opening_of refused opened entered answers_from records_read entries_of
    outcome_of sheet_of
examples_hold = (refl, (refl, (refl, (refl, (refl, (refl, (refl, tt)))))))
