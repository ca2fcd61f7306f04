-- The change of the house default worked by hand, in lists with one statement each: sheets beside what the program for old sheets answers and
-- what is read of them today, and held searches. All hold by computation.
-- Assumes nothing.
use Rattle.std.specs.Prelude.{ℕ, ◌≡◌, refl, List, [], ◌∷◌, ◌++◌, ℤ, pos, length, take, replicate}
use Prim.Native.String.{String}
use Rattle.rules.specs.declared.Report.{Report}
use Rattle.rules.specs.declared.Report.TheVariants.{Next, Stop, Refused}
use Rattle.rules.specs.Rules.{slots, method_of, tolerance_at, start_of, stopped_of, forward_of, displacement_of, linear_of, cross_of, rational_of}
use Rattle.rules.specs.Rules.{doubled_of, opposed, partner_of, streak_of, renewed_of, advance_of, step_of, reach_of, offset_of, next_of}
use Rattle.rules.specs.Refusals.{opening_refusal, answer_refusal, same_side}
use Rattle.rules.specs.Search.{begin_of, offer_of, take_of, progress_of, answers_of, bracket_report, report_at}
use Rattle.held.specs.declared.Search.{Search}
use Rattle.held.specs.Held.{standing_of, held_report}
use Rattle.forms.specs.Text.{records_of, fields_of}
use Rattle.forms.specs.Number.{all_digits, value_from, signed_of, number_of}
use Rattle.forms.specs.Entries.{field_of, answer_of, opening_of, refused, opened, entered, answers_from, records_read, entries_of}
use Rattle.forms.proofs.Examples.{bytes, negative}
use Rattle.lines.specs.Decimal.{decimal_within, decimal_of, number_fields}
use Rattle.printing.specs.Printed.{record_with, record_of}
use Rattle.outcomes.specs.Sheet.{outcome_of, sheet_of}
use Rattle.clean_sheets.specs.Clean.{with_points, number_text, answers_text, sheet_text, clean_of, cleaned_of}
use Rattle.changeover.specs.Changeover.{old_default, opening_under, sheet_under, clean_under, changed_sheet, changed_search}

-- ---- sheets

record Sheet : Type 0 where
  old : List ℕ
  new : List ℕ
  today : Report

-- an old sheet, what the program answers to it, and the report that it has today
abbrev sheet : String → String → Report → Sheet
sheet old new today = record { old = bytes old; new = bytes new; today = today }

abbrev sheets : List Sheet
sheets =
    -- document 01's trial by M with 0 for its method: today, by R, record 5 should have the setting 40
    sheet "0,0,100,1\r\n0,-50\r\n100,100\r\n33,-10\r\n41,-2\r\n43,1\r\n" "1,0,100,1\r\n0,-50\r\n100,100\r\n33,-10\r\n41,-2\r\n43,1\r\n" (Refused 6 5)
    -- on its way, in another spelling: today it is sent elsewhere
    ∷ sheet "\"00\",-0,0100,1\r\n0,-50\r\n100,\"100\"\r\n33,-10" "1,0,100,1\r\n0,-50\r\n100,100\r\n33,-10\r\n" (Next 40 3)
    -- methods 1 and 2 are kept
    ∷ sheet "01,0,100,1\r\n0,-50\r\n100,100\r\n33,-10" "1,0,100,1\r\n0,-50\r\n100,100\r\n33,-10\r\n" (Next 41 3)
    ∷ sheet "2,0,100,1\r\n0,-50\r\n100,100\r\n33,-10\r\n40,-5" "2,0,100,1\r\n0,-50\r\n100,100\r\n33,-10\r\n40,-5\r\n" (Next 48 4)
    -- the share is kept
    ∷ sheet "0,100,0,1,100\r\n100,-2\r\n" "1,100,0,1,100\r\n100,-2\r\n" (Next 0 1)
    -- refused: asked by R, which today's reader takes; by both, each at its own record
    ∷ sheet "0,0,100,1\r\n0,-50\r\n100,100\r\n33,-10\r\n40,-5\r\n" "refuse,6,5\r\n" (Next 48 4)
    ∷ sheet "0,0,100,1\r\n0,-50\r\n100,100\r\n33,-10\r\n41,-2\r\n42,1\r\n" "refuse,6,6\r\n" (Refused 6 5)
    -- refused for its opening, or its form
    ∷ sheet "3,0,100,1\r\n" "refuse,1,1\r\n" (Refused 1 1)
    ∷ sheet "0,5,5,1\r\n" "refuse,3,1\r\n" (Refused 3 1)
    ∷ sheet "" "refuse,12,1\r\n" (Refused 12 1)
    ∷ []

abbrev AllChanged : List Sheet → Type 0
AllChanged [] = Unit {0}
AllChanged (x ∷ xs) = (changed_sheet x.old ≡ x.new) × ((sheet_of x.old).report ≡ x.today) × AllChanged xs

sheets_hold : AllChanged sheets
unfolding method_of tolerance_at start_of stopped_of forward_of displacement_of linear_of cross_of rational_of doubled_of opposed partner_of streak_of
    renewed_of advance_of step_of reach_of offset_of next_of opening_refusal answer_refusal same_side begin_of offer_of take_of answers_of bracket_report
    report_at records_of fields_of all_digits value_from signed_of number_of field_of answer_of opening_of refused opened entered answers_from records_read
    entries_of outcome_of sheet_of decimal_within decimal_of number_fields record_with record_of with_points number_text answers_text sheet_text clean_of
    cleaned_of opening_under sheet_under
sheets_hold =
    (refl, refl, (refl, refl, (refl, refl, (refl, refl, (refl, refl, (refl, refl, (refl, refl, (refl, refl, (refl, refl, (refl, refl, tt))))))))))

-- ---- held searches

-- from 0 to 100 with τ 1: the values held, and 7 in the slots past them
abbrev holds : ℕ → List ℤ → Search
holds method vs =
    record {
      opening = record { method = pos method; first = pos 0; second = pos 100; tolerance = pos 1; share = pos 0 };
      count = length vs;
      slots = take slots (vs ++ replicate slots (pos 7));
    }

record Changed : Type 0 where
  before : Search
  after : Search
  report : Report
  sheet : List ℕ

-- a search, the search after the call, its report, and the old clean sheet of the search before
abbrev changed : Search → Search → Report → String → Changed
changed before after report text = record { before = before; after = after; report = report; sheet = bytes text }

-- document 01's values by M
abbrev settled : List ℤ
settled = negative 50 ∷ pos 100 ∷ negative 10 ∷ negative 2 ∷ pos 1 ∷ []

abbrev searches : List Changed
searches =
    changed (holds 0 []) (holds 1 []) (Next 0 0) "0,0,100,1\r\n"
    -- to the stop: the points of its old clean sheet are M's
    ∷ changed (holds 0 settled) (holds 1 settled) (Stop 41 43 43 5) "0,0,100,1\r\n0,-50\r\n100,100\r\n33,-10\r\n41,-2\r\n43,1\r\n"
    -- methods 1 and 2 are kept
    ∷ changed (holds 1 (negative 50 ∷ [])) (holds 1 (negative 50 ∷ [])) (Next 100 1) "1,0,100,1\r\n0,-50\r\n"
    ∷ changed (holds 2 (negative 50 ∷ [])) (holds 2 (negative 50 ∷ [])) (Next 100 1) "2,0,100,1\r\n0,-50\r\n"
    -- a refused one stays as it is
    ∷ changed (holds 0 (pos 5 ∷ pos 6 ∷ [])) (holds 0 (pos 5 ∷ pos 6 ∷ [])) (Refused 8 1) "0,0,100,1\r\n0,5\r\n100,6\r\n"
    ∷ changed (holds 3 []) (holds 3 []) (Refused 1 0) "3,0,100,1\r\n"
    ∷ []

abbrev AllHeld : List Changed → Type 0
AllHeld [] = Unit {0}
AllHeld (x ∷ xs) =
    (changed_search x.before ≡ record { report = x.report; search = x.after }) × (clean_under old_default x.before ≡ x.sheet) × AllHeld xs

searches_hold : AllHeld searches
unfolding method_of tolerance_at start_of stopped_of forward_of displacement_of linear_of cross_of rational_of doubled_of opposed partner_of streak_of
    renewed_of advance_of step_of reach_of offset_of next_of opening_refusal answer_refusal same_side begin_of offer_of take_of progress_of bracket_report
    report_at standing_of held_report decimal_within decimal_of with_points number_text answers_text sheet_text opening_under clean_under changed_search
searches_hold = (refl, refl, (refl, refl, (refl, refl, (refl, refl, (refl, refl, (refl, refl, tt))))))
