-- A report and a quote as plain numbers, for C and for lists of numbers: the kind, then each number under its own name, and 0 for those
-- that the kind has not.
-- Assumes nothing.
use Rattle.std.specs.Prelude.{ℕ, ◌*◌, List, [], ◌∷◌, ◌++◌, length, drop, Result, Ok, Err}
use Rattle.rules.specs.declared.Report.{Report}
use Rattle.rules.specs.declared.Row.{Row}
use Rattle.rules.specs.declared.Quote.{Quote}
use Rattle.rules.specs.declared.Refusal.{Refusal}
use Rattle.rules.specs.declared.Quotation.{Quotation}

-- ---- the kinds

abbrev pub next_kind : ℕ
next_kind = 1

abbrev pub stop_kind : ℕ
stop_kind = 2

abbrev pub refused_kind : ℕ
refused_kind = 3

-- of a quote, which is none of a report's
abbrev pub quoted_kind : ℕ
quoted_kind = 4

-- of a sheet, or a panel's reply, that was written
abbrev pub written_kind : ℕ
written_kind = 5

-- of a season report
abbrev pub season_kind : ℕ
season_kind = 6

-- of a survey
abbrev pub surveyed_kind : ℕ
surveyed_kind = 7

-- ---- the numbers of a report

abbrev pub row_of : Report → Row
row_of (Report.Next point taken) =
    record { kind = next_kind; point = point; lower = 0; upper = 0; better = 0; taken = taken; number = 0; place = 0 }
row_of (Report.Stop lower upper better taken) =
    record { kind = stop_kind; point = 0; lower = lower; upper = upper; better = better; taken = taken; number = 0; place = 0 }
row_of (Report.Refused number place) =
    record { kind = refused_kind; point = 0; lower = 0; upper = 0; better = 0; taken = 0; number = number; place = place }

-- in the order of the fields
abbrev pub row_numbers : Row → List ℕ
row_numbers w =
    w.kind ∷ w.point ∷ w.lower ∷ w.upper ∷ w.better ∷ w.taken ∷ w.number ∷ w.place ∷ []

-- how many they are
abbrev pub numbers_each : ℕ
numbers_each = 8

-- ---- the numbers of several reports, in a lent list

-- the rows of each, one after the other
unfoldable pub rows_of : List Report → List ℕ
rows_of [] = []
rows_of (r ∷ rs) = row_numbers (row_of r) ++ rows_of rs

-- they stand at the beginning of the list, whose further numbers keep their contents
abbrev pub written_over : List Report → List ℕ → List ℕ
written_over rs list = rows_of rs ++ drop (numbers_each * length rs) list

-- ---- the numbers of a quote: t and the most answers, or a refusal

abbrev pub quotation_of : Result Quote Refusal → Quotation
quotation_of (Ok q) = record { kind = quoted_kind; t = q.t; most = q.most; number = 0; place = 0 }
quotation_of (Err r) = record { kind = refused_kind; t = 0; most = 0; number = r.number; place = r.place }
