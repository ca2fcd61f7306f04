-- What is answered and left of an outcome that is put into a buffer: of a refusal its record, otherwise what the writer tells and leaves of the
-- search. Only an inner function's contract cites it.
-- Assumes nothing.
use Rattle.std.specs.Prelude.{ℕ, cond, List, Result, Ok, Err}
use Rattle.rules.specs.declared.Refusal.{Refusal}
use Rattle.rules.specs.Search.{is_refusal}
use Rattle.held.specs.declared.Entered.{Entered}
use Rattle.printing.specs.Printed.{record_of, placed, placed_length}
use Rattle.clean_sheets.specs.Clean.{written_of, buffer_of}

-- the length that is told, 0 for a refusal
abbrev pub length_told : Result ℕ Refusal → ℕ
length_told (Ok n) = n
length_told (Err r) = 0

abbrev pub outcome_length : Entered → List ℕ → ℕ
outcome_length e before = cond (is_refusal e.report) (placed_length (record_of e.report) before) (length_told (written_of e.search before))

abbrev pub outcome_left : Entered → List ℕ → List ℕ
outcome_left e before = cond (is_refusal e.report) (placed (record_of e.report) before) (buffer_of e.search before)
