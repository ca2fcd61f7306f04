-- Whose turn it is, and a report beside its dispatcher, as plain numbers (`row_of` of crate `rules` has those of the report).
-- Assumes nothing.
use Rattle.std.specs.Prelude.{ℕ, Option, Some, None}
use Rattle.rules.specs.Rows.{row_of}
use Rattle.dispatching.specs.declared.Dispatched.{Dispatched}
use Rattle.dispatching.specs.Dispatching.{dryers}
use Rattle.dispatch_numbers.specs.declared.DispatchedRow.{DispatchedRow}

-- the dryer, or 6 for nobody
abbrev pub turn_number : Option ℕ → ℕ
turn_number (Some i) = i
turn_number None = dryers

-- a report beside its dispatcher, with the report as plain numbers
abbrev pub dispatched_row_of : Dispatched → DispatchedRow
dispatched_row_of r = record { report = row_of r.report; dispatcher = r.dispatcher }
