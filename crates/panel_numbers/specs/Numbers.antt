-- What is told of a panel's request, by itself and beside its search, as plain numbers.
-- Assumes nothing.
use Rattle.std.specs.Prelude.{ℕ, Result, Ok, Err}
use Rattle.rules.specs.declared.Refusal.{Refusal}
use Rattle.rules.specs.Rows.{refused_kind, written_kind}
use Rattle.clean_sheets.specs.declared.WrittenRow.{WrittenRow}
use Rattle.registers.specs.declared.Exchanged.{Exchanged}
use Rattle.panel_numbers.specs.declared.ExchangedRow.{ExchangedRow}

-- a reply's length, or a refusal; a number that its kind has not is 0
abbrev pub replied_row_of : Result ℕ Refusal → WrittenRow
replied_row_of (Ok length) = record { kind = written_kind; length = length; number = 0; place = 0 }
replied_row_of (Err r) = record { kind = refused_kind; length = 0; number = r.number; place = r.place }

abbrev pub exchanged_row_of : Exchanged → ExchangedRow
exchanged_row_of e = record { replied = replied_row_of e.replied; search = e.search }
