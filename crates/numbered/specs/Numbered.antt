-- A report beside its search, as plain numbers (`row_of` of crate `rules` has those of the report).
-- Assumes nothing.
use Rattle.rules.specs.Rows.{row_of}
use Rattle.held.specs.declared.Entered.{Entered}
use Rattle.numbered.specs.declared.Answered.{Answered}

-- a report beside its search, with the report as plain numbers
abbrev pub answered_of : Entered → Answered
answered_of e = record { report = row_of e.report; search = e.search }
