-- What the inner steps tell. No exported function's contract cites this.
-- Assumes nothing.
use Rattle.rules.specs.Rows.{row_of}
use Rattle.verdicts.specs.declared.Verdict.{Verdict}
use Rattle.numbered.specs.declared.NumberedVerdict.{NumberedVerdict}

-- what an answer does to a search, with the report as plain numbers
abbrev pub numbered_of : Verdict → NumberedVerdict
numbered_of v = record { report = row_of v.report; count = v.count; at = v.at; value = v.value }
