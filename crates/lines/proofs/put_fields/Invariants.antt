-- The loop's invariant of `lines::put_fields`: the fields of the numbers still to come make of the line what it is to hold.
-- Assumes nothing.
use Rattle.std.proofs.Common.{◌≡◌, ◌++◌, drop}
use Rattle.lines.specs.Decimal.{number_fields}
use Rattle.lines.proofs.put_fields.Given as goal

abbrev pub invariant-loop-n : goal.invariant-loop-n
invariant-loop-n l = l.line.items ++ number_fields (drop l.n-index l.numbers) ≡ l.initial.line.items ++ number_fields l.numbers
