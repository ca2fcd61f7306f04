-- `printing::line_of` meets its contract: each case hands over its word and its numbers. The record fits, since the numbers have 32
-- bits.
-- Assumes nothing.
use Rattle.std.proofs.Common.{arith, rules}
use Rattle.printing.specs.Printed.{record_of}
use Rattle.printing.specs.PrintedLaws.{record_short}
use Rattle.printing.proofs.line_of.Goals as goal

pub line_with-requires : goal.line_with-requires
line_with-requires c = record_short _ _ (search rules, (search rules, tt)) (omega arith)

pub line_with-requires-in-Stop : goal.line_with-requires-in-Stop
line_with-requires-in-Stop c = record_short _ _ (search rules, (search rules, (search rules, (search rules, tt)))) (omega arith)

pub line_with-requires-in-Refused : goal.line_with-requires-in-Refused
line_with-requires-in-Refused c = record_short _ _ (search rules, (search rules, tt)) (omega arith)

pub returns-in-Next : goal.returns-in-Next
unfolding record_of
returns-in-Next c = rw c.in-Next.is c.line_with.ensures

pub returns-in-Stop : goal.returns-in-Stop
unfolding record_of
returns-in-Stop c = rw c.in-Stop.is c.line_with-in-Stop.ensures

pub returns-in-Refused : goal.returns-in-Refused
unfolding record_of
returns-in-Refused c = rw c.in-Refused.is c.line_with-in-Refused.ensures
