-- `printing::line_with` meets its contract: it puts the record's three parts one after the other, and each fits, since all do.
-- Assumes nothing.
use Rattle.std.proofs.Common.{ap, arith, length, length-append}
use Rattle.printing.specs.Printed.{record_with}
use Rattle.printing.specs.PrintedLaws.{record_parts}
use Rattle.printing.proofs.line_with.Goals as goal

pub put_text-requires : goal.put_text-requires
put_text-requires c = omega (arith, ap length c.new-line.ensures, record_parts c.args.word.now c.args.numbers.now)

pub put_fields-requires : goal.put_fields-requires
put_fields-requires c =
    let word = simp length-append at (ap length c.put_text.ensures) in
    omega (arith, word, ap length c.new-line.ensures, record_parts c.args.word.now c.args.numbers.now)

pub put_text-requires-2 : goal.put_text-requires-2
put_text-requires-2 c =
    let word = simp length-append at (ap length c.put_text.ensures) in
    let fields = simp length-append at (ap length c.put_fields.ensures) in
    omega (arith, word, fields, ap length c.new-line.ensures, record_parts c.args.word.now c.args.numbers.now)

pub returns : goal.returns
unfolding record_with
returns c = rw (c.put_text-2.ensures, c.put_fields.ensures, c.put_text.ensures, c.new-line.ensures)
