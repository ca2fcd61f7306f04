-- `sheet_text::put_field` meets its contract: the number, and the byte behind it.
-- Assumes nothing.
use Rattle.std.proofs.Common.{◌<◌, [], ◌∷◌, arith, length, length-append}
use Rattle.integers.proofs.Bounds.{read}
use Rattle.clean_sheets.specs.Clean.{number_text}
use Rattle.sheet_text.specs.PiecesLaws.{same_size, puts_more, puts_byte}
use Rattle.sheet_text.proofs.put_field.Goals as goal

pub returns : goal.returns
returns c =
    let s = c.args in
    let put = c.put_integer-last in
    let number = rw (read c.ranges.z) at put.ensures in
    let room : put.result < length put.new.out = omega (arith, length-append (number_text s.z) (s.end ∷ []), number.ends, same_size number) in
    puts_more number (puts_byte _ _ s.end room)
