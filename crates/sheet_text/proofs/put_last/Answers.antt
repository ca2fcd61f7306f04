-- `sheet_text::put_last` meets its contract: the number and CR, and LF behind them.
-- Assumes nothing.
use Rattle.std.proofs.Common.{◌<◌, [], ◌∷◌, arith, length, length-append}
use Rattle.integers.proofs.Bounds.{read}
use Rattle.forms.specs.Bytes.{cr, lf}
use Rattle.sheet_text.specs.Pieces.{field_text, Puts}
use Rattle.sheet_text.specs.PiecesLaws.{same_size, puts_more, puts_byte}
use Rattle.sheet_text.proofs.put_last.Goals as goal

pub returns : goal.returns
returns c =
    let s = c.args in
    let put = c.put_field-last in
    let field : Puts s.out.now s.at (field_text s.z cr) put.new.out put.result = rw (read c.ranges.z) at put.ensures in
    let room : put.result < length put.new.out = omega (arith, length-append (field_text s.z cr) (lf ∷ []), field.ends, same_size field) in
    puts_more field (puts_byte _ _ lf room)
