-- `sheet_text::put_answer` meets its contract: the point and a comma, and the value and CR LF behind them, for which there is room.
-- Assumes nothing.
use Rattle.std.proofs.Common.{◌<◌, ◌+◌, arith, length, set, length-set}
use Rattle.integers.proofs.Bounds.{read}
use Rattle.forms.specs.Bytes.{comma}
use Rattle.clean_sheets.specs.Clean.{number_text}
use Rattle.sheet_text.specs.Pieces.{last_text, answer_text, Puts}
use Rattle.sheet_text.specs.PiecesLaws.{answer_length, same_size, puts_more, puts_byte}
use Rattle.sheet_text.proofs.put_answer.Goals as goal

pub put_digits-a-requires : goal.put_digits-a-requires
put_digits-a-requires c = omega (arith, answer_length c.args.point c.args.value)

pub bounds-out-a : goal.bounds-out-a
bounds-out-a c = let digits = c.put_digits-a.ensures in omega (arith, answer_length c.args.point c.args.value, same_size digits)

pub put_last-requires : goal.put_last-requires
put_last-requires c =
    let digits = c.put_digits-a.ensures in
    rw (read c.ranges.value, length-set) (omega (arith, answer_length c.args.point c.args.value, same_size digits))

pub returns : goal.returns
unfolding answer_text number_text
returns c =
    let s = c.args in
    let put = c.put_digits-a in
    let room : put.result < length put.new.out = omega (arith, answer_length s.point s.value, same_size put.ensures) in
    let value : Puts (set put.new.out put.result comma) (put.result + 1) (last_text s.value) c.put_last.new.out c.put_last.result =
    rw (read c.ranges.value) at c.put_last.ensures in
    puts_more (puts_more put.ensures (puts_byte _ _ comma room)) value
