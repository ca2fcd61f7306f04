-- `composing::compose` meets its contract: the opening's record at the beginning, and the answers' behind it.
-- Assumes nothing.
use Rattle.std.proofs.Common.{refl, sym, arith}
use Rattle.sheet_text.specs.PiecesLaws.{same_size, puts_more, in_words}
use Rattle.composing.specs.SoFar.{whole_text, whole_length}
use Rattle.composing.proofs.compose.Goals as goal

pub put_opening-at-requires : goal.put_opening-at-requires
put_opening-at-requires c = omega (arith, c.requires.1, whole_length c.args.o c.args.values.now)

pub answers_into-requires : goal.answers_into-requires
answers_into-requires c =
    let q = c.put_opening-at.ensures in
    (c.requires.0, omega (arith, q.ends, same_size q, c.requires.1, whole_length c.args.o c.args.values.now))

pub returns : goal.returns
returns c = in_words (puts_more c.put_opening-at.ensures c.answers_into.ensures) (sym (whole_text c.args.o c.args.values.now)) refl refl
