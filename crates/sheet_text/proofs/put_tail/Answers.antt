-- `sheet_text::put_tail` meets its contract: where p is 0 the record ends with τ, otherwise with p.
-- Assumes nothing.
use Rattle.std.proofs.Common.{◌≡◌, false, refl, sym, ap, ◌∙◌, arith, length, length-append, ℤ, pos, ◌+◌, w32}
use mir.Facts.{sfits_lit}
use Rattle.integers.specs.Signs.{eq_z}
use Rattle.integers.proofs.Bounds.{read, bits_same, bits_other}
use Rattle.forms.specs.Bytes.{comma}
use Rattle.sheet_text.specs.Pieces.{field_text, last_text, tail_text}
use Rattle.sheet_text.specs.PiecesLaws.{tail_alone, tail_with_share, same_size, puts_more, in_words}
use Rattle.sheet_text.proofs.put_tail.Goals as goal

with_share_length : (t p : ℤ) → eq_z p (pos 0) ≡ false → length (tail_text t p) ≡ length (field_text t comma) + length (last_text p)
with_share_length t p h = ap length (tail_with_share t p h) ∙ length-append (field_text t comma) (last_text p)

-- ---- p is 0

pub put_last-requires : goal.put_last-requires
put_last-requires c =
    let is = bits_same {b = pos 0} c.ranges.share (sfits_lit tt) c.if-share-eq0.true in
    rw (read c.ranges.tolerance) (omega (arith, c.requires, ap length (tail_alone c.args.tolerance c.args.share is)))

pub returns-then-share-eq0 : goal.returns-then-share-eq0
returns-then-share-eq0 c =
    let zero = bits_same {b = pos 0} c.ranges.share (sfits_lit tt) c.if-share-eq0.true in
    in_words (rw (read c.ranges.tolerance) at c.put_last.ensures) (sym (tail_alone c.args.tolerance c.args.share zero)) refl refl

-- ---- it is not

pub put_field-last-requires : goal.put_field-last-requires
put_field-last-requires c =
    let no = bits_other w32 c.args.share (pos 0) c.if-share-eq0.false in
    rw (read c.ranges.tolerance) (omega (arith, c.requires, with_share_length c.args.tolerance c.args.share no))

pub put_last-requires-2 : goal.put_last-requires-2
put_last-requires-2 c =
    let differs = bits_other w32 c.args.share (pos 0) c.if-share-eq0.false in
    let e = with_share_length c.args.tolerance c.args.share differs in
    let first = rw (read c.ranges.tolerance) at c.put_field-last.ensures in
    rw (read c.ranges.share) (omega (arith, c.requires, e, first.ends, same_size first))

pub returns : goal.returns
returns c =
    let more = bits_other w32 c.args.share (pos 0) c.if-share-eq0.false in
    let e = tail_with_share c.args.tolerance c.args.share more in
    let first = rw (read c.ranges.tolerance) at c.put_field-last.ensures in
    in_words (puts_more first (rw (read c.ranges.share) at c.put_last-2.ensures)) (sym e) refl refl
