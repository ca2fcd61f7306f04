-- `sheet_text::put_opening` meets its contract: three fields, each behind the one before, and the tail, for which there is room.
-- Assumes nothing.
use Rattle.std.proofs.Common.{ℕ, ◌+◌, ◌≤◌, List, arith, rules, length, ℤ, to_z, of_z, w32, FitsSigned}
use Rattle.integers.proofs.Bounds.{read}
use Rattle.forms.specs.Bytes.{comma}
use Rattle.sheet_text.specs.Pieces.{field_text, opening_text, Puts}
use Rattle.sheet_text.specs.PiecesLaws.{opening_length, same_size, puts_more}
use Rattle.sheet_text.proofs.put_opening.Goals as goal

-- a field as the code reads its number: the room for it, and the field put
room : (n m : ℕ) (z : ℤ) → FitsSigned w32 z → n + length (field_text z comma) ≤ m → n + length (field_text (to_z w32 (of_z w32 z)) comma) ≤ m
room n m z f h = rw (read f) h

field : {before after : List ℕ} {at stop : ℕ} (z : ℤ) → FitsSigned w32 z
    → Puts before at (field_text (to_z w32 (of_z w32 z)) comma) after stop → Puts before at (field_text z comma) after stop
field z f p = rw (read f) at p

pub put_field-a-requires : goal.put_field-a-requires
put_field-a-requires c = room _ _ c.args.o.method (search rules) (omega (arith, opening_length c.args.o))

pub put_field-b-requires : goal.put_field-b-requires
put_field-b-requires c =
    let o = c.args.o in
    let a = field o.method (search rules) c.put_field-a.ensures in
    room _ _ o.first (search rules) (omega (arith, opening_length o, a.ends, same_size a))

pub put_field-c-requires : goal.put_field-c-requires
put_field-c-requires c =
    let o = c.args.o in
    let a = field o.method (search rules) c.put_field-a.ensures in
    let b = field o.first (search rules) c.put_field-b.ensures in
    room _ _ o.second (search rules) (omega (arith, opening_length o, a.ends, same_size a, b.ends, same_size b))

pub put_tail-requires : goal.put_tail-requires
put_tail-requires c =
    let o = c.args.o in
    let f : FitsSigned w32 o.tolerance = search rules in
    let g : FitsSigned w32 o.share = search rules in
    let a = field o.method (search rules) c.put_field-a.ensures in
    let b = field o.first (search rules) c.put_field-b.ensures in
    let d = field o.second (search rules) c.put_field-c.ensures in
    rw (read f, read g) (omega (arith, opening_length o, a.ends, same_size a, b.ends, same_size b, d.ends, same_size d))

pub returns : goal.returns
unfolding opening_text
returns c =
    let o = c.args.o in
    let f : FitsSigned w32 o.tolerance = search rules in
    let g : FitsSigned w32 o.share = search rules in
    let a = field o.method (search rules) c.put_field-a.ensures in
    let b = field o.first (search rules) c.put_field-b.ensures in
    let d = field o.second (search rules) c.put_field-c.ensures in
    puts_more (puts_more (puts_more a b) d) (rw (read f, read g) at c.put_tail.ensures)
