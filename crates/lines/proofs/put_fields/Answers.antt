-- `lines::put_fields` meets its contract: the field of the next number is the first of those still to come, and there is room for
-- all of these.
-- Assumes nothing.
use Rattle.std.proofs.Common.{ℕ, ◌≡◌, ◌+◌, ◌<◌, ap, ◌∙◌, sym, arith, List, [], ◌∷◌, ◌++◌, append_assoc, append-nil, add-one, length, get_or, drop, drop-cons, length-append, drop_of_length-le}
use Rattle.lines.specs.Decimal.{decimal_of, number_fields}
use Rattle.lines.proofs.put_fields.Goals as goal

next_field : (numbers : List ℕ) (i : ℕ) → i < length numbers
    → number_fields (drop i numbers) ≡ (44 ∷ []) ++ (decimal_of (get_or numbers i 0) ++ number_fields (drop (i + 1) numbers))
unfolding number_fields
next_field numbers i h = rw (add-one i, drop-cons numbers i 0 h, number_fields)

one_more : (line whole numbers : List ℕ) (i : ℕ) → i < length numbers → line ++ number_fields (drop i numbers) ≡ whole
    → ((line ++ 44 ∷ []) ++ decimal_of (get_or numbers i 0)) ++ number_fields (drop (i + 1) numbers) ≡ whole
one_more line whole numbers i h e =
    let n = next_field numbers i h in
    simp append_assoc (ap (λ (l : List ℕ). line ++ l) (sym n) ∙ e)

pub put_byte-requires : goal.put_byte-requires
put_byte-requires c =
    let at = c.loop-n in
    let e = one_more at.line.items _ c.args.numbers.now at.n-index (omega arith) at.invariant in
    omega (arith, simp length-append at (ap length e))

pub put_number-requires : goal.put_number-requires
put_number-requires c =
    let at = c.loop-n in
    let e = one_more at.line.items _ c.args.numbers.now at.n-index (omega arith) at.invariant in
    omega (arith, simp length-append at (ap length e), simp length-append at (ap length c.put_byte.ensures))

pub loop-n-preserved : goal.loop-n-preserved
loop-n-preserved c =
    let at = c.loop-n in
    rw (c.put_number.ensures, c.put_byte.ensures) (one_more at.line.items _ c.args.numbers.now at.n-index (omega arith) at.invariant)

pub returns : goal.returns
unfolding number_fields
returns c =
    let none : drop c.loop-n.n-index c.args.numbers.now ≡ [] = drop_of_length-le c.args.numbers.now (omega arith) in
    sym (append-nil _) ∙ (rw none at c.loop-n.invariant)
