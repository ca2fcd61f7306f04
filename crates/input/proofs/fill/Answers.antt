-- What a turn adds to the buffer is what the reader then gave.
use Rattle.std.proofs.Common.{◌≡◌, ℕ, ◌+◌, ◌≤◌, List, ◌++◌, rules, length, take, sym, ap, ◌∙◌, subst, length-take-le}
use Rattle.std.proofs.lemmas.List.{take-append-le}
use Rattle.std.proofs.Math.Seq.{take-append-add}
use Rattle.std.proofs.KnownBytes.{Consumes-trans}
use Rattle.std.specs.Io.KnownBytes.{Consumes}
use borrow.Rule.Slice.PartMut.{put_mid, post_of}
use Rattle.input.proofs.fill.Goals as goal

-- the first bytes of a buffer, and then the first of those that were put after them
one_more : (d n k : ℕ) (xs ys : List ℕ) → d ≤ length xs → n ≤ length ys → take d xs ++ take n ys ≡ take (d + n) (put_mid d k xs ys)
one_more d n k xs ys h within =
    let rest = post_of d k xs in
    let front = length-take-le d xs h in
    ap (λ t. take d xs ++ t) (sym (take-append-le n ys rest within)) ∙ sym (take-append-add (take d xs) (ys ++ rest) n)
    ∙ ap (λ m. take (m + n) (put_mid d k xs ys)) front

pub loop-done-preserved : goal.loop-done-preserved
loop-done-preserved g c =
    let before = c.loop-done in
    let bound = c.in-Ok.ensures.bound in
    record {
      within = search rules;
      same_length = search rules;
      taken = subst (Consumes _ _) (one_more before.done c.in-Ok.n _ before.buf c.read.new.buf before.invariant.within bound.0)
          (Consumes-trans _ _ _ _ _ before.invariant.taken c.in-Ok.ensures.bytes.0);
    }
