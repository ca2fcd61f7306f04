-- `writing::write_accepted` meets its contract: the sheet is made in a buffer of its own, which is long enough for every accepted
-- search, and copied where the lent one is long enough.
-- Assumes nothing.
use Rattle.std.proofs.Common.{ℕ, ◌≡◌, ◌≤◌, ap, ◌∙◌, List, arith, length, take, Ok}
use borrow.Author.Tests.{le-ltb, lt-leb, le-leb}
use Rattle.printing.specs.Printed.{placed, placed_length}
use Rattle.clean_sheets.proofs.ClaimsHold.{is_short}
use Rattle.sheet_text.specs.PiecesLaws.{front_length, front_text}
use Rattle.writing.proofs.write_accepted.Goals as goal

-- the sheet that is wanted is no longer than the own buffer
pub compose-length-requires : goal.compose-length-requires
compose-length-requires c =
    let s = c.args in
    (c.requires.1, omega (arith, is_short s.o (take s.count s.slots.now) c.requires.1))

pub returns-then-out-length-clause-out_after : goal.returns-then-out-length-clause-out_after
unfolding placed
returns-then-out-length-clause-out_after c =
    let too_short = rw (front_length c.compose-length.ensures) at c.if-out-length.true in
    simp (lt-leb _ _ too_short)

-- where the buffer is long enough, all of the sheet is copied
copied : (made sheet buffer : List ℕ) {n : ℕ} → made ≡ sheet → n ≡ placed_length made buffer → length sheet ≤ length buffer → n ≡ length sheet
unfolding placed_length
copied made sheet buffer e n fits = (rw e at n) ∙ simp (le-leb _ _ fits)

pub overflow_cast-result : goal.overflow_cast-result
overflow_cast-result c =
    let s = c.args in
    let m = c.compose-length.ensures in
    let fits = rw (front_length m) at c.if-out-length.false in
    let whole = copied _ _ _ (front_text m) c.place_text-written.ensures.value fits in
    record { fits = omega (arith, whole, is_short s.o (take s.count s.slots.now) c.requires.1) }

pub returns-clause-value : goal.returns-clause-value
returns-clause-value c =
    let m = c.compose-length.ensures in
    let fits = rw (front_length m) at c.if-out-length.false in
    simp (le-ltb _ _ fits) (ap Ok (copied _ _ _ (front_text m) c.place_text-written.ensures.value fits))
