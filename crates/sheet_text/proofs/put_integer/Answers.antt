-- `sheet_text::put_integer` meets its contract: a number below 0 is a minus and the digits of its magnitude, and another its digits.
-- Assumes nothing.
use Rattle.std.proofs.Common.{ℕ, ◌≡◌, ◌<◌, true, false, nat_abs, refl, sym, ap, ◌∙◌, ◌∷◌, arith, length, ℤ, pos, to_z, of_z, w32, FitsSigned}
use Rattle.std.specs.Int.Signed.{lt_z}
use Rattle.std.proofs.Math.ListN.{length-set}
use Rattle.integers.proofs.Bounds.{read}
use Rattle.forms.specs.Bytes.{minus}
use Rattle.lines.specs.Decimal.{decimal_of}
use Rattle.clean_sheets.specs.Clean.{number_text}
use Rattle.sheet_text.specs.PiecesLaws.{number_below, number_above, puts_more, puts_byte, in_words}
use Rattle.sheet_text.proofs.put_integer.Goals as goal

-- the digits are those of the magnitude, as the code reads the number
below : {z : ℤ} {n : ℕ} → FitsSigned w32 z → n ≡ nat_abs (to_z w32 (of_z w32 z)) → lt_z (to_z w32 (of_z w32 z)) (pos 0) ≡ true
    → number_text z ≡ minus ∷ decimal_of n
below {z} f e t = number_below z (rw (read f) at t) ∙ ap (λ (n : ℕ). minus ∷ decimal_of n) (sym (rw (read f) at e))

above : {z : ℤ} {n : ℕ} → FitsSigned w32 z → n ≡ nat_abs (to_z w32 (of_z w32 z)) → lt_z (to_z w32 (of_z w32 z)) (pos 0) ≡ false
    → number_text z ≡ decimal_of n
above {z} f e t = number_above z (rw (read f) at t) ∙ ap decimal_of (sym (rw (read f) at e))

-- there is room for the minus
pub bounds-out-at : goal.bounds-out-at
bounds-out-at c = let signed = below c.ranges.z c.unsigned_abs-n.ensures.value c.if-z-lt0.true in omega (arith, c.requires, ap length signed)

pub put_digits-requires : goal.put_digits-requires
put_digits-requires c =
    let text = below c.ranges.z c.unsigned_abs-n.ensures.value c.if-z-lt0.true in
    rw length-set (omega (arith, c.requires, ap length text))

-- the minus, and the digits behind it
pub returns-then-z-lt0 : goal.returns-then-z-lt0
returns-then-z-lt0 c =
    let s = c.args in
    let whole = below c.ranges.z c.unsigned_abs-n.ensures.value c.if-z-lt0.true in
    let room : s.at < length s.out.now = omega (arith, c.requires, ap length whole) in
    in_words (puts_more (puts_byte s.out.now s.at minus room) c.put_digits.ensures) (sym whole) refl refl

pub put_digits-requires-2 : goal.put_digits-requires-2
put_digits-requires-2 c = omega (arith, c.requires, ap length (above c.ranges.z c.unsigned_abs-n.ensures.value c.if-z-lt0.false))

pub returns : goal.returns
returns c = in_words c.put_digits-2.ensures (sym (above c.ranges.z c.unsigned_abs-n.ensures.value c.if-z-lt0.false)) refl refl
