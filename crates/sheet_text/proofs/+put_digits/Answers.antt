-- `sheet_text::put_digits`, which calls itself, meets its contract: a number below 10 is one digit, and another is the digits of its
-- tenth part and one more.
-- Assumes nothing.
use Rattle.std.proofs.Common.{ℕ, ◌≡◌, ◌+◌, ◌/◌, ◌≤◌, ◌<◌, refl, sym, ap, arith, length, length-append}
use Rattle.lines.specs.Decimal.{decimal_of}
use Rattle.lines.proofs.DecimalLaws.{decimal_one, decimal_more}
use Rattle.sheet_text.specs.PiecesLaws.{same_size, puts_more, puts_byte, in_words}
use Rattle.sheet_text.proofs.+put_digits.Goals as goal

one_length : (n : ℕ) → n < 10 → length (decimal_of n) ≡ 1
one_length n h = ap length (decimal_one n h)

more_length : (n : ℕ) → 10 ≤ n → length (decimal_of n) ≡ length (decimal_of (n / 10)) + 1
more_length n h = rw (decimal_more n h, length-append)

pub bounds-out-at : goal.bounds-out-at
bounds-out-at t c = omega (arith, one_length c.args.n (omega arith))

pub returns-then-n-lt10 : goal.returns-then-n-lt10
returns-then-n-lt10 t c =
    let s = c.args in
    let room : s.at < length s.out.now = omega (arith, one_length s.n (omega arith)) in
    in_words (puts_byte s.out.now s.at _ room) (sym (decimal_one s.n (omega arith))) refl refl

pub put_digits-end-requires : goal.put_digits-end-requires
put_digits-end-requires t c = (omega arith, omega (arith, more_length c.args.n (omega arith)))

-- behind the digits of the tenth part there is room for one more
pub bounds-out-end : goal.bounds-out-end
bounds-out-end t c =
    let p = c.put_digits-end.ensures in
    omega (arith, p.ends, same_size p, more_length c.args.n (omega arith))

pub returns : goal.returns
returns t c =
    let d = c.put_digits-end in
    let n = c.args.n in
    let room : d.result < length d.new.out = omega (arith, d.ensures.ends, same_size d.ensures, more_length n (omega arith)) in
    in_words (puts_more d.ensures (puts_byte d.new.out d.result _ room)) (sym (decimal_more n (omega arith))) refl refl
