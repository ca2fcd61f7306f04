-- `numbers::scan_digits` meets its contract: a digit that stands within s adds to v; after the loop none is to come, since there have been
-- five, or none stands at i.
-- Assumes nothing.
use Rattle.std.proofs.Common.{◌≡◌, sym, ap, ◌∙◌, ◌-◌, drop, get_or, arith}
use lib.IntN.{ℤ}
use mir.Facts.{to_z-of_z}
use mir.Syntax.{w32}
use Rattle.scanning.specs.Scan.{found, digit_count}
use Rattle.scanning.specs.Places.{digit_high, digit_there, digit_missing, digit_on, no_digit, no_sixth, stop_none, stop_some}
use Rattle.scanning.specs.Places.{one_more_digit}
use Rattle.numbers.proofs.scan_digits.Goals.{Left-loop, else-loop-test, then-loop-test+in_default}
use Rattle.numbers.proofs.scan_digits.Goals as goal

pub loop-preserved : goal.loop-preserved
loop-preserved c =
    let l = c.loop in
    let a = c.args in
    let s = a.s.now in
    let d = digit_there s l.i c.in-Some.d (sym c.digit_at.ensures ∙ c.in-Some.is) in (
      one_more_digit l.counter l.v _ l.invariant.0 (omega (arith, d.1, digit_high (get_or s l.i 0) d.0)),
      omega (arith, l.invariant.1),
      l.invariant.2 ∙ digit_on a.negative s l.v l.counter l.i d.0 c.loop-test.true ∙ rw d.1,
    )

spent : (c : Left-loop) → digit_count (5 - c.loop.counter) (drop c.loop.i c.args.s.now) ≡ 0
spent c = elim c.loop-test.branch [
  | else-loop-test w ↦ no_sixth c.loop.counter _ (omega (arith, w.loop-test.false))
  | then-loop-test+in_default w ↦
      no_digit _ c.args.s.now c.loop.i (digit_missing c.args.s.now c.loop.i (sym w.digit_at.ensures ∙ w.in_default.is))
]

pub returns-then-i-from : goal.returns-then-i-from
returns-then-i-from c =
    let l = c.loop in
    let s = c.args.s.now in
    sym (l.invariant.2 ∙ stop_none c.args.negative s l.v l.counter l.i (spent (goal.at.returns-then-i-from c).Left-loop) (omega (arith, l.invariant.1)))

pub returns : goal.returns
returns c =
    let l = c.loop in
    let s = c.args.s.now in
    ap (λ (z : ℤ). found z l.i) (to_z-of_z {w = w32} (record { sfits = c.with_sign.type_inv }) ∙ c.with_sign.ensures)
    ∙ sym (l.invariant.2 ∙ stop_some c.args.negative s l.v l.counter l.i (spent (goal.at.returns c).Left-loop) (λ h. omega (arith, l.invariant.1)))
