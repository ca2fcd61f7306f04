-- `modbus::signed` meets its contract: both cases fit 32 bits.
-- Assumes nothing.
use mathlib.Core.Path.{◌≡◌, ◌∙◌}
use Prim.Native.Nat.{◌<◌, ◌≤◌, ◌^◌}
use native.Mathlib.Omega.{arith}
use lib.IntN.{pos, ◌-ℤ◌}
use mir.Syntax.{w32}
use mir.Val.{to_z, SFits}
use mir.Facts.{to_z-of_z, to_z_pos}
use borrow.Author.Tests.{lt-ltb, le-ltb}
use Rattle.integers.proofs.Bounds.{within_fits, within_difference}
use Rattle.registers.specs.Exchange.{signed_of}
use Rattle.modbus.proofs.signed.Goals as goal

pub returns-then-word-lt32768 : goal.returns-then-word-lt32768
unfolding signed_of
returns-then-word-lt32768 c =
    let h : c.args.word < 2 ^ 31 = omega (arith, c.requires) in
    let low : c.args.word < 32768 = omega arith in
    simp (lt-ltb _ _ low) (to_z_pos w32 h)

pub overflow_sub-result : goal.overflow_sub-result
overflow_sub-result c =
    let h : c.args.word < 2 ^ 31 = omega (arith, c.requires) in
    let within = within_difference {a = c.args.word} {b = 65536} {k = 65536} (omega (arith, c.requires)) (omega arith) in
    rw (to_z_pos w32 h) (within_fits within tt)

pub returns : goal.returns
unfolding signed_of
returns c =
    let h : c.args.word < 2 ^ 31 = omega (arith, c.requires) in
    let difference : to_z w32 c.args.word -ℤ pos 65536 ≡ pos c.args.word -ℤ pos 65536 = rw (to_z_pos w32 h) in
    let within = within_difference {a = c.args.word} {b = 65536} {k = 65536} (omega (arith, c.requires)) (omega arith) in
    let fits : SFits w32 (to_z w32 c.args.word -ℤ pos 65536) = rw difference (within_fits within tt) in
    let high : 32768 ≤ c.args.word = omega arith in
    simp (le-ltb _ _ high) (to_z-of_z fits ∙ difference)
