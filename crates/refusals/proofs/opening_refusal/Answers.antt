-- `refusals::opening_refusal` meets its contract: past the test of the ends, the other tests come in the table's order too.
-- Assumes nothing.
use Rattle.std.proofs.Common.{◌≡◌, false, w32, arith}
use Rattle.std.proofs.lemmas.Int.{to_z-of_z}
use Rattle.integers.specs.Signs.{eq_z}
use Rattle.integers.proofs.Bounds.{bits_other}
use Rattle.rules.specs.Refusals.{opening_refusal}
use Rattle.refusals.proofs.opening_refusal.Goals as goal

pub returns-then-beyond-2 : goal.returns-then-beyond-2
unfolding opening_refusal
returns-then-beyond-2 c =
    let apart : eq_z c.args.o.first c.args.o.second ≡ false = bits_other w32 c.args.o.first c.args.o.second c.if-o.false in
    grind (arith, to_z-of_z)

pub returns-then-beyond-3 : goal.returns-then-beyond-3
unfolding opening_refusal
returns-then-beyond-3 c =
    let apart : eq_z c.args.o.first c.args.o.second ≡ false = bits_other w32 c.args.o.first c.args.o.second c.if-o.false in
    grind (arith, to_z-of_z)

pub returns : goal.returns
unfolding opening_refusal
returns c =
    let apart : eq_z c.args.o.first c.args.o.second ≡ false = bits_other w32 c.args.o.first c.args.o.second c.if-o.false in
    grind (arith, to_z-of_z)
