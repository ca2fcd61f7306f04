-- `search::turns` meets its contract: 32 less the leading zeros of a number is the number of its binary digits.
-- Assumes nothing.
use Prim.Native.Nat.{◌-◌, ◌*◌, ◌/◌}
use native.Mathlib.Nat.{div-le_self}
use native.Mathlib.Omega.{arith}
use lib.Count.{leading_le}
use Rattle.rules.specs.Search.{turns_of}
use Rattle.search.proofs.Laws.{digits_leading}
use borrow.Author.Rules.{rules}
use Rattle.search.proofs.turns.Statement.{statement}
use Rattle.search.proofs.turns.Tie as tie

sub-result : tie.Need-overflow_sub-result
sub-result c = search rules

mul-result : tie.Need-overflow_mul-result
mul-result c = search rules

div-result : tie.Need-nonzero_div-result
div-result c = search rules

sub-result-2 : tie.Need-overflow_sub-result-2
sub-result-2 c = leading_le 32 _

returns : tie.Need-returns
unfolding turns_of
returns c =
    let k = (c.args.distance - 1) / (2 * c.args.tolerance) in
    digits_leading k (omega (arith, div-le_self (c.args.distance - 1) (2 * c.args.tolerance), c.ranges.distance.fits))

pub turns_spec : {M : Type 1} → statement M
turns_spec = tie.close (tie.spec sub-result mul-result div-result sub-result-2 returns)
