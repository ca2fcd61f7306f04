-- `methods::method_of` meets its contract: 0 is the house default, 1 is M, and 2, the only other number accepted, is R.
-- Assumes nothing.
use Rattle.std.proofs.Common.{pos, FitsSigned, w32, arith, rules}
use mir.Facts.{sfits_lit}
use Rattle.integers.proofs.Bounds.{bits_same, bits_other}
use Rattle.rules.specs.Rules.{method_of}
use Rattle.methods.proofs.method_of.Goals as goal

pub returns-in-0 : goal.returns-in-0
unfolding method_of
returns-in-0 c =
    let f : FitsSigned w32 c.args.o.method = search rules in
    simp (bits_same {w = w32} {b = pos 0} f (sfits_lit tt) (omega arith))

pub returns-in-1 : goal.returns-in-1
unfolding method_of
returns-in-1 c =
    let f : FitsSigned w32 c.args.o.method = search rules in
    simp (bits_other w32 c.args.o.method (pos 0) (λ e. absurd (omega arith)), bits_same {w = w32} {b = pos 1} f (sfits_lit tt) (omega arith))

pub returns-in_default : goal.returns-in_default
unfolding method_of
returns-in_default c =
    simp (bits_other w32 c.args.o.method (pos 0) (λ e. absurd (omega arith)), bits_other w32 c.args.o.method (pos 1) (λ e. absurd (omega arith)))
