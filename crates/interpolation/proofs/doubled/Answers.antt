-- `interpolation::doubled` meets its contract: twice the numerator of an estimate fits 64 bits.
-- Assumes nothing.
use Rattle.std.proofs.Common.{ap₂, ℤ}
use Rattle.integers.proofs.Formulas.{whole, literal, mul, reads}
use Rattle.rules.specs.declared.Fraction.{Fraction}
use Rattle.rules.specs.Rules.{doubled_of}
use Rattle.interpolation.proofs.doubled.Goals as goal

pub returns-clause-value : goal.returns-clause-value
unfolding doubled_of
returns-clause-value c =
    let u = c.args.u in
    let s = c.requires in
    let fraction : ℤ → ℤ → Fraction = λ n d. record { num = n; den = d } in
    ap₂ fraction (reads (mul (literal 2 tt) (whole u.num s.num_in tt)) tt) (reads (whole u.den s.den_in tt) tt)
