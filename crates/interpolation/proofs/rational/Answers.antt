-- `interpolation::rational` meets its contract: the rational estimate is the one with s = S and q = Q.
-- Assumes nothing.
use Rattle.std.proofs.Common.{◌≡◌}
use Rattle.integers.proofs.Formulas.{whole, sub, reads}
use Rattle.rules.specs.Rules.{cross_of}
use Rattle.interpolation.specs.Estimates.{rational_estimate}
use Rattle.interpolation.proofs.rational.Goals as goal

pub returns-clause-value : goal.returns-clause-value
returns-clause-value c =
    let i = c.args in
    let s = whole c.cross-s.result c.cross-s.ensures.within tt in
    let q = sub s (whole c.cross.result c.cross.ensures.within tt) in
    let other : c.cross.result ≡ cross_of i.a i.b i.d = c.cross.ensures.value in
    rw (c.estimate.ensures.value, reads q tt, reads s tt, c.cross-s.ensures.value, other) (rational_estimate i.b i.a i.d i.up)
