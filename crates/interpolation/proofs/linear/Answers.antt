-- `interpolation::linear` meets its contract: the linear estimate is the one with s = F(b) and q = F(b) − F(a), both well within the
-- ranges of `estimate`.
-- Assumes nothing.
use Rattle.std.proofs.Common.{◌≡◌, to_z, w64}
use Rattle.integers.proofs.Formulas.{bits_of, sub, reads}
use Rattle.interpolation.specs.Estimates.{estimate_of, linear_estimate}
use Rattle.interpolation.proofs.Parts.{F}
use Rattle.interpolation.proofs.linear.Goals as goal

pub returns-clause-value : goal.returns-clause-value
returns-clause-value c =
    let s = c.args in
    let f = F c.requires.0 in
    let rise = sub f (F c.requires.1) in
    let as_read : c.estimate.result ≡ estimate_of (to_z w64 (bits_of f)) (to_z w64 (bits_of rise)) s.b.point s.a.point s.up =
    c.estimate.ensures.value in
    rw (as_read, reads rise tt, reads f tt) (linear_estimate s.b s.a s.up)
