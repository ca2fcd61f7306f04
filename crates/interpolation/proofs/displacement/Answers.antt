-- `interpolation::displacement` meets its contract: by the sign of the denominator, the fraction or the same with both signs turned
-- has a denominator above 0, for which `forward` answers.
-- Assumes nothing.
use Rattle.std.proofs.Common.{◌≡◌, true, false, arith, pos, w64, to_z, of_z}
use Rattle.std.specs.Int.Signed.{lt_z}
use Rattle.std.proofs.lemmas.Int.{ints}
use mir.Facts.{sfits_lit}
use Rattle.integers.specs.Signs.{eq_z}
use Rattle.integers.proofs.Bounds.{within_fits, above_of_negative, above_of_not, bits_same, bits_other, read64}
use Rattle.integers.proofs.Formulas.{Formula, whole, neg, reads, reads_within}
use Rattle.rules.specs.declared.Fraction.{Fraction}
use Rattle.rules.specs.Rules.{displacement_of}
use Rattle.interpolation.specs.Ranges.{Small}
use Rattle.interpolation.proofs.displacement.Goals as goal

abbrev n : {u : Fraction} → Small 2 u → Formula
n {u} h = whole u.num h.num_in tt

abbrev d : {u : Fraction} → Small 2 u → Formula
d {u} h = whole u.den h.den_in tt

pub returns-then-d-eq0 : goal.returns-then-d-eq0
unfolding displacement_of
returns-then-d-eq0 c = rw (bits_same {w = w64} {b = pos 0} (within_fits c.requires.2.den_in tt) (sfits_lit tt) c.if-d-eq0.true)

pub forward-requires : goal.forward-requires
forward-requires c =
    let u = c.args.u in
    let h = c.requires.2 in
    let same : to_z w64 (of_z w64 u.den) ≡ u.den = read64 h.den_in tt in
    let below : lt_z u.den (pos 0) ≡ true = grind (arith, ints) in
    record {
      tolerance_le_widest = omega arith;
      within = (reads_within (neg (n h)) tt, reads_within (neg (d h)) tt, rw (reads (neg (d h)) tt) (above_of_negative u.den below));
    }

pub forward-requires-else-d-lt0 : goal.forward-requires-else-d-lt0
forward-requires-else-d-lt0 c =
    let u = c.args.u in
    let h = c.requires.2 in
    let same : to_z w64 (of_z w64 u.den) ≡ u.den = read64 h.den_in tt in
    let other : eq_z u.den (pos 0) ≡ false = bits_other w64 u.den (pos 0) c.if-d-eq0.false in
    let not_below : lt_z u.den (pos 0) ≡ false = grind (arith, ints) in
    record {
      tolerance_le_widest = omega arith;
      within = (reads_within (n h) tt, reads_within (d h) tt, rw (reads (d h) tt) (above_of_not u.den not_below other));
    }

pub returns-then-d-lt0 : goal.returns-then-d-lt0
unfolding displacement_of
returns-then-d-lt0 c =
    let u = c.args.u in
    let h = c.requires.2 in
    let same : to_z w64 (of_z w64 u.den) ≡ u.den = read64 h.den_in tt in
    let other : eq_z u.den (pos 0) ≡ false = bits_other w64 u.den (pos 0) c.if-d-eq0.false in
    let below : lt_z u.den (pos 0) ≡ true = grind (arith, ints) in
    rw (c.forward.ensures, reads (neg (n h)) tt, reads (neg (d h)) tt, other, below)

pub returns-else-d-lt0 : goal.returns-else-d-lt0
unfolding displacement_of
returns-else-d-lt0 c =
    let u = c.args.u in
    let h = c.requires.2 in
    let same : to_z w64 (of_z w64 u.den) ≡ u.den = read64 h.den_in tt in
    let other : eq_z u.den (pos 0) ≡ false = bits_other w64 u.den (pos 0) c.if-d-eq0.false in
    let not_below : lt_z u.den (pos 0) ≡ false = grind (arith, ints) in
    rw (c.forward-else-d-lt0.ensures, reads (n h) tt, reads (d h) tt, other, not_below)
