-- `interpolation::estimate` meets its contract: its tests are those of the definition, and its fraction is that of the formula, which
-- faces the other end. Every operation on the way fits 64 bits.
-- Assumes nothing.
use Rattle.std.proofs.Common.{ℕ, ◌≡◌, ◌≤◌, refl, true, ℤ, pos, of_z, w64, FitsSigned}
use Rattle.std.proofs.Math.Facts.{sfits_lit}
use Rattle.integers.specs.Signs.{eq_z}
use Rattle.integers.proofs.Bounds.{Within, bits_same, bits_other}
use Rattle.integers.proofs.Formulas.{Formula, whole, mul, neg, asks, reads, reads_within}
use Rattle.interpolation.specs.Estimates.{estimate_of}
use Rattle.interpolation.specs.Ranges.{widest, most_cross, most_den}
use Rattle.interpolation.proofs.Parts.{gap}
use Rattle.interpolation.proofs.estimate.Goals as goal

-- s(b − a), the numerator where the other end lies above, and the denominator
abbrev product : {s q : ℤ} {b a : ℕ} → Within s most_cross × Within q most_den × b ≤ widest × a ≤ widest → Formula
product {s} r = mul (whole s r.0 tt) (gap r.2 r.3)

abbrev n : {s q : ℤ} {b a : ℕ} → Within s most_cross × Within q most_den × b ≤ widest × a ≤ widest → Formula
n r = neg (product r)

abbrev d : {s q : ℤ} {b a : ℕ} → Within s most_cross × Within q most_den × b ≤ widest × a ≤ widest → Formula
d {q = q} r = whole q r.1 tt

is_zero : {z : ℤ} → FitsSigned w64 z → of_z w64 z ≡ 0 → eq_z z (pos 0) ≡ true
is_zero f e = bits_same {b = pos 0} f (sfits_lit tt) e

pub returns-then-s-eq0-clause-value : goal.returns-then-s-eq0-clause-value
unfolding estimate_of
returns-then-s-eq0-clause-value c = rw (is_zero c.ranges.q c.if-q-eq0.true, is_zero c.ranges.s c.if-s-eq0.true) refl

pub returns-then-q-eq0-clause-value : goal.returns-then-q-eq0-clause-value
unfolding estimate_of
returns-then-q-eq0-clause-value c = rw (is_zero c.ranges.q c.if-q-eq0.true, bits_other w64 c.args.s (pos 0) c.if-s-eq0.false) refl

pub overflow_mul-n : goal.overflow_mul-n
overflow_mul-n c = asks (product c.requires) tt

pub overflow_sub-n-2 : goal.overflow_sub-n-2
overflow_sub-n-2 c = asks (n c.requires) tt

pub overflow_sub-result : goal.overflow_sub-result
overflow_sub-result c = asks (neg (n c.requires)) tt

pub returns-then-up : goal.returns-then-up
unfolding estimate_of
returns-then-up c =
    let r = c.requires in
    record {
      value = rw (bits_other w64 c.args.q (pos 0) c.if-q-eq0.false, c.if-up.true, reads (n r) tt, reads (d r) tt) refl;
      small = record { num_in = reads_within (n r) tt; den_in = reads_within (d r) tt };
    }

pub returns-else-up : goal.returns-else-up
unfolding estimate_of
returns-else-up c =
    let r = c.requires in
    record {
      value = rw (bits_other w64 c.args.q (pos 0) c.if-q-eq0.false, c.if-up.false, reads (neg (n r)) tt, reads (d r) tt) refl;
      small = record { num_in = reads_within (neg (n r)) tt; den_in = reads_within (d r) tt };
    }
