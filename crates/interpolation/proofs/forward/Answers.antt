-- `interpolation::forward` meets its contract: its tests are those of the definition, in 64 bits. Where n / d is returned, it is not
-- negative and at most the width, so that the cast keeps it.
-- Assumes nothing.
use Rattle.std.proofs.Common.{ℕ, ◌≡◌, ◌≤◌, ◌*◌, refl, ◌∙◌, true, false, arith, T, ℤ, pos, negsuc, nat_abs, w64, mul_comm, leb-true}
use Rattle.std.proofs.Math.IntN.{◌*ℤ◌}
use Rattle.std.proofs.Math.Nat.{div-le_of_le-mul}
use Rattle.std.specs.Int.Signed.{lt_z, le_z, non_neg, quot_z, ◌<ℤ◌}
use Rattle.integers.proofs.SignsLaws.{never}
use Rattle.integers.proofs.Bounds.{Within, read, bits_positive}
use Rattle.integers.proofs.Formulas.{Formula, whole, nat, literal, mul, quot, asks, reads, tests}
use Rattle.rules.specs.Rules.{forward_of}
use Rattle.interpolation.specs.Ranges.{widest, most_num, most_den}
use Rattle.interpolation.proofs.forward.Goals as goal

-- a quotient of a number that is not negative by one above 0
quot_range : (L : ℕ) (n d : ℤ) → pos 0 <ℤ d → lt_z n (pos 0) ≡ false → le_z (pos 2 *ℤ n) (pos L *ℤ d) ≡ true
    → T (non_neg (quot_z n d)) × (nat_abs (quot_z n d) ≤ L)
quot_range L (pos n) (pos d) p e h = (tt, div-le_of_le-mul d (omega (arith, leb-true (2 * n) (L * d) h, mul_comm L d)))
quot_range L (pos n) (negsuc d) p e h = absurd p.lt
quot_range L (negsuc n) d p e h = never e

-- the formulas: n, d, 2n, and d times the tolerance or the width
abbrev num : {n : ℤ} → Within n (2 * most_num) → Formula
num {n} h = whole n h tt

abbrev den : {d : ℤ} → Within d most_den → Formula
den {d} h = whole d h tt

abbrev twice : {n : ℤ} → Within n (2 * most_num) → Formula
twice h = mul (literal 2 tt) (num h)

abbrev times : {m : ℕ} {d : ℤ} → m ≤ widest → Within d most_den → Formula
times {m} h g = mul (nat m h tt) (den g)

pub returns-then-n-lt0 : goal.returns-then-n-lt0
unfolding forward_of
returns-then-n-lt0 c = rw (rw (read c.ranges.n) at c.if-n-lt0.true) refl

pub returns-then-n-tolerance : goal.returns-then-n-tolerance
unfolding forward_of
returns-then-n-tolerance c =
    let r = c.requires in
    let not_below : lt_z c.args.n (pos 0) ≡ false = rw (read c.ranges.n) at c.if-n-lt0.false in
    let near = tests le_z (num r.within.0) (times r.tolerance_le_widest.0 r.within.1) tt ∙ c.if-n-tolerance.true in
    rw (not_below, near) refl

pub overflow_mul-width : goal.overflow_mul-width
overflow_mul-width c = asks (times c.requires.tolerance_le_widest.1 c.requires.within.1) tt

pub nonzero_div-result-then-n-width : goal.nonzero_div-result-then-n-width
nonzero_div-result-then-n-width c =
    let r = c.requires.within in
    (bits_positive w64 r.2, asks (quot (num r.0) (den r.1)) tt)

pub overflow_cast-result : goal.overflow_cast-result
overflow_cast-result c =
    let r = c.requires in
    let not_below : lt_z c.args.n (pos 0) ≡ false = rw (read c.ranges.n) at c.if-n-lt0.false in
    let not_past = tests le_z (twice r.within.0) (times r.tolerance_le_widest.1 r.within.1) tt ∙ c.if-n-width.true in
    let h = quot_range c.args.width c.args.n c.args.d r.within.2 not_below not_past in
    rw (reads (quot (num r.within.0) (den r.within.1)) tt) (h.0, omega arith)

pub returns-then-n-width : goal.returns-then-n-width
unfolding forward_of
returns-then-n-width c =
    let r = c.requires in
    let not_below : lt_z c.args.n (pos 0) ≡ false = rw (read c.ranges.n) at c.if-n-lt0.false in
    let not_near = tests le_z (num r.within.0) (times r.tolerance_le_widest.0 r.within.1) tt ∙ c.if-n-tolerance.false in
    let not_past = tests le_z (twice r.within.0) (times r.tolerance_le_widest.1 r.within.1) tt ∙ c.if-n-width.true in
    rw (reads (quot (num r.within.0) (den r.within.1)) tt, not_below, not_near, not_past) refl

pub returns-else-n-width : goal.returns-else-n-width
unfolding forward_of
returns-else-n-width c =
    let r = c.requires in
    let not_below : lt_z c.args.n (pos 0) ≡ false = rw (read c.ranges.n) at c.if-n-lt0.false in
    let not_near = tests le_z (num r.within.0) (times r.tolerance_le_widest.0 r.within.1) tt ∙ c.if-n-tolerance.false in
    let past = tests le_z (twice r.within.0) (times r.tolerance_le_widest.1 r.within.1) tt ∙ c.if-n-width.false in
    rw (not_below, not_near, past) refl
