-- The two estimates of rules 4 and 5 have one form, b − s(b − a)/q: the linear one with s = F(b) and q = F(b) − F(a), the rational
-- one with s = S and q = Q.
-- Assumes nothing.
use Rattle.std.specs.Prelude.{ℕ, ◌≡◌, refl, Bool, cond, ℤ, pos, neg_ℤ, ◌-ℤ◌, ◌*ℤ◌}
use Rattle.integers.specs.Signs.{eq_z}
use Rattle.integers.proofs.SignsLaws.{eq_z_difference}
use Rattle.rules.specs.Rules.{at_better, no_estimate, toward, linear_of, cross_of, rational_of}
use Rattle.rules.specs.declared.Sample.{Sample}
use Rattle.rules.specs.declared.Fraction.{Fraction}

unfoldable pub estimate_of : ℤ → ℤ → ℕ → ℕ → Bool → Fraction
estimate_of s q b a up =
    cond (eq_z q (pos 0)) (cond (eq_z s (pos 0)) at_better no_estimate)
    (record { num = toward up (neg_ℤ (s *ℤ (pos b -ℤ pos a))); den = q })

pub linear_estimate : (b a : Sample) (up : Bool) → estimate_of b.value (b.value -ℤ a.value) b.point a.point up ≡ linear_of b a up
unfolding estimate_of linear_of
linear_estimate b a up = rw (eq_z_difference b.value a.value)

pub rational_estimate : (b a d : Sample) (up : Bool)
    → estimate_of (cross_of b a d) (cross_of b a d -ℤ cross_of a b d) b.point a.point up ≡ rational_of b a d up
unfolding estimate_of rational_of
rational_estimate b a d up = refl
