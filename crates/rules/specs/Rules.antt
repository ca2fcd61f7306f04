-- Rules 1 to 8 of document 01, in its order and its terms, 2 and 3 with the tolerance at b of request 2026-07: of a bracket, b is `better`,
-- c `other`, a `previous`, d `third`, L its width and s its streak; F(p) is the value of the sample p.
-- Assumes nothing.
use Rattle.std.specs.Prelude.{ℕ, ◌+◌, ◌-◌, ◌*◌, ◌/◌, ◌≤◌, min, max, Bool, true, false, cond, ◌||◌, List}
use Rattle.std.specs.Prelude.{◌++◌, leb, eqb, ℤ, pos, neg_ℤ, nat_abs, ◌-ℤ◌, ◌*ℤ◌, length, replicate}
use Rattle.std.specs.Int.Signed.{le_z, lt_z, quot_z}
use Rattle.integers.specs.Signs.{eq_z}
use Rattle.rules.specs.declared.Opening.{Opening}
use Rattle.rules.specs.declared.Method.{Method}
use Rattle.rules.specs.declared.Sample.{Sample}
use Rattle.rules.specs.declared.Bracket.{Bracket}
use Rattle.rules.specs.declared.Fraction.{Fraction}
use Rattle.rules.specs.declared.Step.{Step}

-- ---- the limits

-- of a point, from 0
abbrev pub highest : ℕ
highest = 60000

-- of the tolerance, from 1
abbrev pub largest_tolerance : ℕ
largest_tolerance = 5000

-- of the share, from 0
abbrev pub largest_share : ℕ
largest_share = 100

-- of a value, above 0 and below
abbrev pub largest_value : ℕ
largest_value = 10000

-- of a held search
abbrev pub slots : ℕ
slots = 77

-- all slots: numbers in the first of them, in order, and 0 in the others
abbrev pub padded : List ℤ → List ℤ
padded zs = zs ++ replicate (slots - length zs) (pos 0)

-- ---- the opening

-- the house default, which method 0 stands for
abbrev pub house : Method
house = Method.R

unfoldable pub method_of : Opening → Method
method_of o = cond (eq_z o.method (pos 0)) house (cond (eq_z o.method (pos 1)) Method.M Method.R)

-- x0 and x1, of an opening that is accepted
abbrev pub first_of : Opening → ℕ
first_of o = nat_abs o.first

abbrev pub second_of : Opening → ℕ
second_of o = nat_abs o.second

-- the tolerance at b: τ plus the whole part of p × b / 1,000, where p is the share
unfoldable pub tolerance_at : Opening → ℕ → ℕ
tolerance_at o b = nat_abs o.tolerance + nat_abs o.share * b / 1000

-- ---- Rule 1: the first two points; b is the better end, c the other, L = |b − c|

-- |F(p)| ≤ |F(q)|
abbrev pub closer : Sample → Sample → Bool
closer p q = leb (nat_abs p.value) (nat_abs q.value)

-- b with a = c, after two answers, of which x was the second
abbrev pub pair_of : Sample → Sample → Sample → Bracket
pair_of b c x = record { better = b; other = c; previous = c; third = c; last = x; streak = 0; taken = 2 }

unfoldable pub start_of : Sample → Sample → Bracket
start_of x0 x1 = cond (closer x1 x0) (pair_of x1 x0 x1) (pair_of x0 x1 x1)

abbrev pub lower_of : Bracket → ℕ
lower_of k = min k.better.point k.other.point

abbrev pub upper_of : Bracket → ℕ
upper_of k = max k.better.point k.other.point

-- |p − q|
abbrev pub gap_of : ℕ → ℕ → ℕ
gap_of p q = (p - q) + (q - p)

abbrev pub width_of : Bracket → ℕ
width_of k = gap_of k.better.point k.other.point

-- k' lies within k
pub record Inside (k k' : Bracket) : Type 0 where
  pub lower : lower_of k ≤ lower_of k'
  pub upper : upper_of k' ≤ upper_of k

-- ---- Rule 2: the search stops when L is at most twice the tolerance at b

unfoldable pub stopped_of : Opening → Bracket → Bool
stopped_of o k = leb (width_of k) (2 * tolerance_at o k.better.point)

-- ---- Rule 3: the displacement D for a fraction u, with the tolerance at b for τ

-- of u = num / den with den above 0. Below 0: L/2 rounded down. From 0 to τ: τ. From there to L/2: u rounded down, towards b.
-- In every other case: L/2 rounded down.
unfoldable pub forward_of : ℕ → ℕ → ℤ → ℤ → ℕ
forward_of τ L num den =
    cond (lt_z num (pos 0)) (L / 2)
    (cond (le_z num (pos τ *ℤ den)) τ
    (cond (le_z (pos 2 *ℤ num) (pos L *ℤ den)) (nat_abs (quot_z num den))
    (L / 2)))

-- of u with a denominator of either sign; where there is no estimate, L/2 rounded down
unfoldable pub displacement_of : ℕ → ℕ → Fraction → ℕ
displacement_of τ L u =
    cond (eq_z u.den (pos 0)) (L / 2)
    (cond (lt_z u.den (pos 0)) (forward_of τ L (neg_ℤ u.num) (neg_ℤ u.den))
    (forward_of τ L u.num u.den))

-- u is 0
abbrev pub at_better : Fraction
at_better = record { num = pos 0; den = pos 1 }

abbrev pub no_estimate : Fraction
no_estimate = record { num = pos 1; den = pos 0 }

-- whether c lies above b
abbrev pub rising : Bracket → Bool
rising k = leb k.better.point k.other.point

-- how far z, a distance from b along the scale of points, lies in the direction of c
abbrev pub toward : Bool → ℤ → ℤ
toward true z = z
toward false z = neg_ℤ z

-- ---- Rule 4: the linear estimate, b − F(b)(b − a)/(F(b) − F(a))

unfoldable pub linear_of : Sample → Sample → Bool → Fraction
linear_of b a up =
    cond (eq_z b.value a.value) (cond (eq_z b.value (pos 0)) at_better no_estimate)
    (record {
      num = toward up (neg_ℤ (b.value *ℤ (pos b.point -ℤ pos a.point)));
      den = b.value -ℤ a.value;
    })

-- ---- Rule 5: the rational estimate, b − S(b − a)/Q

-- F(p)(F(q) − F(d))(p − d)
unfoldable pub cross_of : Sample → Sample → Sample → ℤ
cross_of p q d = p.value *ℤ (q.value -ℤ d.value) *ℤ (pos p.point -ℤ pos d.point)

abbrev pub s_of : Sample → Sample → Sample → ℤ
s_of b a d = cross_of b a d

abbrev pub q_of : Sample → Sample → Sample → ℤ
q_of b a d = s_of b a d -ℤ cross_of a b d

unfoldable pub rational_of : Sample → Sample → Sample → Bool → Fraction
rational_of b a d up =
    cond (eq_z (q_of b a d) (pos 0)) (cond (eq_z (s_of b a d) (pos 0)) at_better no_estimate)
    (record {
      num = toward up (neg_ℤ (s_of b a d *ℤ (pos b.point -ℤ pos a.point)));
      den = q_of b a d;
    })

-- u doubled, as R does before rounding
unfoldable pub doubled_of : Fraction → Fraction
doubled_of u = record { num = pos 2 *ℤ u.num; den = u.den }

-- ---- Rule 6: the new bracket

-- the product of two values is zero or negative
unfoldable pub opposed : ℤ → ℤ → Bool
opposed v w = le_z (v *ℤ w) (pos 0)

-- the point answered just before x, or the end of the old bracket that is not that point
unfoldable pub partner_of : Bracket → Sample → Sample
partner_of k x =
    cond (opposed x.value k.last.value) k.last
    (cond (eqb k.last.point k.better.point) k.other k.better)

-- the old a if the new b is x or the old b, otherwise the old b
abbrev pub third_of : Bracket → Sample → Sample → Sample
third_of k x b = cond (eqb b.point x.point || eqb b.point k.better.point) k.previous k.better

-- ---- Rule 7: the steps since the last halving step

-- whether a step from L to the new L halves
abbrev pub halves : ℕ → ℕ → Bool
halves L new = leb (2 * new) (L + 1)

-- s as a running number, after such a step. `streak_over` in Streak has it by looking back, as document 01 says it
unfoldable pub streak_of : ℕ → ℕ → ℕ → ℕ
streak_of L new s = cond (halves L new) 0 (s + 1)

-- the bracket with `better`, `other`, `previous` and `third` as rule 6 gives them, after the new point x
unfoldable pub renewed_of : Bracket → Sample → Sample → Sample → Sample → Bracket
renewed_of k x b c a =
    record {
      better = b;
      other = c;
      previous = a;
      third = third_of k x b;
      last = x;
      streak = streak_of (width_of k) (gap_of b.point c.point) k.streak;
      taken = k.taken + 1;
    }

-- rule 6: x with its partner
unfoldable pub advance_of : Bracket → Sample → Bracket
advance_of k x =
    cond (closer x (partner_of k x))
    (renewed_of k x x (partner_of k x) k.better)
    (renewed_of k x (partner_of k x) x x)

-- ---- Rule 8: what M and R use at each s

-- the steps in a row that need not halve
abbrev pub allowed : Method → ℕ
allowed Method.M = 3
allowed Method.R = 4

-- `first`: it is the first step
unfoldable pub step_of : Method → Bool → ℕ → Step
step_of Method.M first s = cond (leb s 1) Step.Linear (cond (eqb s 2) Step.Rational Step.Bisection)
step_of Method.R first s =
    cond first Step.Linear (cond (leb s 2) Step.Rational (cond (eqb s 3) Step.Doubled Step.Bisection))

unfoldable pub reach_of : ℕ → Bracket → Step → ℕ
reach_of τ k Step.Linear = displacement_of τ (width_of k) (linear_of k.better k.previous (rising k))
reach_of τ k Step.Rational = displacement_of τ (width_of k) (rational_of k.better k.previous k.third (rising k))
reach_of τ k Step.Doubled = displacement_of τ (width_of k) (doubled_of (rational_of k.better k.previous k.third (rising k)))
reach_of τ k Step.Bisection = width_of k / 2

-- ---- the next point: b + D or b − D, rule 3

-- D
unfoldable pub offset_of : Opening → Bracket → ℕ
offset_of o k = reach_of (tolerance_at o k.better.point) k (step_of (method_of o) (eqb k.taken 2) k.streak)

unfoldable pub next_of : Opening → Bracket → ℕ
next_of o k = cond (rising k) (k.better.point + offset_of o k) (k.better.point - offset_of o k)
