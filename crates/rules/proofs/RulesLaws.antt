-- What follows from rules 1 to 8 for one step: where the next point lies, what the new bracket is, and when a step halves.
-- Assumes nothing.
use Rattle.std.specs.Prelude.{ℕ, ◌+◌, ◌-◌, ◌*◌, ◌/◌, ◌≤◌, ◌<◌, min, max, ◌≡◌, Bool, cond, ◌⊎◌, eqb, ℤ, pos, negsuc, neg_ℤ, nat_abs}
use Rattle.std.proofs.Math.Path.{refl, ap}
use Rattle.std.proofs.Common.{sym, ◌∙◌, le_trans, le_of_eq, mul_assoc, le_of_mul-le-mul_right, div-mul-le_self, mul-le-mul_left, le-div_iff_mul-le}
use Rattle.std.proofs.Math.Bool.{true, false}
use Rattle.std.proofs.Math.Logic.{inl, inr, ⊎_map}
use Rattle.std.proofs.Math.Nat.{le_of_lt}
use native.Mathlib.Omega.{arith}
use borrow.Author.Tests.{leb-true, leb-false, le-leb, lt-leb, ltb-true, ne_eqb, eq-eqb}
use Rattle.std.proofs.Math.Dec.{leb, ltb}
use Rattle.std.specs.Int.Signed.{lt_z}
use Rattle.integers.specs.Signs.{eq_z}
use Rattle.integers.proofs.SignsLaws.{never, positive_of_negative, positive_of_neither, crosses_comm, crosses_turn}
use Rattle.rules.specs.declared.Opening.{Opening}
use Rattle.rules.specs.declared.Method.{Method}
use Rattle.rules.specs.declared.Sample.{Sample}
use Rattle.rules.specs.declared.Bracket.{Bracket}
use Rattle.rules.specs.declared.Fraction.{Fraction}
use Rattle.rules.specs.declared.Step.{Step}
use Rattle.rules.specs.Rules.{tolerance_at, closer, pair_of, start_of, lower_of, upper_of, gap_of, width_of, Inside, stopped_of, forward_of}
use Rattle.rules.specs.Rules.{displacement_of, rising, opposed, partner_of, halves, streak_of, renewed_of, advance_of, allowed, step_of}
use Rattle.rules.specs.Rules.{reach_of, offset_of, next_of}

-- ---- Rule 3: while the search goes on, D is from the tolerance at b, here τ, to half of L

pub record Reach (τ L D : ℕ) : Type 0 where
  pub low : τ ≤ D
  pub high : D ≤ L / 2

div_low : (n d τ : ℕ) → 0 < d → τ * d < n → τ ≤ n / d
div_low n d τ p h = (le-div_iff_mul-le p).1 (le_of_lt h)

div_high : (n d L : ℕ) → 0 < d → 2 * n ≤ L * d → n / d ≤ L / 2
div_high n d L p h =
    let k : (2 * (n / d)) * d ≤ L * d = le_trans (le_of_eq (mul_assoc 2 (n / d) d)) (le_trans (mul-le-mul_left 2 (div-mul-le_self n d)) h) in
    let l : 2 * (n / d) ≤ L = le_of_mul-le-mul_right k p in
    omega arith

module _ (τ L : ℕ) (going : 2 * τ < L) where
  forward_in : (num den : ℤ) → lt_z (pos 0) den ≡ true → Reach τ L (forward_of τ L num den)
  unfolding forward_of
  forward_in (negsuc n) den p = record { low = omega arith; high = omega arith }
  forward_in (pos n) (negsuc d) p = never (sym p)
  forward_in (pos n) (pos d) p = go (ltb n 0) refl (leb n (τ * d)) refl (leb (2 * n) (L * d)) refl
    where
      go : (b : Bool) → ltb n 0 ≡ b → (s : Bool) → leb n (τ * d) ≡ s → (t : Bool) → leb (2 * n) (L * d) ≡ t
          → Reach τ L (cond b (L / 2) (cond s τ (cond t (n / d) (L / 2))))
      go true e s f t g = let h = ltb-true n 0 e in absurd (omega arith)
      go false e true f t g = record { low = omega arith; high = omega arith }
      go false e false f true g =
          record {
            low = div_low n d τ (ltb-true 0 d p) (leb-false n (τ * d) f);
            high = div_high n d L (ltb-true 0 d p) (leb-true (2 * n) (L * d) g);
          }
      go false e false f false g = record { low = omega arith; high = omega arith }

  pub displacement_in : (u : Fraction) → Reach τ L (displacement_of τ L u)
  unfolding displacement_of
  displacement_in u = go (eq_z u.den (pos 0)) refl (lt_z u.den (pos 0)) refl
    where
      go : (b : Bool) → eq_z u.den (pos 0) ≡ b → (s : Bool) → lt_z u.den (pos 0) ≡ s
          → Reach τ L (cond b (L / 2) (cond s (forward_of τ L (neg_ℤ u.num) (neg_ℤ u.den)) (forward_of τ L u.num u.den)))
      go true e s f = record { low = omega arith; high = omega arith }
      go false e true f = forward_in (neg_ℤ u.num) (neg_ℤ u.den) (positive_of_negative u.den f)
      go false e false f = forward_in u.num u.den (positive_of_neither u.den e f)

reach_in : (τ : ℕ) (k : Bracket) → 2 * τ < width_of k → (s : Step) → Reach τ (width_of k) (reach_of τ k s)
unfolding reach_of
reach_in τ k h Step.Linear = displacement_in τ (width_of k) h _
reach_in τ k h Step.Rational = displacement_in τ (width_of k) h _
reach_in τ k h Step.Doubled = displacement_in τ (width_of k) h _
reach_in τ k h Step.Bisection = record { low = omega arith; high = omega arith }

module _ (o : Opening) (k : Bracket) (going : stopped_of o k ≡ false) where
  pub going_wide : 2 * tolerance_at o k.better.point < width_of k
  unfolding stopped_of
  going_wide = leb-false (width_of k) (2 * tolerance_at o k.better.point) going

  pub offset_in : Reach (tolerance_at o k.better.point) (width_of k) (offset_of o k)
  unfolding offset_of
  offset_in = reach_in (tolerance_at o k.better.point) k going_wide _

-- ---- the next point lies D from b, strictly between the ends

-- x lies D from b, towards c
pub record Ahead (k : Bracket) (D x : ℕ) : Type 0 where
  pub above : lower_of k < x
  pub below : x < upper_of k
  pub near : gap_of x k.better.point ≡ D
  pub far : gap_of x k.other.point + D ≡ width_of k
  pub some : 1 ≤ D
  pub short : D < width_of k

module _ (o : Opening) (k : Bracket) (tol : 1 ≤ tolerance_at o k.better.point) (going : stopped_of o k ≡ false) where
  pub next_ahead : Ahead k (offset_of o k) (next_of o k)
  unfolding next_of
  next_ahead = go (rising k) refl
    where
      go : (b : Bool) → rising k ≡ b → Ahead k (offset_of o k) (cond b (k.better.point + offset_of o k) (k.better.point - offset_of o k))
      go true e =
          let h = leb-true k.better.point k.other.point e in
          let i = offset_in o k going in
          record {
            above = omega arith;
            below = omega arith;
            near = omega arith;
            far = omega arith;
            some = omega (arith, i.low);
            short = omega (arith, i.high, i.low);
          }
      go false e =
          let h = leb-false k.better.point k.other.point e in
          let i = offset_in o k going in
          record {
            above = omega arith;
            below = omega arith;
            near = omega arith;
            far = omega arith;
            some = omega (arith, i.low);
            short = omega (arith, i.high, i.low);
          }

-- ---- Rule 6: the partner is an end of the old bracket, and not on x's side

-- what rule 6 keeps of a bracket: two ends, the last point one of them, not both above or both below target
pub record Straddles (k : Bracket) : Type 0 where
  pub apart : k.better.point ≡ k.other.point → ⊥
  pub ends : (k.last ≡ k.better) ⊎ (k.last ≡ k.other)
  pub opposite : opposed k.better.value k.other.value ≡ true

pub opposed_comm : (v w : ℤ) → opposed v w ≡ opposed w v
unfolding opposed
opposed_comm v w = crosses_comm v w

opposed_turn : (v w z : ℤ) → opposed v w ≡ false → opposed w z ≡ true → opposed v z ≡ true
unfolding opposed
opposed_turn v w z e f = crosses_turn v w z e f

pub record Partner (k : Bracket) (x p : Sample) : Type 0 where
  pub end : (p ≡ k.better) ⊎ (p ≡ k.other)
  pub opposite : opposed x.value p.value ≡ true

module _ (k : Bracket) (x : Sample) (held : Straddles k) where
  pub partner_is : Partner k x (partner_of k x)
  unfolding partner_of
  partner_is = go (opposed x.value k.last.value) refl held.ends
    where
      go : (b : Bool) → opposed x.value k.last.value ≡ b → (k.last ≡ k.better) ⊎ (k.last ≡ k.other)
          → Partner k x (cond b k.last (cond (eqb k.last.point k.better.point) k.other k.better))
      go true e s = record { end = s; opposite = e }
      go false e (inl s) =
          simp (eq-eqb k.last.point k.better.point (ap (λ (q : Sample). q.point) s))
          (record {
            end = inr refl;
            opposite = opposed_turn x.value k.better.value k.other.value (rw s at e) held.opposite;
          })
      go false e (inr s) =
          simp (ne_eqb k.last.point k.better.point (λ q. held.apart (sym q ∙ ap (λ (q : Sample). q.point) s)))
          (record {
            end = inl refl;
            opposite = opposed_turn x.value k.other.value k.better.value (rw s at e) (opposed_comm _ _ ∙ held.opposite);
          })

-- ---- the step from a bracket to the next

pub record Advance (k : Bracket) (D : ℕ) (k' : Bracket) : Type 0 where
  pub held : Straddles k'
  pub closest : nat_abs k'.better.value ≤ nat_abs k'.other.value
  pub inside : Inside k k'
  pub narrower : width_of k' < width_of k
  pub rest : D ≤ width_of k / 2 → width_of k' + D ≤ width_of k

-- the same of the points alone: b and c are the old ends, q the partner's point
record Cut (b c x q D : ℕ) : Type 0 where
  pub apart : x ≡ q → ⊥
  pub lower : min b c ≤ min x q
  pub upper : max x q ≤ max b c
  pub narrower : gap_of x q < gap_of b c
  pub rest : D ≤ gap_of b c / 2 → gap_of x q + D ≤ gap_of b c

-- whichever of the two is the better end
cut_turned : {b c x q D : ℕ} → Cut b c x q D → Cut b c q x D
cut_turned h =
    record {
      apart = λ f. h.apart (sym f);
      lower = omega (arith, h.lower);
      upper = omega (arith, h.upper);
      narrower = omega (arith, h.narrower);
      rest = λ k. omega (arith, h.rest k);
    }

module _ (k : Bracket) (D x : ℕ) (ahead : Ahead k D x) where
  cut_at : (q : ℕ) → (q ≡ k.better.point) ⊎ (q ≡ k.other.point) → Cut k.better.point k.other.point x q D
  cut_at q (inl e) =
      record {
        apart = λ f. omega (arith, ahead.near, ahead.some);
        lower = omega (arith, ahead.above);
        upper = omega (arith, ahead.below);
        narrower = rw e (omega (arith, ahead.near, ahead.short));
        rest = λ h. rw e (omega (arith, ahead.near));
      }
  cut_at q (inr e) =
      record {
        apart = λ f. omega (arith, ahead.far, ahead.short);
        lower = omega (arith, ahead.above);
        upper = omega (arith, ahead.below);
        narrower = rw e (omega (arith, ahead.far, ahead.some));
        rest = λ h. rw e (omega (arith, ahead.far));
      }

-- what holds of the bracket that rule 6 makes in either case, holds of the next
pub advance_by : (P : Bracket → Type 0) (k : Bracket) (x : Sample)
    → (closer x (partner_of k x) ≡ true → P (renewed_of k x x (partner_of k x) k.better))
    → (closer x (partner_of k x) ≡ false → P (renewed_of k x (partner_of k x) x x))
    → P (advance_of k x)
unfolding advance_of
advance_by P k x near far = go (closer x (partner_of k x)) refl
  where
    go : (b : Bool) → closer x (partner_of k x) ≡ b → P (cond b (renewed_of k x x (partner_of k x) k.better) (renewed_of k x (partner_of k x) x x))
    go true e = near e
    go false e = far e

module _ (k : Bracket) (x : Sample) (D : ℕ) (held : Straddles k) (ahead : Ahead k D x.point) where
  pub advance_is : Advance k D (advance_of k x)
  unfolding renewed_of
  advance_is =
      let p = partner_is k x held in
      let c = cut_at k D x.point ahead (partner_of k x).point (⊎_map (ap (λ (s : Sample). s.point)) (ap (λ (s : Sample). s.point)) p.end) in
      let d = cut_turned c in
      advance_by (Advance k D) k x
      (λ e. record {
        held = record { apart = c.apart; ends = inl refl; opposite = p.opposite };
        closest = leb-true _ _ e;
        inside = record { lower = c.lower; upper = c.upper };
        narrower = c.narrower;
        rest = c.rest;
      })
      (λ e. record {
        held = record { apart = d.apart; ends = inr refl; opposite = opposed_comm _ _ ∙ p.opposite };
        closest = le_of_lt (leb-false _ _ e);
        inside = record { lower = d.lower; upper = d.upper };
        narrower = d.narrower;
        rest = d.rest;
      })

-- the running number and the count
pub advance_counts : (k : Bracket) (x : Sample)
    → ((advance_of k x).streak ≡ streak_of (width_of k) (width_of (advance_of k x)) k.streak) × ((advance_of k x).taken ≡ k.taken + 1)
unfolding renewed_of
advance_counts k x =
    advance_by (λ k'. (k'.streak ≡ streak_of (width_of k) (width_of k') k.streak) × (k'.taken ≡ k.taken + 1)) k x
    (λ e. (refl, refl))
    (λ e. (refl, refl))

-- ---- Rule 1: the first bracket

pub record Start (x0 x1 : Sample) (k : Bracket) : Type 0 where
  pub held : Straddles k
  pub closest : nat_abs k.better.value ≤ nat_abs k.other.value
  pub wide : width_of k ≡ gap_of x0.point x1.point
  pub lower : lower_of k ≡ min x0.point x1.point
  pub upper : upper_of k ≡ max x0.point x1.point

module _ (x0 x1 : Sample) (apart : x0.point ≡ x1.point → ⊥) (opposite : opposed x0.value x1.value ≡ true) where
  pub start_is : Start x0 x1 (start_of x0 x1)
  unfolding start_of
  start_is = go (closer x1 x0) refl
    where
      go : (b : Bool) → closer x1 x0 ≡ b → Start x0 x1 (cond b (pair_of x1 x0 x1) (pair_of x0 x1 x1))
      go true e =
          record {
            held = record { apart = λ f. apart (sym f); ends = inl refl; opposite = opposed_comm _ _ ∙ opposite };
            closest = leb-true _ _ e;
            wide = omega arith;
            lower = omega arith;
            upper = omega arith;
          }
      go false e =
          record {
            held = record { apart = apart; ends = inr refl; opposite = opposite };
            closest = le_of_lt (leb-false _ _ e);
            wide = refl;
            lower = refl;
            upper = refl;
          }

pub start_counts : (x0 x1 : Sample) → ((start_of x0 x1).streak ≡ 0) × ((start_of x0 x1).taken ≡ 2)
unfolding start_of
start_counts x0 x1 = go (closer x1 x0)
  where
    go : (b : Bool) → ((cond b (pair_of x1 x0 x1) (pair_of x0 x1 x1)).streak ≡ 0) × ((cond b (pair_of x1 x0 x1) (pair_of x0 x1 x1)).taken ≡ 2)
    go true = (refl, refl)
    go false = (refl, refl)

-- ---- Rules 7 and 8: at the allowed streak the step is a bisection, and a bisection halves, odd widths included

-- a step from L to the new L
abbrev pub Halves : ℕ → ℕ → Type 0
Halves L new = 2 * new ≤ L + 1

-- a step that halves sets the running number s back, and one that does not adds 1
set_back : (L new s : ℕ) → Halves L new → streak_of L new s ≡ 0
unfolding streak_of
set_back L new s h = simp (le-leb (2 * new) (L + 1) h)

raised : (L new s : ℕ) → L + 1 < 2 * new → streak_of L new s ≡ s + 1
unfolding streak_of
raised L new s h = simp (lt-leb (2 * new) (L + 1) h)

-- every step does one or the other
abbrev pub Rule7 : (L new s : ℕ) → Type 0
Rule7 L new s = (Halves L new × (streak_of L new s ≡ 0)) ⊎ ((L + 1 < 2 * new) × (streak_of L new s ≡ s + 1))

pub streak_is : (L new s : ℕ) → Rule7 L new s
streak_is L new s = go (halves L new) refl
  where
    go : (b : Bool) → halves L new ≡ b → Rule7 L new s
    go true e = let h = leb-true (2 * new) (L + 1) e in inl (h, set_back L new s h)
    go false e = let h = leb-false (2 * new) (L + 1) e in inr (h, raised L new s h)

pub bisection_halves : (L new : ℕ) → new + L / 2 ≤ L → Halves L new
bisection_halves L new h = omega arith

-- R's first step is linear, and its streak is 0
pub forced : (m : Method) (n s : ℕ) → s + 2 ≤ n → s ≡ allowed m → step_of m (eqb n 2) s ≡ Step.Bisection
unfolding step_of
forced Method.M n s h e = rw e
forced Method.R n s h e = rw (e, ne_eqb n 2 (λ f. omega arith))
