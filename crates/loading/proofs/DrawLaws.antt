-- The laws of draws: they stay in the range of the seeds; the opening that they give is accepted, and so are the values.
-- Assumes nothing.
use Rattle.std.specs.Prelude.{ℕ, zero, suc, ◌+◌, ◌*◌, ◌%◌, ◌/◌, ◌≤◌, ◌<◌, ◌≡◌, refl, Bool, true, false, cond, ◌&&◌, eqb, leb, ℤ, pos, negsuc, neg_ℤ, nat_abs}
use Rattle.std.proofs.Common.{sym, ap, ◌∙◌, mod-lt, div-add-mod', arith, eq-eqb, lt-ltb, le-ltb, le-leb, leb-true}
use Rattle.integers.proofs.SignsLaws.{never, ne_eq_z}
use Rattle.integers.proofs.Bounds.{Within, within_neg, within_apart}
use Rattle.rules.specs.Rules.{highest, largest_value}
use Rattle.rules.specs.Refusals.{opening_refusal, outside, same_side, Accepted}
use Rattle.forms.proofs.NumberLaws.{both}
use Rattle.loading.specs.Loading.{next_draw, draw_of, drawn_point, drawn_second, drawn_opening, load_opening}
use Rattle.loading.specs.Loading.{drawn_value, placed_value, load_value, largest_seed, is_seed}

-- ---- the draws stay from 1 to 2,147,483,646

pub record Seed (d : ℕ) : Type 0 where
  pub least : 1 ≤ d
  pub most : d ≤ largest_seed

pub seed_is : (d : ℕ) → is_seed d ≡ true → Seed d
seed_is d e = let h = both (leb 1 d) (leb d largest_seed) e in record { least = leb-true 1 d h.0; most = leb-true d largest_seed h.1 }

pub is_seed_lem : (d : ℕ) → Seed d → is_seed d ≡ true
is_seed_lem d h = simp (le-leb 1 d h.least, le-leb d largest_seed h.most)

abbrev modulus : ℕ
modulus = 2147483647

-- a number below the modulus, and not 0, is no multiple of it
no_multiple : (a b d : ℕ) → d + modulus * a ≡ modulus * b → 1 ≤ d → d < modulus → ⊥
no_multiple a b d e h l = omega arith

-- 1,407,677,000 undoes the multiplication by 16,807: their product is 1 more than 11,017 × the modulus
no_zero : (d q : ℕ) → 16807 * d ≡ modulus * q → 1 ≤ d → d < modulus → ⊥
no_zero d q e h l = no_multiple (11017 * d) (1407677000 * q) d (omega arith) h l

next_draw_lem : (d : ℕ) → Seed d → Seed (next_draw d)
unfolding next_draw
next_draw_lem d h = record { least = least (16807 * d % modulus) refl; most = omega (arith, mod-lt (16807 * d) {m = modulus} (omega arith)) }
  where
    least : (r : ℕ) → 16807 * d % modulus ≡ r → 1 ≤ r
    least zero e = absurd (no_zero d (16807 * d / modulus) (omega (arith, div-add-mod' (16807 * d) modulus)) h.least (omega (arith, h.most)))
    least (suc r) e = omega arith

pub draws : (seed n : ℕ) → Seed seed → Seed (draw_of seed n)
unfolding draw_of
draws seed zero h = h
draws seed (suc n) h = next_draw_lem (draw_of seed n) (draws seed n h)

-- ---- the opening is accepted

pub point_most : (d : ℕ) → drawn_point d ≤ highest
unfolding drawn_point
point_most d = omega (arith, mod-lt d {m = 60001} (omega arith))

pub second_most : (x d : ℕ) → drawn_second x d ≤ highest
unfolding drawn_second
second_most x d = go (eqb (drawn_point d) x)
  where
    go : (b : Bool) → cond b ((x + 1) % 60001) (drawn_point d) ≤ highest
    go true = omega (arith, mod-lt (x + 1) {m = 60001} (omega arith))
    go false = point_most d

second_other : (x d : ℕ) → x ≤ highest → x ≡ drawn_second x d → ⊥
unfolding drawn_second
second_other x d h = go (eqb (drawn_point d) x) refl
  where
    go : (b : Bool) → eqb (drawn_point d) x ≡ b → x ≡ cond b ((x + 1) % 60001) (drawn_point d) → ⊥
    go true e f = omega (arith, div-add-mod' (x + 1) 60001)
    go false e f = never (sym (eq-eqb (drawn_point d) x (sym f)) ∙ e)

inside : (low high n : ℕ) → low ≤ n → n ≤ high → outside low high (pos n) ≡ false
inside low high n h k = simp (le-ltb n low h, le-ltb high n k)

opening_accepted : (a b c d : ℕ) → Accepted (drawn_opening a b c d)
unfolding drawn_opening opening_refusal
opening_accepted a b c d =
    let x = drawn_point a in
    let y = drawn_second x b in
    record {
      accepted =
          simp (
            inside 0 2 (1 + d % 2) (omega arith) (omega (arith, mod-lt d {m = 2} (omega arith))),
            inside 0 highest x (omega arith) (point_most a),
            inside 0 highest y (omega arith) (second_most x b),
            ne_eq_z (pos x) (pos y) (λ e. second_other x b (point_most a) (ap nat_abs e)),
            inside 1 5000 (1 + c % 5000) (omega arith) (omega (arith, mod-lt c {m = 5000} (omega arith))),
          );
    }

pub accepted : (seed : ℕ) → Accepted (load_opening seed)
unfolding load_opening
accepted seed = opening_accepted (draw_of seed 1) (draw_of seed 2) (draw_of seed 3) (draw_of seed 4)

-- ---- the values are in range, and the second is not on the first one's side

pub value_within : (d : ℕ) → Within (drawn_value d) largest_value
unfolding drawn_value
value_within d = within_apart {a = d % 20001} {b = 10000} (omega (arith, mod-lt d {m = 20001} (omega arith))) (omega arith)

pub value_ranged : (seed i : ℕ) → nat_abs (load_value seed i) ≤ largest_value
unfolding load_value placed_value
value_ranged seed i = go (eqb i 1 && same_side (drawn_value (draw_of seed 5)) v)
  where
    v : ℤ
    v = drawn_value (draw_of seed (5 + i))

    go : (b : Bool) → nat_abs (cond b (neg_ℤ v) v) ≤ largest_value
    go true = (within_neg (value_within (draw_of seed (5 + i)))).abs_le
    go false = (value_within (draw_of seed (5 + i))).abs_le

-- v and −v are not both on the side of u
turned_crosses : (u v : ℤ) → same_side u v ≡ true → same_side u (neg_ℤ v) ≡ false
unfolding same_side
turned_crosses (pos zero) v e = refl
turned_crosses (pos (suc u)) (pos zero) e = simp (lt-ltb 0 (suc u) (omega arith), le-ltb (suc u) 0 (omega arith))
turned_crosses (pos (suc u)) (pos (suc v)) e = simp (lt-ltb 0 (suc u) (omega arith), le-ltb (suc u) 0 (omega arith))
turned_crosses (pos (suc u)) (negsuc v) e = never (sym e ∙ simp (lt-ltb 0 (suc u) (omega arith), le-ltb (suc u) 0 (omega arith)))
turned_crosses (negsuc u) (pos v) e = never (sym e ∙ le-ltb v 0 (omega arith))
turned_crosses (negsuc u) (negsuc v) e = le-ltb (suc v) 0 (omega arith)

pub second_crosses : (seed : ℕ) → same_side (load_value seed 0) (load_value seed 1) ≡ false
unfolding load_value placed_value
second_crosses seed = go (same_side u v) refl
  where
    u : ℤ
    u = drawn_value (draw_of seed 5)

    v : ℤ
    v = drawn_value (draw_of seed 6)

    go : (b : Bool) → same_side u v ≡ b → same_side u (cond b (neg_ℤ v) v) ≡ false
    go true e = turned_crosses u v e
    go false e = e
