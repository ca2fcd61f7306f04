-- A trial load that anyone can repeat, request 2026-11: the draws of a seed, the opening and the values that they give, and the load.
-- Assumes nothing.
use Rattle.std.specs.Prelude.{ℕ, zero, suc, ◌+◌, ◌*◌, ◌%◌, Bool, cond, ◌&&◌, List, [], ◌∷◌, ◌++◌, eqb, leb, ℤ, pos, neg_ℤ, ◌-ℤ◌, length}
use Rattle.rules.specs.declared.Opening.{Opening}
use Rattle.rules.specs.declared.Report.{Report}
use Rattle.rules.specs.Rules.{padded}
use Rattle.rules.specs.Refusals.{same_side}
use Rattle.rules.specs.Search.{stopped_at, progress_of, most_of}
use Rattle.held.specs.declared.Search.{Search}
use Rattle.held.specs.declared.Entered.{Entered}
use Rattle.held.specs.Held.{blank, held_report}

-- ---- the generator of Park and Miller

-- each draw is 16,807 × the last, modulo 2,147,483,647
unfoldable pub next_draw : ℕ → ℕ
next_draw last = 16807 * last % 2147483647

-- the draws from a seed, numbered from 1. Number 0 is the seed, which is itself no draw
unfoldable pub draw_of : (seed n : ℕ) → ℕ
draw_of seed zero = seed
draw_of seed (suc n) = next_draw (draw_of seed n)

-- ---- the opening, from the first four

-- x0: draw modulo 60,001
unfoldable pub drawn_point : ℕ → ℕ
drawn_point draw = draw % 60001

-- x1: the same, or x0 + 1 modulo 60,001 if equal to x0
unfoldable pub drawn_second : (x0 draw : ℕ) → ℕ
drawn_second x0 draw = cond (eqb (drawn_point draw) x0) ((x0 + 1) % 60001) (drawn_point draw)

-- x0, x1, τ and method; p is 0
unfoldable pub drawn_opening : (a b c d : ℕ) → Opening
drawn_opening a b c d =
    record {
      method = pos (1 + d % 2);
      first = pos (drawn_point a);
      second = pos (drawn_second (drawn_point a) b);
      tolerance = pos (1 + c % 5000);
      share = pos 0;
    }

unfoldable pub load_opening : (seed : ℕ) → Opening
load_opening seed = drawn_opening (draw_of seed 1) (draw_of seed 2) (draw_of seed 3) (draw_of seed 4)

-- ---- the values, from the fifth on

-- draw modulo 20,001, less 10,000
unfoldable pub drawn_value : ℕ → ℤ
drawn_value draw = pos (draw % 20001) -ℤ pos 10000

-- the value v at place i, counted from 0, where the first is u: a second one of the first's strict sign is negated
unfoldable pub placed_value : (i : ℕ) (u v : ℤ) → ℤ
placed_value i u v = cond (eqb i 1 && same_side u v) (neg_ℤ v) v

unfoldable pub load_value : (seed i : ℕ) → ℤ
load_value seed i = placed_value i (drawn_value (draw_of seed 5)) (drawn_value (draw_of seed (5 + i)))

-- the first n of them
unfoldable pub load_values : (seed n : ℕ) → List ℤ
load_values seed zero = []
load_values seed (suc n) = load_values seed n ++ (load_value seed n ∷ [])

-- ---- values are drawn until the search stops

-- whether the search over the first n values has stopped
unfoldable pub stopped_after : (seed n : ℕ) → Bool
stopped_after seed n = stopped_at (load_opening seed) (progress_of (load_opening seed) (load_values seed n))

-- the first of 0, 1, 2 .. that has a property, if one below `most` has it, and otherwise `most`
unfoldable pub first_below : (most : ℕ) (has : ℕ → Bool) → ℕ
first_below zero has = zero
first_below (suc most) has = cond (has zero) zero (suc (first_below most (λ n. has (suc n))))

-- how many values are drawn. Where the looking ends need not be believed: `until` in Claims says that this is the least number after which the
-- search has stopped
unfoldable pub values_drawn : (seed : ℕ) → ℕ
values_drawn seed = first_below (most_of (load_opening seed)) (stopped_after seed)

-- ---- the load

-- the held search of the opening and the first n values
abbrev pub load_part : (seed n : ℕ) → Search
load_part seed n = record { opening = load_opening seed; count = length (load_values seed n); slots = padded (load_values seed n) }

-- with its report
abbrev pub held_part : (seed n : ℕ) → Entered
held_part seed n = record { report = held_report (load_part seed n); search = load_part seed n }

abbrev pub largest_seed : ℕ
largest_seed = 2147483646

-- seed not 1 to 2,147,483,646
abbrev pub seed_out_of_range : ℕ
seed_out_of_range = 20

abbrev pub is_seed : ℕ → Bool
is_seed seed = leb 1 seed && leb seed largest_seed

-- the held search of all values drawn, or the refusal and beside it a blank
unfoldable pub load_of : (seed : ℕ) → Entered
load_of seed = cond (is_seed seed) (held_part seed (values_drawn seed)) (record { report = Report.Refused seed_out_of_range 0; search = blank })
