-- Draws, openings, values and loads worked by hand, in lists with one statement each. All hold by computation.
-- Assumes nothing.
use Rattle.std.specs.Prelude.{ℕ, ◌≡◌, refl, List, [], ◌∷◌, map, ℤ, pos, neg_ℤ, length}
use Rattle.integers.specs.Digits.{halvings, digits}
use Rattle.rules.specs.declared.Opening.{Opening}
use Rattle.rules.specs.declared.Report.{Report}
use Rattle.rules.specs.Rules.{padded, method_of, tolerance_at, start_of, stopped_of, forward_of, displacement_of, linear_of, cross_of, rational_of, doubled_of}
use Rattle.rules.specs.Rules.{opposed, partner_of, streak_of, renewed_of, advance_of, step_of, reach_of, offset_of, next_of}
use Rattle.rules.specs.Refusals.{opening_refusal, answer_refusal, same_side}
use Rattle.rules.specs.Search.{begin_of, offer_of, take_of, progress_of, bracket_report, report_at, turns_of}
use Rattle.held.specs.declared.Entered.{Entered}
use Rattle.held.specs.Held.{blank, standing_of, held_report}
use Rattle.loading.specs.Loading.{next_draw, draw_of, drawn_point, drawn_second, drawn_opening}
use Rattle.loading.specs.Loading.{load_opening, drawn_value, placed_value, load_value, load_values}
use Rattle.loading.specs.Loading.{stopped_after, first_below, values_drawn, load_of}

-- ---- draws

first_draws : map (draw_of 1) (1 ∷ 2 ∷ 3 ∷ 4 ∷ 5 ∷ []) ≡ 16807 ∷ 282475249 ∷ 1622650073 ∷ 984943658 ∷ 1144108930 ∷ []
unfolding draw_of next_draw
first_draws = refl

-- the check that Park and Miller published
ten_thousandth : draw_of 1 10000 ≡ 1043618065
unfolding draw_of next_draw
ten_thousandth = refl

-- the largest seed is −1 modulo 2,147,483,647
of_largest : draw_of 2147483646 1 ≡ 2147466840
unfolding draw_of next_draw
of_largest = refl

-- ---- openings

abbrev opening : (method first second tolerance : ℕ) → Opening
opening m x y t = record { method = pos m; first = pos x; second = pos y; tolerance = pos t; share = pos 0 }

-- four draws, and the opening that they give
record Drawn : Type 0 where
  a : ℕ
  b : ℕ
  c : ℕ
  d : ℕ
  is : Opening

abbrev drawn : (a b c d : ℕ) → Opening → Drawn
drawn a b c d o = record { a = a; b = b; c = c; d = d; is = o }

-- the least and the largest of each; the highest point is drawn; x1 equal to x0 is moved, past the highest point to 0
abbrev openings : List Drawn
openings =
    drawn 0 60000 0 0 (opening 1 0 60000 1)
    ∷ drawn 60000 60001 4999 1 (opening 2 60000 0 5000)
    ∷ drawn 60001 60002 5000 2 (opening 1 0 1 1)
    ∷ drawn 7 7 24 3 (opening 2 7 8 25)
    ∷ drawn 60000 60000 24 4 (opening 1 60000 0 25)
    ∷ drawn 60008 7 24 5 (opening 2 7 8 25)
    ∷ []

openings_work : map (λ (x : Drawn). drawn_opening x.a x.b x.c x.d) openings ≡ map (λ (x : Drawn). x.is) openings
unfolding drawn_opening drawn_point drawn_second
openings_work = refl

-- ---- values

values_drawn_lem : map drawn_value (0 ∷ 10000 ∷ 20000 ∷ 20001 ∷ 2147483646 ∷ []) ≡ neg_ℤ (pos 10000) ∷ pos 0 ∷ pos 10000 ∷ neg_ℤ (pos 10000) ∷ pos 6278 ∷ []
unfolding drawn_value
values_drawn_lem = refl

-- a first value, the value drawn at a place, and what it becomes
record Valued : Type 0 where
  place : ℕ
  first : ℤ
  drawn : ℤ
  is : ℤ

abbrev valued : ℕ → ℤ → ℤ → ℤ → Valued
valued i u v w = record { place = i; first = u; drawn = v; is = w }

-- the second is negated where both are above 0, or both below, and at no other time; no other value is
abbrev places : List Valued
places =
    valued 1 (pos 5) (pos 7) (neg_ℤ (pos 7))
    ∷ valued 1 (neg_ℤ (pos 5)) (neg_ℤ (pos 7)) (pos 7)
    ∷ valued 1 (pos 5) (neg_ℤ (pos 7)) (neg_ℤ (pos 7))
    ∷ valued 1 (neg_ℤ (pos 5)) (pos 7) (pos 7)
    ∷ valued 1 (pos 0) (pos 7) (pos 7)
    ∷ valued 1 (pos 0) (neg_ℤ (pos 7)) (neg_ℤ (pos 7))
    ∷ valued 1 (pos 5) (pos 0) (pos 0)
    ∷ valued 0 (pos 5) (pos 5) (pos 5)
    ∷ valued 2 (pos 5) (pos 7) (pos 7)
    ∷ valued 3 (neg_ℤ (pos 5)) (neg_ℤ (pos 7)) (neg_ℤ (pos 7))
    ∷ []

places_work : map (λ (x : Valued). placed_value x.place x.first x.drawn) places ≡ map (λ (x : Valued). x.is) places
unfolding placed_value same_side
places_work = refl

-- ---- loads

record Example : Type 0 where
  seed : ℕ
  load : Entered

abbrev stops : ℕ → (lower upper better : ℕ) → Opening → List ℤ → Example
stops seed a b c o vs =
    record { seed = seed; load = record { report = Report.Stop a b c (length vs); search = record { opening = o; count = length vs; slots = padded vs } } }

abbrev refused : ℕ → Example
refused seed = record { seed = seed; load = record { report = Report.Refused 20 0; search = blank } }

-- by M; by R, with a second value that was drawn as 1,728; of ends that were drawn equal; with a first value of 0, and a second below and above it;
-- with a second of 0; of the largest seed; and of the numbers on each side of the seeds
abbrev loads : List Example
loads =
    stops 2 36139 38611 36139 (opening 1 33614 41083 1500) (neg_ℤ (pos 2823) ∷ pos 5526 ∷ neg_ℤ (pos 5014) ∷ pos 9701 ∷ [])
    ∷ stops 1407677000 3775 4153 4153 (opening 2 1 16807 250)
    (pos 4414 ∷ neg_ℤ (pos 1728) ∷ neg_ℤ (pos 2237) ∷ neg_ℤ (pos 7507) ∷ pos 7990 ∷ neg_ℤ (pos 5012) ∷ pos 7353 ∷ neg_ℤ (pos 6736) ∷ [])
    ∷ stops 23272 45986 45987 45987 (opening 2 45986 45987 9) (neg_ℤ (pos 6581) ∷ pos 4146 ∷ [])
    ∷ stops 18988 55949 58565 55949 (opening 1 45998 58565 2616) (pos 0 ∷ neg_ℤ (pos 1945) ∷ pos 8298 ∷ pos 1223 ∷ [])
    ∷ stops 61365 4366 8563 4366 (opening 2 4366 30730 4197) (pos 0 ∷ pos 8970 ∷ pos 6452 ∷ [])
    ∷ stops 3802 49381 52744 49381 (opening 2 59150 49381 3363) (neg_ℤ (pos 5700) ∷ pos 0 ∷ neg_ℤ (pos 9605) ∷ [])
    ∷ stops 2147483646 31050 36211 36211 (opening 2 31050 57316 3575) (neg_ℤ (pos 5449) ∷ pos 1484 ∷ pos 3786 ∷ pos 8290 ∷ pos 1291 ∷ [])
    ∷ refused 0
    ∷ refused 2147483647
    ∷ []

loads_work : map (λ (x : Example). load_of x.seed) loads ≡ map (λ (x : Example). x.load) loads
unfolding next_draw draw_of drawn_point drawn_second drawn_opening load_opening drawn_value placed_value load_value load_values stopped_after first_below
    values_drawn load_of held_report standing_of progress_of begin_of take_of offer_of report_at bracket_report opening_refusal answer_refusal same_side
    turns_of digits halvings method_of tolerance_at start_of stopped_of forward_of displacement_of linear_of cross_of rational_of doubled_of opposed partner_of
    streak_of renewed_of advance_of step_of reach_of offset_of next_of
loads_work = refl
