-- Worked examples of single definitions, each by computation.
-- Assumes nothing.
use Rattle.std.specs.Prelude.{ℕ, ◌≡◌, refl, true, ℤ, pos, neg_ℤ, Ok, Err}
use mathlib.Core.List.{List, [], ◌∷◌, map, zip_with}
use Rattle.integers.specs.Digits.{digits, halvings}
use Rattle.rules.specs.declared.Opening.{Opening}
use Rattle.rules.specs.declared.Sample.{Sample}
use Rattle.rules.specs.declared.Fraction.{Fraction}
use Rattle.rules.specs.declared.Report.{Report}
use Rattle.rules.specs.Rules.{method_of, forward_of, displacement_of, at_better, no_estimate, linear_of, cross_of, rational_of, streak_of}
use Rattle.rules.specs.Refusals.{refusal, opening_refusal}
use Rattle.rules.specs.Search.{turns_of, quote_of}
use Rattle.rules.specs.Streak.{streak_over}
use Rattle.rules.specs.Rows.{row_of, row_numbers, quotation_of}

abbrev over : ℤ → ℤ → Fraction
over num den = record { num = num; den = den }

-- ---- Rule 3, at τ = 3 and L = 21: u below 0, at 0, at τ, just above τ, rounded down, at L/2, above L/2; a denominator below 0

below_zero : displacement_of 3 21 (over (neg_ℤ (pos 1)) (pos 8)) ≡ 10
unfolding displacement_of forward_of
below_zero = refl

at_zero : displacement_of 3 21 at_better ≡ 3
unfolding displacement_of forward_of
at_zero = refl

at_tolerance : displacement_of 3 21 (over (pos 24) (pos 8)) ≡ 3
unfolding displacement_of forward_of
at_tolerance = refl

rounded_down : displacement_of 3 21 (over (pos 79) (pos 8)) ≡ 9
unfolding displacement_of forward_of
rounded_down = refl

rounded_down_under : displacement_of 3 21 (over (neg_ℤ (pos 79)) (neg_ℤ (pos 8))) ≡ 9
unfolding displacement_of forward_of
rounded_down_under = refl

above_half : displacement_of 3 21 (over (pos 85) (pos 8)) ≡ 10
unfolding displacement_of forward_of
above_half = refl

no_estimate_lem : displacement_of 3 21 no_estimate ≡ 10
unfolding displacement_of forward_of
no_estimate_lem = refl

-- ---- Rules 4 and 5

abbrev at : ℤ → Sample
at v = record { point = 40; value = v }

abbrev before : ℤ → Sample
before v = record { point = 33; value = v }

abbrev far : ℤ → Sample
far v = record { point = 100; value = v }

linear_zero : linear_of (at (pos 0)) (before (pos 0)) true ≡ at_better
unfolding linear_of
linear_zero = refl

linear_level : linear_of (at (pos 7)) (before (pos 7)) true ≡ no_estimate
unfolding linear_of
linear_level = refl

-- S = −5 · (−10 − 100) · (40 − 100) and Q = S − (−10)(−5 − 100)(33 − 100)
rational_by_hand : rational_of (at (neg_ℤ (pos 5))) (before (neg_ℤ (pos 10))) (far (pos 100)) true ≡ over (pos 231000) (pos 37350)
unfolding rational_of cross_of
rational_by_hand = refl

-- S = Q = 0: the estimate is b
rational_zero : rational_of (at (pos 0)) (before (pos 0)) (far (pos 9)) true ≡ at_better
unfolding rational_of cross_of
rational_zero = refl

-- only Q = 0: S is −9 (9 − 3) 20, and so is F(a)(F(b) − F(d))(a − d)
rational_level : rational_of (at (neg_ℤ (pos 9))) (record { point = 30; value = pos 9 }) (record { point = 20; value = pos 3 }) true ≡ no_estimate
unfolding rational_of cross_of
rational_level = refl

-- ---- Rule 7

-- the running number: an odd bracket cut in the middle halves, whichever part is kept
odd_smaller : streak_of 57 28 2 ≡ 0
unfolding streak_of
odd_smaller = refl

odd_larger : streak_of 57 29 2 ≡ 0
unfolding streak_of
odd_larger = refl

one_too_wide : streak_of 57 30 2 ≡ 3
unfolding streak_of
one_too_wide = refl

-- by looking back: the widths of the brackets so far, and s
record Back : Type 0 where
  widths : List ℕ
  s : ℕ

abbrev back : List ℕ → ℕ → Back
back widths s = record { widths = widths; s = s }

abbrev backs : List Back
backs =
    -- after the second answer: no step at all
    back (100 ∷ []) 0
    -- no step that halves: document 01's trials by M up to next 71 and by R up to next 76
    ∷ back (100 ∷ 67 ∷ 59 ∷ 57 ∷ []) 3
    ∷ back (100 ∷ 67 ∷ 60 ∷ 54 ∷ 47 ∷ []) 4
    -- a halving step just before: the odd width 57 cut in the middle, either part; with one more it is none
    ∷ back (100 ∷ 67 ∷ 59 ∷ 57 ∷ 28 ∷ []) 0
    ∷ back (100 ∷ 67 ∷ 59 ∷ 57 ∷ 29 ∷ []) 0
    ∷ back (100 ∷ 67 ∷ 59 ∷ 57 ∷ 30 ∷ []) 4
    -- an even width: half of it; with one more it is none
    ∷ back (100 ∷ 50 ∷ []) 0
    ∷ back (100 ∷ 51 ∷ []) 1
    -- of two halving steps the last one counts, and is not counted itself
    ∷ back (100 ∷ 50 ∷ 40 ∷ 30 ∷ 15 ∷ 14 ∷ []) 1
    ∷ []

backs_hold : map (λ (b : Back). streak_over b.widths) backs ≡ map (λ (b : Back). b.s) backs
unfolding streak_over zip_with
backs_hold = refl

-- ---- the quote

abbrev with_share : (method tolerance share : ℤ) → Opening
with_share method tolerance share = record { method = method; first = pos 60000; second = pos 0; tolerance = tolerance; share = share }

abbrev opening : (method tolerance : ℤ) → Opening
opening method tolerance = with_share method tolerance (pos 0)

whole_range_by_m : quote_of (opening (pos 1) (pos 1)) ≡ Ok (record { t = 15; most = 62 })
unfolding quote_of opening_refusal method_of turns_of digits halvings
whole_range_by_m = refl

whole_range_by_r : quote_of (opening (pos 2) (pos 1)) ≡ Ok (record { t = 15; most = 77 })
unfolding quote_of opening_refusal method_of turns_of digits halvings
whole_range_by_r = refl

-- by the house default as by R
whole_range_by_default : quote_of (opening (pos 0) (pos 1)) ≡ Ok (record { t = 15; most = 77 })
unfolding quote_of opening_refusal method_of turns_of digits halvings
whole_range_by_default = refl

largest_tolerance_lem : quote_of (opening (pos 1) (pos 5000)) ≡ Ok (record { t = 3; most = 14 })
unfolding quote_of opening_refusal method_of turns_of digits halvings
largest_tolerance_lem = refl

quote_refused : quote_of (opening (pos 1) (pos 0)) ≡ Err (refusal 4 0)
unfolding quote_of opening_refusal
quote_refused = refl

-- from τ alone, whatever the share; one out of range is refused
quote_with_share : quote_of (with_share (pos 0) (pos 1) (pos 100)) ≡ Ok (record { t = 15; most = 77 })
unfolding quote_of opening_refusal method_of turns_of digits halvings
quote_with_share = refl

quote_share_refused : quote_of (with_share (pos 1) (pos 1) (pos 101)) ≡ Err (refusal 17 0)
unfolding quote_of opening_refusal
quote_share_refused = refl

-- t is 0 up to W = 2τ, and 1 from 2τ + 1 on
within_tolerance : turns_of 5 10 ≡ 0
unfolding turns_of digits halvings
within_tolerance = refl

just_beyond : turns_of 5 11 ≡ 1
unfolding turns_of digits halvings
just_beyond = refl

-- ---- reports and quotes as plain numbers

next_row : row_numbers (row_of (Report.Next 33 2)) ≡ 1 ∷ 33 ∷ 0 ∷ 0 ∷ 0 ∷ 2 ∷ 0 ∷ 0 ∷ []
next_row = refl

stop_row : row_numbers (row_of (Report.Stop 41 43 42 5)) ≡ 2 ∷ 0 ∷ 41 ∷ 43 ∷ 42 ∷ 5 ∷ 0 ∷ 0 ∷ []
stop_row = refl

refused_row : row_numbers (row_of (Report.Refused 6 4)) ≡ 3 ∷ 0 ∷ 0 ∷ 0 ∷ 0 ∷ 0 ∷ 6 ∷ 4 ∷ []
refused_row = refl

quotation : quotation_of (Ok (record { t = 15; most = 62 })) ≡ record { kind = 4; t = 15; most = 62; number = 0; place = 0 }
quotation = refl

refused_quotation : quotation_of (Err (refusal 4 0)) ≡ record { kind = 3; t = 0; most = 0; number = 4; place = 0 }
refused_quotation = refl
