-- Worked surveys, each by computation.
-- Assumes nothing.
use Rattle.std.specs.Prelude.{ℕ, ◌≡◌, refl, false, List, [], ◌∷◌, ℤ, pos, neg_ℤ, replicate, Ok, Err}
use Rattle.integers.specs.Digits.{first_below}
use Rattle.integers.specs.Lists.{filter}
use Rattle.rules.specs.Rules.{opposed}
use Rattle.rules.specs.Refusals.{refusal}
use Rattle.surveying.specs.Survey.{positions, is_misplaced, large_at, surveyed_of, list_of, surveyed_row_of}

-- a list that is lent, with something in it
abbrev lent : List ℕ
lent = 7 ∷ 8 ∷ 9 ∷ []

-- ---- the pairs

-- from 100 by 50: −5 at 100, 3 at 150, 0 at 200, −2 at 250, −1 at 300. The zero at 200 makes two pairs
abbrev crossed : List ℤ
crossed = neg_ℤ (pos 5) ∷ pos 3 ∷ pos 0 ∷ neg_ℤ (pos 2) ∷ neg_ℤ (pos 1) ∷ []

three_pairs : surveyed_of (pos 100) (pos 50) crossed 3 ≡ Ok 3
unfolding surveyed_of is_misplaced first_below large_at filter positions opposed
three_pairs = refl

three_written : list_of (pos 100) (pos 50) crossed lent ≡ 100 ∷ 150 ∷ 200 ∷ []
unfolding list_of surveyed_of is_misplaced first_below large_at filter positions opposed
three_written = refl

-- neighbours alone are compared: one pair, the last; and the rest of the list keeps its contents
last_pair : list_of (pos 0) (pos 1) (pos 4 ∷ pos 1 ∷ neg_ℤ (pos 4) ∷ []) lent ≡ 1 ∷ 8 ∷ 9 ∷ []
unfolding list_of surveyed_of is_misplaced first_below large_at filter positions opposed
last_pair = refl

-- two values, of which one is 0, are a pair
zero_first : list_of (pos 5900) (pos 10) (pos 0 ∷ pos 3 ∷ []) lent ≡ 5900 ∷ 8 ∷ 9 ∷ []
unfolding list_of surveyed_of is_misplaced first_below large_at filter positions opposed
zero_first = refl

-- values on one side are no pair
no_pair : surveyed_of (pos 0) (pos 1) (pos 4 ∷ pos 1 ∷ []) 0 ≡ Ok 0
unfolding surveyed_of is_misplaced first_below large_at filter positions opposed
no_pair = refl

both_below : list_of (pos 0) (pos 1) (neg_ℤ (pos 4) ∷ neg_ℤ (pos 1) ∷ []) lent ≡ lent
unfolding list_of surveyed_of is_misplaced first_below large_at filter positions opposed
both_below = refl

-- the whole range at once, with values at both limits
at_the_limits : surveyed_of (pos 0) (pos 60000) (pos 10000 ∷ neg_ℤ (pos 10000) ∷ []) 1 ≡ Ok 1
unfolding surveyed_of is_misplaced first_below large_at filter positions opposed
at_the_limits = refl

-- every two neighbours make a pair: of 6 values there are 5, and a list of 5 takes them
all_pairs : surveyed_of (pos 0) (pos 100) (replicate 6 (pos 0)) 5 ≡ Ok 5
unfolding surveyed_of is_misplaced first_below large_at filter positions opposed
all_pairs = refl

one_place_less : surveyed_of (pos 0) (pos 100) (replicate 6 (pos 0)) 4 ≡ Err (refusal 22 0)
unfolding surveyed_of is_misplaced first_below large_at filter positions opposed
one_place_less = refl

-- ---- the most values, and the highest point

-- 600 values from 100 by 100, the last at 60,000
values_600 : is_misplaced (pos 100) (pos 100) 600 ≡ false
unfolding is_misplaced first_below
values_600 = refl

values_601 : surveyed_of (pos 0) (pos 1) (replicate 601 (pos 1)) 3 ≡ Err (refusal 21 0)
unfolding surveyed_of is_misplaced
values_601 = refl

-- ---- 21, before anything else

no_value : surveyed_of (pos 0) (pos 1) [] 3 ≡ Err (refusal 21 0)
unfolding surveyed_of is_misplaced
no_value = refl

-- one value, which is out of range too
one_value : surveyed_of (pos 0) (pos 1) (pos 10001 ∷ []) 3 ≡ Err (refusal 21 0)
unfolding surveyed_of is_misplaced
one_value = refl

no_pitch : surveyed_of (pos 0) (pos 0) crossed 3 ≡ Err (refusal 21 0)
unfolding surveyed_of is_misplaced
no_pitch = refl

-- downward from 300, every point in range
pitch_below : surveyed_of (pos 300) (neg_ℤ (pos 50)) crossed 3 ≡ Err (refusal 21 0)
unfolding surveyed_of is_misplaced
pitch_below = refl

-- the first point is one too low
below_range : surveyed_of (neg_ℤ (pos 1)) (pos 50) crossed 3 ≡ Err (refusal 21 0)
unfolding surveyed_of is_misplaced first_below
below_range = refl

-- the fifth point is one too high, or just in range
above_range : surveyed_of (pos 59997) (pos 1) crossed 3 ≡ Err (refusal 21 0)
unfolding surveyed_of is_misplaced first_below
above_range = refl

to_the_end : surveyed_of (pos 59996) (pos 1) crossed 3 ≡ Ok 3
unfolding surveyed_of is_misplaced first_below large_at filter positions opposed
to_the_end = refl

-- ---- then 7, of the first value out of range; then 22

-- where there is no pair too
first_value : surveyed_of (pos 0) (pos 1) (pos 10001 ∷ pos 10001 ∷ []) 0 ≡ Err (refusal 7 0)
unfolding surveyed_of is_misplaced first_below large_at
first_value = refl

second_value : surveyed_of (pos 0) (pos 1) (pos 10000 ∷ neg_ℤ (pos 10001) ∷ pos 10001 ∷ []) 0 ≡ Err (refusal 7 1)
unfolding surveyed_of is_misplaced first_below large_at
second_value = refl

too_short : surveyed_of (pos 100) (pos 50) crossed 2 ≡ Err (refusal 22 0)
unfolding surveyed_of is_misplaced first_below large_at filter positions opposed
too_short = refl

no_room : surveyed_of (pos 100) (pos 50) crossed 0 ≡ Err (refusal 22 0)
unfolding surveyed_of is_misplaced first_below large_at filter positions opposed
no_room = refl

-- a refusal leaves the list whole
list_whole : list_of (pos 100) (pos 50) crossed (7 ∷ 8 ∷ []) ≡ 7 ∷ 8 ∷ []
unfolding list_of surveyed_of is_misplaced first_below large_at filter positions opposed
list_whole = refl

-- ---- what is told as plain numbers

found_row : surveyed_row_of (Ok 3) ≡ record { kind = 7; pairs = 3; number = 0; place = 0 }
found_row = refl

refused_row : surveyed_row_of (Err (refusal 7 1)) ≡ record { kind = 3; pairs = 0; number = 7; place = 1 }
refused_row = refl
