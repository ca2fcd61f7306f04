-- A survey of the whole range, request 2026-12: values measured at equal distances, and the neighbouring pairs whose values have a zero or negative
-- product. All of it is by positions, which count the values from 0.
-- Assumes nothing.
use Rattle.std.specs.Prelude.{ℕ, zero, suc, ◌+◌, ◌-◌, Bool, cond, ◌||◌, List, [], ◌∷◌, ◌++◌, map, ltb, ℤ, pos, nat_abs, ◌+ℤ◌, ◌*ℤ◌, length, get_or, drop}
use Rattle.std.specs.Prelude.{Result, Ok, Err}
use Rattle.std.specs.Int.Signed.{lt_z}
use Rattle.integers.specs.Digits.{first_below, some_below}
use Rattle.integers.specs.Lists.{filter}
use Rattle.rules.specs.Rules.{highest, opposed}
use Rattle.rules.specs.Refusals.{refusal, outside, too_large, value_out_of_range}
use Rattle.rules.specs.declared.Refusal.{Refusal}
use Rattle.rules.specs.Rows.{refused_kind, surveyed_kind}
use Rattle.surveying.specs.declared.SurveyedRow.{SurveyedRow}

-- ---- the points and the values

-- the point of position i: the lowest one and i times the pitch
abbrev pub point_at : (lowest pitch : ℤ) (i : ℕ) → ℤ
point_at lowest pitch i = lowest +ℤ (pos i *ℤ pitch)

-- the value measured there; 0 past the last, which is in range, and which no pair has
abbrev pub measured_at : (values : List ℤ) (i : ℕ) → ℤ
measured_at vs i = get_or vs i (pos 0)

-- ---- the pairs

-- 0 to n − 1, lowest first
unfoldable pub positions : ℕ → List ℕ
positions zero = []
positions (suc n) = positions n ++ (n ∷ [])

-- whether the values at i and i + 1 have a zero or negative product
abbrev pub crosses_at : (values : List ℤ) (i : ℕ) → Bool
crosses_at vs i = opposed (measured_at vs i) (measured_at vs (i + 1))

-- the positions of such pairs, among all neighbouring pairs, of which there is one fewer than of values
abbrev pub crossings_of : (values : List ℤ) → List ℕ
crossings_of vs = filter (crosses_at vs) (positions (length vs - 1))

-- the lower points of pairs at these positions; a point is not negative where this is used
abbrev pub lower_points : (lowest pitch : ℤ) (crossings : List ℕ) → List ℕ
lower_points lowest pitch is = map (λ i. nat_abs (point_at lowest pitch i)) is

-- ---- the refusals

-- fewer than 2 or more than 600 values, a pitch below 1, or a point out of range
abbrev pub misplaced_survey : ℕ
misplaced_survey = 21

-- the list is shorter than the pairs found
abbrev pub list_too_short : ℕ
list_too_short = 22

-- whether a survey of n values is misplaced
unfoldable pub is_misplaced : (lowest pitch : ℤ) (n : ℕ) → Bool
is_misplaced lowest pitch n =
    ltb n 2 || (ltb 600 n || (lt_z pitch (pos 1) || some_below n (λ i. outside 0 highest (point_at lowest pitch i))))

-- the first position of a value out of range; the number of values where there is none
unfoldable pub large_at : (values : List ℤ) → ℕ
large_at vs = first_below (length vs) (λ i. too_large (measured_at vs i))

-- ---- the survey, with a list of `room` places lent

unfoldable pub surveyed_of : (lowest pitch : ℤ) (values : List ℤ) (room : ℕ) → Result ℕ Refusal
surveyed_of lowest pitch vs room =
    cond (is_misplaced lowest pitch (length vs)) (Err (refusal misplaced_survey 0))
    (cond (ltb (large_at vs) (length vs)) (Err (refusal value_out_of_range (large_at vs)))
    (cond (ltb room (length (crossings_of vs))) (Err (refusal list_too_short 0))
    (Ok (length (crossings_of vs)))))

-- the list afterwards: the lower points, and then the rest as it was. A refusal leaves the list whole
abbrev pub filled_by : Result ℕ Refusal → (points list : List ℕ) → List ℕ
filled_by (Ok n) points list = points ++ drop n list
filled_by (Err r) points list = list

unfoldable pub list_of : (lowest pitch : ℤ) (values : List ℤ) (list : List ℕ) → List ℕ
list_of lowest pitch vs list = filled_by (surveyed_of lowest pitch vs (length list)) (lower_points lowest pitch (crossings_of vs)) list

-- ---- what is told as plain numbers

abbrev pub surveyed_row_of : Result ℕ Refusal → SurveyedRow
surveyed_row_of (Ok n) = record { kind = surveyed_kind; pairs = n; number = 0; place = 0 }
surveyed_row_of (Err r) = record { kind = refused_kind; pairs = 0; number = r.number; place = r.place }
