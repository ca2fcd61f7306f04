-- The claims on surveys, request 2026-12. Nothing is proved here: ClaimsHold has the proofs. The contract of `survey::survey` cites `EverySurvey`.
-- Assumes nothing.
use Rattle.std.specs.Prelude.{ℕ, ◌+◌, ◌≤◌, ◌<◌, ◌≡◌, true, false, List, [], ◌∷◌, ℤ, pos, ◌*ℤ◌, length, get_or, Ok, Err}
use Rattle.std.specs.Int.Signed.{le_z, lt_z}
use Rattle.integers.specs.Digits.{Least}
use Rattle.rules.specs.declared.Opening.{Opening}
use Rattle.rules.specs.declared.Refusal.{Refusal}
use Rattle.rules.specs.Rules.{highest, largest_tolerance}
use Rattle.rules.specs.Refusals.{refusal, outside, too_large, value_out_of_range}
use Rattle.rules.specs.Search.{is_refusal, report_of}
use Rattle.surveying.specs.Survey.{point_at, measured_at, misplaced_survey, list_too_short, surveyed_of, list_of}

-- ---- words of the claims

-- 2 to 600 values, a pitch of 1 or more, and every point in range
pub record Surveyable (lowest pitch : ℤ) (n : ℕ) : Type 0 where
  pub enough : 2 ≤ n
  pub few : n ≤ 600
  pub onward : lt_z pitch (pos 1) ≡ false
  pub in_range : (i : ℕ) → i < n → outside 0 highest (point_at lowest pitch i) ≡ false

-- the values at i and i + 1 have a zero or negative product
pub record PairAt (values : List ℤ) (i : ℕ) : Type 0 where
  pub neighbour : i + 1 < length values
  pub product : le_z (measured_at values i *ℤ measured_at values (i + 1)) (pos 0) ≡ true

-- the lower point of such a pair
pub record LowerPoint (lowest pitch : ℤ) (values : List ℤ) (point : ℕ) : Type 0 where
  pub position : ℕ
  pub pair : PairAt values position
  pub lower : pos point ≡ point_at lowest pitch position

-- z is among the first n of a list
pub record Among (list : List ℕ) (n : ℕ) (z : ℤ) : Type 0 where
  pub index : ℕ
  pub below : index < n
  pub there : pos (get_or list index 0) ≡ z

-- a search from one point to another; p is 0
abbrev pub pair_opening : (x0 x1 : ℤ) (method tolerance : ℕ) → Opening
pair_opening x0 x1 method tolerance = record { method = pos method; first = x0; second = x1; tolerance = pos tolerance; share = pos 0 }

-- ---- of a survey that found n pairs, with `list` lent, which is now `after`

pub record PairsFound (lowest pitch : ℤ) (values : List ℤ) (list after : List ℕ) (n : ℕ) : Type 0 where
  -- each such pair appears, by its lower point
  pub each : (i : ℕ) → PairAt values i → Among after n (point_at lowest pitch i)
  -- none other does
  pub none_other : (j : ℕ) → j < n → LowerPoint lowest pitch values (get_or after j 0)
  -- lowest first
  pub ascending : (j k : ℕ) → j < k → k < n → get_or after j 0 < get_or after k 0
  -- they have room, and the rest of the list keeps its contents
  pub fits : n ≤ length list
  pub rest : (j : ℕ) → n ≤ j → get_or after j 0 ≡ get_or list j 0
  pub size : length after ≡ length list
  -- a zero between two neighbours gives two pairs
  pub zero_twice : (i : ℕ) → i + 2 < length values → measured_at values (i + 1) ≡ pos 0
      → Among after n (point_at lowest pitch i) × Among after n (point_at lowest pitch (i + 1))
  -- each pair, lower point first, opens a search that accepts its two values, by any method and with any tolerance within limits
  pub opens : (i : ℕ) → PairAt values i → (method tolerance : ℕ) → method ≤ 2 → 1 ≤ tolerance → tolerance ≤ largest_tolerance
      → is_refusal (report_of (pair_opening (point_at lowest pitch i) (point_at lowest pitch (i + 1)) method tolerance)
      (measured_at values i ∷ measured_at values (i + 1) ∷ []))
      ≡ false

-- ---- of a survey in which nothing is wrong: the number of its pairs is told where the list has room for them, and 22 where it has not

pub record PairsCounted (lowest pitch : ℤ) (values : List ℤ) : Type 0 where
  pub number : ℕ
  -- one fewer than there are values, at most
  pub few : number < length values
  pub told : (room : ℕ) → number ≤ room → surveyed_of lowest pitch values room ≡ Ok number
  pub short : (room : ℕ) → room < number → surveyed_of lowest pitch values room ≡ Err (refusal list_too_short 0)

-- ---- of every survey

pub record EverySurvey : Type 0 where
  -- first 21; then 7, of the first value out of range; and where neither applies, the pairs or 22
  pub misplaced : (lowest pitch : ℤ) (values : List ℤ) (room : ℕ) → ¬ Surveyable lowest pitch (length values)
      → surveyed_of lowest pitch values room ≡ Err (refusal misplaced_survey 0)
  pub large : (lowest pitch : ℤ) (values : List ℤ) (room i : ℕ) → Surveyable lowest pitch (length values)
      → Least (λ k. too_large (measured_at values k) ≡ true) i → surveyed_of lowest pitch values room ≡ Err (refusal value_out_of_range i)
  pub counted : (lowest pitch : ℤ) (values : List ℤ) → Surveyable lowest pitch (length values)
      → ((i : ℕ) → too_large (measured_at values i) ≡ false) → PairsCounted lowest pitch values
  -- a refusal leaves the list whole
  pub kept : (lowest pitch : ℤ) (values : List ℤ) (list : List ℕ) (r : Refusal)
      → surveyed_of lowest pitch values (length list) ≡ Err r → list_of lowest pitch values list ≡ list
  pub found : (lowest pitch : ℤ) (values : List ℤ) (list : List ℕ) (n : ℕ) → surveyed_of lowest pitch values (length list) ≡ Ok n
      → PairsFound lowest pitch values list (list_of lowest pitch values list) n
