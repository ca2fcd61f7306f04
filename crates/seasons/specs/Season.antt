-- The season report, request 2026-10: for each method plain counts, sums and maxima over the outcomes of a run.
-- Assumes nothing.
use Rattle.std.specs.Prelude.{ℕ, ◌+◌, ◌*◌, ◌%◌, min, max, Bool, cond, not, ◌||◌, List, [], ◌∷◌, map, ltb, eqb, length, replicate, Result, Ok, Err}
use Rattle.rules.specs.declared.Refusal.{Refusal}
use Rattle.rules.specs.Refusals.{refusal}
use Rattle.rules.specs.Rows.{refused_kind, season_kind}
use Rattle.seasons.specs.declared.Outcome.{Outcome}
use Rattle.seasons.specs.declared.Tally.{Tally}
use Rattle.seasons.specs.declared.Season.{Season}
use Rattle.seasons.specs.declared.SeasonRow.{SeasonRow}

-- ---- the outcomes of a run

-- four numbers in a row are an outcome; fewer than four are none
unfoldable pub outcomes_of : List ℕ → List Outcome
outcomes_of [] = []
outcomes_of (a ∷ []) = []
outcomes_of (a ∷ b ∷ []) = []
outcomes_of (a ∷ b ∷ c ∷ []) = []
outcomes_of (a ∷ b ∷ c ∷ d ∷ ns) = record { kind = a; method = b; answers = c; quoted = d } ∷ outcomes_of ns

-- 0 stopped, 1 unfinished, any other refused
abbrev pub stopped_outcome : ℕ
stopped_outcome = 0

abbrev pub unfinished_outcome : ℕ
unfinished_outcome = 1

abbrev pub has_stopped : Outcome → Bool
has_stopped o = eqb o.kind stopped_outcome

abbrev pub is_unfinished : Outcome → Bool
is_unfinished o = eqb o.kind unfinished_outcome

abbrev pub not_refused : Outcome → Bool
not_refused o = has_stopped o || is_unfinished o

abbrev pub was_refused : Outcome → Bool
was_refused o = not (not_refused o)

-- booked under the method number that it carries: 0, 1, 2, or as other
abbrev pub other : ℕ
other = 3

abbrev pub booked_as : Outcome → ℕ
booked_as o = min o.method other

-- ---- lists

-- those that pass a test, in their order
unfoldable pub filter : (Outcome → Bool) → List Outcome → List Outcome
filter test [] = []
filter test (o ∷ os) = cond (test o) (o ∷ filter test os) (filter test os)

unfoldable pub sum : List ℕ → ℕ
sum [] = 0
sum (n ∷ ns) = n + sum ns

-- 0 for none
unfoldable pub maximum : List ℕ → ℕ
maximum [] = 0
maximum (n ∷ ns) = max n (maximum ns)

-- ---- the tally of some outcomes: their number of each kind, and of those not refused the sums and the maximum

unfoldable pub tally_of : List Outcome → Tally
tally_of os =
    record {
      stopped = length (filter has_stopped os);
      unfinished = length (filter is_unfinished os);
      refused = length (filter was_refused os);
      answers = sum (map (λ o. o.answers) (filter not_refused os));
      quoted = sum (map (λ o. o.quoted) (filter not_refused os));
      largest = maximum (map (λ o. o.answers) (filter not_refused os));
    }

-- ---- the report

-- the outcomes booked under k
abbrev pub booked_under : ℕ → List Outcome → List Outcome
booked_under k os = filter (λ o. eqb (booked_as o) k) os

-- a tally for each method
unfoldable pub tallies_of : List Outcome → List Tally
tallies_of os = tally_of (booked_under 0 os) ∷ tally_of (booked_under 1 os) ∷ tally_of (booked_under 2 os) ∷ tally_of (booked_under other os) ∷ []

abbrev pub most_outcomes : ℕ
most_outcomes = 10000

-- 19: more than 10,000 outcomes or numbers not in whole fours; its place
abbrev pub misshapen_run : ℕ
misshapen_run = 19

abbrev pub whole_run : ℕ
whole_run = 0

-- of a run of n numbers: nothing else of it is looked at before
unfoldable pub misshapen : ℕ → Bool
misshapen n = ltb (4 * most_outcomes) n || not (eqb (n % 4) 0)

abbrev pub no_tally : Tally
no_tally = record { stopped = 0; unfinished = 0; refused = 0; answers = 0; quoted = 0; largest = 0 }

abbrev pub refused_season : Season
refused_season = record { counted = Err (refusal misshapen_run whole_run); tallies = replicate 4 no_tally }

abbrev pub season_on : List Outcome → Season
season_on os = record { counted = Ok (length os); tallies = tallies_of os }

unfoldable pub season_of : List ℕ → Season
season_of ns = cond (misshapen (length ns)) refused_season (season_on (outcomes_of ns))

-- ---- the report as plain numbers, for C

abbrev pub season_row_by : Result ℕ Refusal → List Tally → SeasonRow
season_row_by (Ok count) ts = record { kind = season_kind; outcomes = count; number = 0; place = 0; tallies = ts }
season_row_by (Err r) ts = record { kind = refused_kind; outcomes = 0; number = r.number; place = r.place; tallies = ts }

abbrev pub season_row_of : Season → SeasonRow
season_row_of s = season_row_by s.counted s.tallies
