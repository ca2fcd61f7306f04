-- The claims on season reports, request 2026-10: on every list of outcomes, and on the outcome of every sheet. Nothing is proved here: ClaimsHold
-- and SheetsHold have the proofs. The contract of `season::season` cites the first, that of `sheet_outcomes::sheet_outcome` the second.
-- Assumes nothing.
use Rattle.std.specs.Prelude.{ℕ, ◌+◌, ◌*◌, ◌/◌, ◌%◌, ◌≤◌, max, ◌≡◌, true, false, pos, length, get_or, set, Ok}
use mathlib.Core.List.{List, [], ◌∷◌, ◌++◌, map, zip_with}
use Rattle.rules.specs.Rules.{slots}
use Rattle.rules.specs.Search.{is_refusal, t_of, quote_of}
use Rattle.outcomes.specs.Sheet.{sheet_of}
use Rattle.clean_sheets.specs.Clean.{rewritten_of}
use Rattle.seasons.specs.declared.Outcome.{Outcome}
use Rattle.seasons.specs.declared.Tally.{Tally}
use Rattle.seasons.specs.Season.{outcomes_of, was_refused, other, booked_as, sum, tally_of, booked_under, tallies_of}
use Rattle.seasons.specs.Season.{most_outcomes, misshapen, no_tally, season_of}
use Rattle.seasons.specs.Sheets.{sheet_outcome}

-- ---- words of the claims

-- the numbers of outcomes, one after the other
abbrev pub written : List Outcome → List ℕ
written [] = []
written (o ∷ os) = o.kind ∷ o.method ∷ o.answers ∷ o.quoted ∷ written os

-- the same in another order: neighbours change places, anywhere and any number of times
pub data Reordered {A : Type 0} : List A → List A → Type 0 where
  none : Reordered [] []
  behind : {a : A} {xs ys : List A} → Reordered xs ys → Reordered (a ∷ xs) (a ∷ ys)
  swapped : {a b : A} {xs : List A} → Reordered (a ∷ b ∷ xs) (b ∷ a ∷ xs)
  again : {xs ys zs : List A} → Reordered xs ys → Reordered ys zs → Reordered xs zs

-- two tallies added up; the largest is the larger of the two
abbrev pub added : Tally → Tally → Tally
added s t =
    record {
      stopped = s.stopped + t.stopped;
      unfinished = s.unfinished + t.unfinished;
      refused = s.refused + t.refused;
      answers = s.answers + t.answers;
      quoted = s.quoted + t.quoted;
      largest = max s.largest t.largest;
    }

-- the same tally but for one more refused
abbrev pub one_more_refused : Tally → Tally
one_more_refused t = added t (record { stopped = 0; unfinished = 0; refused = 1; answers = 0; quoted = 0; largest = 0 })

-- how many outcomes a tally counts
abbrev pub counted_in : Tally → ℕ
counted_in t = t.stopped + t.unfinished + t.refused

-- two runs that are no more than 10,000 outcomes together
abbrev pub Together : List ℕ → List ℕ → Type 0
Together ns ms = length ns + length ms ≤ 4 * most_outcomes

-- ---- of every season

pub record EverySeason : Type 0 where
  -- a run in whole fours is the numbers of its outcomes, and every list of outcomes has such a run
  pub whole : (ns : List ℕ) → length ns % 4 ≡ 0 → written (outcomes_of ns) ≡ ns
  pub read_again : (os : List Outcome) → outcomes_of (written os) ≡ os
  -- the order does not matter
  pub any_order : (os ps : List Outcome) → Reordered os ps → season_of (written os) ≡ season_of (written ps)
  -- a refused outcome, wherever it stands, adds to its own count and to nothing else
  pub refused_only : (os ps : List Outcome) (o : Outcome) → was_refused o ≡ true
      → tallies_of (os ++ (o ∷ ps))
      ≡ set (tallies_of (os ++ ps)) (booked_as o) (one_more_refused (get_or (tallies_of (os ++ ps)) (booked_as o) no_tally))
  -- two runs one after the other add up, within the limit
  pub adds_up : (ns ms : List ℕ) → misshapen (length ns) ≡ false → misshapen (length ms) ≡ false → Together ns ms
      → season_of (ns ++ ms)
      ≡ record {
        counted = Ok (length ns / 4 + length ms / 4);
        tallies = zip_with added (season_of ns).tallies (season_of ms).tallies;
      }
  -- every outcome is booked, and once
  pub all_booked : (os : List Outcome) → sum (map counted_in (tallies_of os)) ≡ length os

-- ---- of every sheet

pub record SheetClaim (text : List ℕ) : Type 0 where
  -- its outcome says refused where its report is a refusal, and nowhere else
  pub refused : was_refused (sheet_outcome text) ≡ is_refusal (sheet_of text).report
  -- it is booked under 0, 1, 2 or as other; no more answers were taken than quoted, and no more quoted than a search has slots
  pub numbered : (sheet_outcome text).method ≤ other
  pub within : (sheet_outcome text).answers ≤ (sheet_outcome text).quoted
  pub few : (sheet_outcome text).quoted ≤ slots
  -- of a sheet that is accepted the method is its opening's, and what is quoted is what was quoted for the opening
  pub method : is_refusal (sheet_of text).report ≡ false → pos (sheet_outcome text).method ≡ (sheet_of text).search.opening.method
  pub quoted : is_refusal (sheet_of text).report ≡ false
      → quote_of (sheet_of text).search.opening ≡ Ok (record { t = t_of (sheet_of text).search.opening; most = (sheet_outcome text).quoted })
  -- its clean sheet has the same outcome
  pub cleaned : is_refusal (sheet_of text).report ≡ false → sheet_outcome (rewritten_of text) ≡ sheet_outcome text

-- the tally of the sheets that are booked under k
abbrev pub sheets_tally : ℕ → List (List ℕ) → Tally
sheets_tally k texts = tally_of (booked_under k (map sheet_outcome texts))

pub record EverySheet : Type 0 where
  pub each : (text : List ℕ) → SheetClaim text
  -- of any number of sheets no method has more answers in all than were quoted in all, and none in one search than a search has slots
  pub totals : (k : ℕ) (texts : List (List ℕ)) → (sheets_tally k texts).answers ≤ (sheets_tally k texts).quoted
  pub largest : (k : ℕ) (texts : List (List ℕ)) → (sheets_tally k texts).largest ≤ slots
