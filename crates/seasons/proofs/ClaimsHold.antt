-- The claim on every season holds.
-- Assumes nothing.
use Rattle.std.specs.Prelude.{ℕ, zero, suc, ◌+◌, ◌/◌, ◌≤◌, ◌<◌, ◌≡◌, refl, Bool, not, ◌||◌, eqb, get_or, set, Ok}
use Rattle.std.proofs.Common.{sym, ap, ap₂, ◌∙◌, eqb-true, length-append}
use Rattle.std.proofs.Math.Bool.{true, false, cond}
use mathlib.Core.List.{List, [], ◌∷◌, ◌++◌, map, zip_with}
use native.Mathlib.Omega.{arith}
use Rattle.std.proofs.lemmas.Bool.{eqb-false}
use Rattle.std.proofs.Math.ListN.{length}
use Rattle.integers.proofs.SignsLaws.{never}
use Rattle.seasons.specs.declared.Outcome.{Outcome}
use Rattle.seasons.specs.declared.Tally.{Tally}
use Rattle.seasons.specs.declared.Season.{Season}
use Rattle.seasons.specs.Season.{outcomes_of, has_stopped, is_unfinished, was_refused, other, booked_as, filter, sum, tally_of, booked_under, tallies_of}
use Rattle.seasons.specs.Season.{misshapen, no_tally, refused_season, season_on, season_of}
use Rattle.seasons.specs.Claims.{written, Reordered, added, one_more_refused, counted_in, Together, EverySeason}
use Rattle.seasons.proofs.ListLaws.{taken_out, length_reordered}
use Rattle.seasons.proofs.SeasonLaws.{tally_append, tallies_append, tallies_reordered, tallies_more}
use Rattle.seasons.proofs.RunLaws.{run_whole, run_read, written_length, outcomes_length, outcomes_append, one_refused, Shaped, shaped, misshapen_not}
use Rattle.seasons.proofs.RunLaws.{season_counted}

-- ---- the order does not matter

-- the report, by the number of the run's numbers and its outcomes
abbrev report_by : ℕ → Season → Season
report_by n s = cond (misshapen n) refused_season s

any_order : (os ps : List Outcome) → Reordered os ps → season_of (written os) ≡ season_of (written ps)
unfolding season_of
any_order os ps r =
    ap₂ report_by same_length (ap season_on (run_read os) ∙ same_report ∙ sym (ap season_on (run_read ps)))
  where
    same_length : length (written os) ≡ length (written ps)
    same_length = omega (arith, written_length os, written_length ps, length_reordered r)

    same_report : season_on os ≡ season_on ps
    same_report = rw (length_reordered r, tallies_reordered r)

-- ---- a refused outcome

refused_kind : (o : Outcome) → was_refused o ≡ true → 1 < o.kind
refused_kind o e = go (has_stopped o) (is_unfinished o) refl refl e
  where
    go : (a b : Bool) → has_stopped o ≡ a → is_unfinished o ≡ b → not (a || b) ≡ true → 1 < o.kind
    go true b f g h = never (sym h)
    go false true f g h = never (sym h)
    go false false f g h = omega (arith, eqb-false o.kind 0 f, eqb-false o.kind 1 g)

refused_only : (os ps : List Outcome) (o : Outcome) → was_refused o ≡ true
    → tallies_of (os ++ (o ∷ ps)) ≡ set (tallies_of (os ++ ps)) (booked_as o) (one_more_refused (get_or (tallies_of (os ++ ps)) (booked_as o) no_tally))
refused_only os ps o e =
    tallies_reordered (taken_out os ps o)
    ∙ tallies_more (os ++ ps) o
    ∙ ap (λ (t : Tally). set (tallies_of (os ++ ps)) (booked_as o) (added (get_or (tallies_of (os ++ ps)) (booked_as o) no_tally) t))
    (one_refused o (refused_kind o e))

-- ---- two runs one after the other

adds_up : (ns ms : List ℕ) → misshapen (length ns) ≡ false → misshapen (length ms) ≡ false → Together ns ms
    → season_of (ns ++ ms)
    ≡ record {
      counted = Ok (length ns / 4 + length ms / 4);
      tallies = zip_with added (season_of ns).tallies (season_of ms).tallies;
    }
adds_up ns ms e f h =
    season_counted (ns ++ ms) (misshapen_not (length (ns ++ ms)) joined)
    ∙ ap₂ (λ (n : ℕ) (ts : List Tally). record { counted = Ok n; tallies = ts }) counts tallies
  where
    both : length (ns ++ ms) ≡ length ns + length ms
    both = length-append ns ms

    joined : Shaped (length (ns ++ ms))
    joined = record { few = omega (arith, both); fours = omega (arith, both, (shaped (length ns) e).fours, (shaped (length ms) f).fours) }

    counts : length (outcomes_of (ns ++ ms)) ≡ length ns / 4 + length ms / 4
    counts = omega (arith, outcomes_length (ns ++ ms), both, (shaped (length ns) e).fours)

    tallies : tallies_of (outcomes_of (ns ++ ms)) ≡ zip_with added (season_of ns).tallies (season_of ms).tallies
    tallies =
        ap tallies_of (outcomes_append ns ms (shaped (length ns) e).fours)
        ∙ tallies_append (outcomes_of ns) (outcomes_of ms)
        ∙ sym (rw (season_counted ns e, season_counted ms f))

-- ---- every outcome is booked, and once

one_counted : (o : Outcome) → counted_in (tally_of (o ∷ [])) ≡ 1
unfolding tally_of filter
one_counted o = go (has_stopped o) (is_unfinished o) refl refl
  where
    go : (a b : Bool) → has_stopped o ≡ a → is_unfinished o ≡ b
        → length (cond a (o ∷ []) []) + length (cond b (o ∷ []) []) + length (cond (not (a || b)) (o ∷ []) []) ≡ 1
    go true true f g = absurd (omega (arith, eqb-true o.kind 0 f, eqb-true o.kind 1 g))
    go true false f g = refl
    go false true f g = refl
    go false false f g = refl

-- a tally counts all its outcomes
all_counted : (os : List Outcome) → counted_in (tally_of os) ≡ length os
unfolding tally_of filter
all_counted [] = refl
all_counted (o ∷ os) = ap counted_in (tally_append (o ∷ []) os) ∙ omega (arith, one_counted o, all_counted os)

-- one outcome is booked once
once : (b : ℕ) → b ≤ other → cond (eqb b 0) 1 0 + cond (eqb b 1) 1 0 + cond (eqb b 2) 1 0 + cond (eqb b other) 1 0 ≡ 1
once zero h = refl
once (suc zero) h = refl
once (suc (suc zero)) h = refl
once (suc (suc (suc zero))) h = refl
once (suc (suc (suc (suc b)))) h = absurd (omega arith)

module _ (o : Outcome) (os : List Outcome) where
  booked_first : (k : ℕ) → length (booked_under k (o ∷ os)) ≡ cond (eqb (booked_as o) k) 1 0 + length (booked_under k os)
  unfolding filter
  booked_first k = go (eqb (booked_as o) k)
    where
      go : (b : Bool) → length (cond b (o ∷ booked_under k os) (booked_under k os)) ≡ cond b 1 0 + length (booked_under k os)
      go true = omega arith
      go false = omega arith

lengths_add : (os : List Outcome)
    → length (booked_under 0 os) + length (booked_under 1 os) + length (booked_under 2 os) + length (booked_under other os) ≡ length os
unfolding filter
lengths_add [] = refl
lengths_add (o ∷ os) =
    omega (
      arith,
      booked_first o os 0,
      booked_first o os 1,
      booked_first o os 2,
      booked_first o os other,
      once (booked_as o) (omega arith),
      lengths_add os,
    )

all_booked : (os : List Outcome) → sum (map counted_in (tallies_of os)) ≡ length os
unfolding tallies_of sum
all_booked os =
    omega (
      arith,
      all_counted (booked_under 0 os),
      all_counted (booked_under 1 os),
      all_counted (booked_under 2 os),
      all_counted (booked_under other os),
      lengths_add os,
    )

pub every_season : EverySeason
every_season =
    record {
      whole = run_whole;
      read_again = run_read;
      any_order = any_order;
      refused_only = refused_only;
      adds_up = adds_up;
      all_booked = all_booked;
    }
