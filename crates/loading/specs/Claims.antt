-- The claims on trial loads, request 2026-11. Nothing is proved here: ClaimsHold has the proofs. The contract of `load::load` cites `EveryLoad`.
-- Assumes nothing.
use Rattle.std.specs.Prelude.{ℕ, suc, ◌≤◌, ◌<◌, ◌≡◌, true, not, pos, Ok}
use Rattle.integers.specs.Digits.{Least}
use Rattle.rules.specs.declared.Report.{Report}
use Rattle.rules.specs.Search.{is_refusal, t_of, most_of, quote_of}
use Rattle.held.specs.Held.{values_of, held_report, open_of, enter_of}
use Rattle.outcomes.specs.Sheet.{sheet_of}
use Rattle.clean_sheets.specs.Clean.{clean_of}
use Rattle.loading.specs.Loading.{draw_of, load_opening, load_value, load_values, stopped_after, values_drawn, load_part, held_part, is_seed, load_of}

-- ---- words of the claims

-- a report that the search has stopped, after n answers
pub record Stopped (n : ℕ) (r : Report) : Type 0 where
  pub lower : ℕ
  pub upper : ℕ
  pub better : ℕ
  pub told : r ≡ Report.Stop lower upper better n

-- after n values a point is called for, and the next value, entered there, is accepted and leads to the first n + 1
pub record GoesOn (seed n : ℕ) : Type 0 where
  pub point : ℕ
  pub called : held_report (load_part seed n) ≡ Report.Next point n
  pub entered : enter_of (load_part seed n) (pos point) (load_value seed n) ≡ held_part seed (suc n)

-- ---- of every load

pub record Load (seed : ℕ) : Type 0 where
  -- values are drawn until the search stops: their number is the least after which it has stopped
  pub until : Least (λ n. stopped_after seed n ≡ true) (values_drawn seed)
  -- the load is that held search: it holds the opening and these values
  pub opening : (load_of seed).search.opening ≡ load_opening seed
  pub count : (load_of seed).search.count ≡ values_drawn seed
  pub values : values_of (load_of seed).search ≡ load_values seed (values_drawn seed)
  -- it is what a host comes to that opens a fresh search, and enters each value at the point called for: every answer is accepted
  pub fresh : open_of (load_opening seed) ≡ held_part seed 0
  pub goes : (n : ℕ) → n < values_drawn seed → GoesOn seed n
  pub ends : load_of seed ≡ held_part seed (values_drawn seed)
  -- it is accepted, and has stopped
  pub stopped : Stopped (values_drawn seed) (load_of seed).report
  -- within the quoted number of answers
  pub quoted : quote_of (load_opening seed) ≡ Ok (record { t = t_of (load_opening seed); most = most_of (load_opening seed) })
  pub within : values_drawn seed ≤ most_of (load_opening seed)
  -- its clean sheet is read as the load
  pub sheet : sheet_of (clean_of (load_of seed).search) ≡ load_of seed

pub record EveryLoad : Type 0 where
  -- a seed is refused where it is not 1 to 2,147,483,646, and nowhere else
  pub refused : (seed : ℕ) → is_refusal (load_of seed).report ≡ not (is_seed seed)
  pub each : (seed : ℕ) → is_seed seed ≡ true → Load seed
  -- the draws stay in the range of the seeds
  pub draws : (seed n : ℕ) → is_seed seed ≡ true → is_seed (draw_of seed n) ≡ true
