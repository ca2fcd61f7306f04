-- What the contracts of inner functions cite beside the definitions: the outcome at a place of a run, and how small a tally is. Nothing here need
-- be believed.
-- Assumes nothing.
use Rattle.std.specs.Prelude.{ℕ, ◌+◌, ◌*◌, ◌≤◌, List, get_or}
use Rattle.seasons.specs.declared.Outcome.{Outcome}
use Rattle.seasons.specs.declared.Tally.{Tally}

abbrev pub outcome_at : List ℕ → ℕ → Outcome
outcome_at ns i =
    record { kind = get_or ns (4 * i) 0; method = get_or ns (4 * i + 1) 0; answers = get_or ns (4 * i + 2) 0; quoted = get_or ns (4 * i + 3) 0 }

-- a number of 16 bits
abbrev pub largest_number : ℕ
largest_number = 65535

-- a tally of at most n outcomes
pub record Bounded (t : Tally) (n : ℕ) : Type 0 where
  pub stopped : t.stopped ≤ n
  pub unfinished : t.unfinished ≤ n
  pub refused : t.refused ≤ n
  pub answers : t.answers ≤ largest_number * n
  pub quoted : t.quoted ≤ largest_number * n
  pub largest : t.largest ≤ largest_number
