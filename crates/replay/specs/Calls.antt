-- The contract of the inner function of `replay`: all the calls, from any search.
-- Assumes nothing.
use Rattle.std.specs.Prelude.{ℕ, ◌≡◌, List, ℤ, pos, get_or}
use Rattle.rules.specs.Rows.{written_over}
use Rattle.held.specs.declared.Search.{Search}
use Rattle.journal.specs.Run.{Call, reports_of, search_after}
use Rattle.replay.specs.Replay.{call_with, calls_in}

-- the call at a place of the lists
abbrev pub call_at : List ℕ → List ℤ → List ℤ → ℕ → Call
call_at ks xs vs i = call_with (get_or ks i 0) (record { point = get_or xs i (pos 0); value = get_or vs i (pos 0) })

-- all of them, each to the search that the one before returned or left
pub record CallsMade (s : Search) (ks : List ℕ) (xs vs : List ℤ) (before : List ℕ) (r : Search) (after : List ℕ) : Type 0 where
  pub left : r ≡ search_after s (calls_in ks xs vs before)
  pub written : after ≡ written_over (reports_of s (calls_in ks xs vs before)) before
