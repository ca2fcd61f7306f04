-- A run of calls to a dispatcher written down in lists, and what `make_calls` promises of it, in the words of the claim about whole runs.
-- Assumes nothing.
use Rattle.std.specs.Prelude.{ℕ, zero, suc, ◌+◌, ◌≡◌, List, [], ◌∷◌, ℤ}
use Rattle.rules.specs.Rows.{written_over}
use Rattle.dispatching.specs.declared.Dispatcher.{Dispatcher}
use Rattle.dispatching.specs.Calls.{Call, dispatcher_after, reports_of}
use Rattle.dispatching.specs.Run.{DispatcherRun}
use Rattle.dispatch_calls.specs.Listed.{call_at, how_many}

-- ---- the calls

-- n calls, from place i on
unfoldable pub calls_from : List ℕ → List ℕ → List ℤ → ℕ → ℕ → List Call
calls_from ks ds xs i zero = []
calls_from ks ds xs i (suc n) = call_at ks ds xs i ∷ calls_from ks ds xs (i + 1) n

-- all of them
abbrev pub calls_in : List ℕ → List ℕ → List ℤ → List ℕ → List Call
calls_in ks ds xs list = calls_from ks ds xs 0 (how_many ks ds xs list)

-- ---- what is promised

-- r is what `make_calls` returns, and the lent list, which held `before`, holds `after`. All that is claimed of runs is true of this one
pub record DispatcherRuns (d : Dispatcher) (ks ds : List ℕ) (xs : List ℤ) (before : List ℕ) (r : Dispatcher) (after : List ℕ) : Type 0 where
  pub left : r ≡ dispatcher_after d (calls_in ks ds xs before)
  pub written : after ≡ written_over (reports_of d (calls_in ks ds xs before)) before
  pub run : DispatcherRun d (calls_in ks ds xs before)
