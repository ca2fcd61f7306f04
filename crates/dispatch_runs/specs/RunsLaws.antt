-- The laws of a dispatcher's run written down in lists: its calls one by one, and what the loop keeps, which is what `RowsLaws` of crate `rules`
-- keeps of any run.
-- Assumes nothing.
use Prim.Native.Nat.{ℕ, zero, suc, ◌+◌, ◌≤◌, ◌<◌}
use Rattle.std.specs.Prelude.{◌≡◌, List, ◌∷◌, ℤ, length, drop}
use Rattle.std.proofs.Math.Path.{refl, ap}
use native.Mathlib.Omega.{arith}
use Rattle.rules.proofs.RowsLaws.{InTurn}
use Rattle.rules.proofs.RowsLaws as Rows
use Rattle.dispatching.specs.declared.Dispatcher.{Dispatcher}
use Rattle.dispatching.specs.Dispatching.{dryers}
use Rattle.dispatching.specs.Calls.{Call, call_of, dispatcher_after, reports_of}
use Rattle.dispatching.proofs.RunHolds.{run}
use Rattle.dispatch_calls.specs.Listed.{call_at, how_many, Before, CallMade}
use Rattle.dispatch_runs.specs.Runs.{calls_from, calls_in, DispatcherRuns}

-- ---- the calls one by one

module _ (ks ds : List ℕ) (xs : List ℤ) where
  calls_number : (i n : ℕ) → length (calls_from ks ds xs i n) ≡ n
  unfolding calls_from
  calls_number i zero = refl
  calls_number i (suc n) = ap suc (calls_number (i + 1) n)

  -- the one at a place
  calls_drop : (at n i : ℕ) → i < n → drop i (calls_from ks ds xs at n) ≡ call_at ks ds xs (at + i) ∷ drop (i + 1) (calls_from ks ds xs at n)
  unfolding calls_from
  calls_drop at zero i h = absurd (omega arith)
  calls_drop at (suc n) zero h = let e : at + 0 ≡ at = omega arith in rw e
  calls_drop at (suc n) (suc i) h =
      let e : suc i + 1 ≡ suc (i + 1) = omega arith in
      let f : at + suc i ≡ (at + 1) + i = omega arith in
      rw (e, f) (calls_drop (at + 1) n i (omega arith))

-- ---- the run so far

-- calls made in turn to a dispatcher
pub dispatchers : InTurn Dispatcher Call
unfolding dispatcher_after reports_of
dispatchers =
    record {
      told = λ d c. (call_of d c).report;
      next = λ d c. (call_of d c).dispatcher;
      after = dispatcher_after;
      reports = reports_of;
      after_none = λ d. refl;
      after_one = λ d c calls. refl;
      reports_none = λ d. refl;
      reports_one = λ d c calls. refl;
    }

-- i of the calls, of the lists and from d₀ on, have led to the dispatcher d and the list `after`
abbrev pub Made : Dispatcher → List ℕ → List ℕ → List ℤ → List ℕ → ℕ → Dispatcher → List ℕ → Type 0
Made d₀ ks ds xs before = Rows.Made dispatchers d₀ (calls_in ks ds xs before) before

module _ (d₀ : Dispatcher) (ks ds : List ℕ) (xs : List ℤ) (before : List ℕ) where
  abbrev calls : List Call
  calls = calls_in ks ds xs before

  pub made_none : Made d₀ ks ds xs before 0 d₀ before
  made_none = Rows.made_none dispatchers d₀ calls before

  -- of m calls, which are all
  module _ {i m : ℕ} {d : Dispatcher} {list : List ℕ} (made : Made d₀ ks ds xs before i d list) (number : m ≡ how_many ks ds xs before) where
    pub one_before : i < m → Before i ks ds xs list
    one_before h = record { kind = omega arith; dryer = omega arith; numbers = omega arith; room = omega (arith, made.same) }

    pub made_more : i < m → {r : Dispatcher} {after : List ℕ} → CallMade i d ks ds xs list r after → Made d₀ ks ds xs before (i + 1) r after
    unfolding dispatchers
    made_more h one =
        let here : 0 + i ≡ i = omega arith in
        Rows.made_more dispatchers d₀ calls before made (call_at ks ds xs i) (rw here at (calls_drop ks ds xs 0 (how_many ks ds xs before) i (omega arith)))
        one.left one.written

    pub made_all : length d₀.searches ≡ dryers → length d₀.counts ≡ dryers → m ≤ i → DispatcherRuns d₀ ks ds xs before d list
    unfolding dispatchers
    made_all six six_counts h =
        let count = calls_number ks ds xs 0 (how_many ks ds xs before) in
        let all = Rows.made_all dispatchers d₀ calls before made (omega (arith, count)) (omega (arith, count)) in
        record {
          left = all.0;
          written = all.1;
          run = run d₀ six six_counts calls;
        }
