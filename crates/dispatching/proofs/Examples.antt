-- Worked examples of the dispatcher, each by computation.
-- Assumes nothing.
use Rattle.std.specs.Prelude.{ℕ, ◌+◌, ◌≡◌, refl, List, [], ◌∷◌, ◌++◌, Option, Some, None, map, pos, negsuc, take, replicate}
use Rattle.rules.specs.declared.Opening.{Opening}
use Rattle.rules.specs.declared.Report.{Report}
use Rattle.rules.specs.Rules.{slots, stopped_of, start_of, tolerance_at}
use Rattle.rules.specs.Refusals.{opening_refusal, answer_refusal, same_side}
use Rattle.rules.specs.Search.{begin_of, offer_of, take_of, progress_of, bracket_report, report_at, report_of}
use Rattle.held.specs.Held.{fresh_of, reopen_of, standing_of, held_report, enter_of}
use Rattle.dispatching.specs.declared.Dispatcher.{Dispatcher}
use Rattle.dispatching.specs.Dispatching.{fresh_dispatcher, search_at, unfinished, first_from, turn_of, raised, settled_by, opening_at}
use Rattle.dispatching.specs.Dispatching.{answer_at, dryer_report}
use Rattle.dispatching.specs.Calls.{Call, opening, answer, call_of, dispatcher_after, reports_of, servings, servings_in, sum_of, with_counts}
use Rattle.dispatching.specs.Calls.{old_count_after, own_calls, since, history_at}

-- ---- openings, dispatchers and runs

-- an opening of method M from 0 to 100, one from 0 to 1, one with equal ends, and one with a share out of range
abbrev wide : Opening
wide = record { method = pos 1; first = pos 0; second = pos 100; tolerance = pos 1; share = pos 0 }

abbrev narrow : Opening
narrow = record { method = pos 1; first = pos 0; second = pos 1; tolerance = pos 1; share = pos 0 }

abbrev equal : Opening
equal = record { method = pos 1; first = pos 5; second = pos 5; tolerance = pos 1; share = pos 0 }

abbrev refused_share : Opening
refused_share = record { method = pos 1; first = pos 0; second = pos 100; tolerance = pos 1; share = pos 101 }

-- the answer that a fresh search of `wide` calls for, its point and a value of 1
abbrev first : ℕ → Call
first i = answer i (record { point = pos 0; value = pos 1 })

abbrev marked : Dispatcher → ℕ → Dispatcher
marked d n = record { searches = d.searches; last = n; counts = d.counts }

-- whose turn it is after each call of a run
abbrev turns_of : Dispatcher → List Call → List (Option ℕ)
turns_of d [] = []
turns_of d (c ∷ calls) = turn_of (call_of d c).dispatcher ∷ turns_of (call_of d c).dispatcher calls

abbrev D : ℕ → Option ℕ
D = Some

abbrev next : ℕ → ℕ → Report
next = Report.Next

abbrev refuse : ℕ → ℕ → Report
refuse = Report.Refused

-- three dryers are opened
abbrev openings : List Call
openings = opening 4 wide ∷ opening 1 wide ∷ opening 2 wide ∷ []

abbrev three : Dispatcher
three = dispatcher_after fresh_dispatcher openings

-- calls to these three: each in its turn, and mistakes of every kind
abbrev calls : List Call
calls =
    first 4
    ∷ answer 1 (record { point = pos 7; value = pos 1 })
    ∷ first 1
    ∷ first 1
    ∷ opening 1 equal
    ∷ opening 0 equal
    ∷ opening 6 equal
    ∷ first 6
    ∷ first 2
    ∷ opening 0 wide
    ∷ first 4
    ∷ first 0
    ∷ answer 1 (record { point = pos 100; value = pos 1 })
    ∷ []

-- all six have a search, and dryer 0 was served last
abbrev six : Dispatcher
six =
    marked
    (dispatcher_after fresh_dispatcher
    (opening 0 wide ∷ opening 1 wide ∷ opening 2 wide ∷ opening 3 wide ∷ opening 4 wide ∷ opening 5 wide ∷ []))
    0

-- once round

abbrev round : List Call
round = first 1 ∷ first 2 ∷ first 3 ∷ first 4 ∷ first 5 ∷ first 0 ∷ []

-- a search that stops, and what is brought to it then
abbrev later : List Call
later =
    opening 5 narrow
    ∷ answer 5 (record { point = pos 0; value = negsuc 0 })
    ∷ answer 5 (record { point = pos 1; value = pos 2 })
    ∷ opening 5 equal
    ∷ answer 5 (record { point = pos 0; value = pos 0 })
    ∷ opening 5 wide
    ∷ []

-- a host's dispatcher whose searches say that they hold more answers than they have slots
abbrev junk : Dispatcher
junk = record { searches = replicate 6 (record { opening = wide; count = slots + 1; slots = replicate slots (pos 5) }); last = 7; counts = replicate 6 9 }

-- counts of which one is just below the ceiling, one at it and one past it; and counts far below it that add up to one less
abbrev around_ceiling : List ℕ
around_ceiling = 4 ∷ 1000000000 ∷ 999999999 ∷ 0 ∷ 7 ∷ 4294967295 ∷ []

abbrev nearly_together : List ℕ
nearly_together = 4 ∷ 500000000 ∷ 499999988 ∷ 0 ∷ 7 ∷ 0 ∷ []

-- ---- what comes of them

record Worked : Type 0 where
  -- ---- nobody's turn at first, and no search
  fresh_turn : turn_of fresh_dispatcher ≡ None
  fresh_report : map (dryer_report fresh_dispatcher) (0 ∷ 5 ∷ 6 ∷ []) ≡ refuse 3 0 ∷ refuse 3 0 ∷ refuse 14 0 ∷ []
  -- ---- three dryers have a search: before any is served, counting starts at 0
  opened_turns : turns_of fresh_dispatcher openings ≡ D 4 ∷ D 1 ∷ D 1 ∷ []
  -- an opening serves no turn: nobody is served, and the counts stay
  opened_counts : three ≡ marked (with_counts three (replicate 6 0)) 6
  -- counting round from a mark; one other than 0 to 5 reads as none served
  marks : map (λ n. turn_of (marked three n)) (0 ∷ 1 ∷ 2 ∷ 4 ∷ 5 ∷ 6 ∷ 4294967295 ∷ []) ≡ D 1 ∷ D 2 ∷ D 4 ∷ D 1 ∷ D 1 ∷ D 1 ∷ D 1 ∷ []
  -- a dryer alone has every turn, its own mark or none
  alone : turn_of (marked (dispatcher_after fresh_dispatcher (opening 3 wide ∷ [])) 3) ≡ D 3
  alone_at_first : turn_of (dispatcher_after fresh_dispatcher (opening 0 wide ∷ [])) ≡ D 0
  -- before any is served, dryer 0 comes before all others
  first_of_all : turn_of (dispatcher_after fresh_dispatcher (opening 3 wide ∷ opening 0 wide ∷ opening 1 wide ∷ [])) ≡ D 0
  -- ---- a run: the refusals in their order, a refused answer leaves the turn, an opening takes no turn away
  run_reports : reports_of three calls
      ≡ refuse 15 0 ∷ refuse 6 0 ∷ next 100 1 ∷ refuse 15 0 ∷ refuse 16 0 ∷ refuse 3 0 ∷ refuse 14 0 ∷ refuse 14 0 ∷ next 100 1 ∷ next 0 0 ∷ next 100 1
      ∷ next 100 1 ∷ refuse 8 1 ∷ []
  share_reports : reports_of three (opening 1 refused_share ∷ opening 0 refused_share ∷ []) ≡ refuse 16 0 ∷ refuse 17 0 ∷ []
  run_turns : turns_of three calls ≡ D 1 ∷ D 1 ∷ D 2 ∷ D 2 ∷ D 2 ∷ D 2 ∷ D 2 ∷ D 2 ∷ D 4 ∷ D 4 ∷ D 0 ∷ D 1 ∷ D 1 ∷ []
  run_servings : servings three calls ≡ 1 ∷ 2 ∷ 4 ∷ 0 ∷ []
  -- a count for each dryer; the old count is their sum
  run_counts : (dispatcher_after three calls).counts ≡ 1 ∷ 1 ∷ 1 ∷ 0 ∷ 1 ∷ 0 ∷ []
  run_old_count : old_count_after fresh_dispatcher 0 (openings ++ calls) ≡ 4
  -- the accepted calls for a dryer are its own, and the others' leave its search
  own : map (λ i. own_calls three i calls) (0 ∷ 1 ∷ 5 ∷ []) ≡ (opening 0 wide ∷ first 0 ∷ []) ∷ (first 1 ∷ []) ∷ [] ∷ []
  own_history : history_at three calls 13 0 ≡ since wide (record { point = pos 0; value = pos 1 } ∷ [])
  -- the reports at single dryers
  reports : map (dryer_report (dispatcher_after three calls)) (4 ∷ 5 ∷ 6 ∷ []) ≡ next 100 1 ∷ refuse 3 0 ∷ refuse 14 0 ∷ []
  -- ---- all six have a search, and dryer 0 was served last: five others are served before it
  five_others : servings_in six round 0 5 ≡ 1 ∷ 2 ∷ 3 ∷ 4 ∷ 5 ∷ []
  then_dryer_zero : turn_of (dispatcher_after six (take 5 round)) ≡ D 0
  -- ---- a search that has stopped: the turn passes it by, a refused opening leaves it there, and an accepted one takes its place
  later_reports : reports_of fresh_dispatcher later ≡ next 0 0 ∷ next 1 1 ∷ Report.Stop 0 1 0 2 ∷ refuse 3 0 ∷ refuse 15 0 ∷ next 0 0 ∷ []
  later_turns : turns_of fresh_dispatcher later ≡ D 5 ∷ D 5 ∷ None ∷ None ∷ None ∷ D 5 ∷ []
  refused_opening : dryer_report (dispatcher_after fresh_dispatcher (take 4 later)) 5 ≡ Report.Stop 0 1 0 2
  -- the accepted one begins anew: no answer of the search before it is left. The count of those served there is not cleared
  reopened : search_at (dispatcher_after fresh_dispatcher later) 5 ≡ fresh_of wide
  uncleared : (dispatcher_after fresh_dispatcher later).counts ≡ 0 ∷ 0 ∷ 0 ∷ 0 ∷ 0 ∷ 2 ∷ []
  -- ---- searches that are refused never get the turn, and an opening may take their place
  junk_turn : turn_of junk ≡ None
  junk_reports : dryer_report junk 2 ∷ reports_of junk (first 2 ∷ opening 2 wide ∷ first 2 ∷ []) ≡ refuse 9 0 ∷ refuse 15 0 ∷ next 0 0 ∷ next 100 1 ∷ []
  -- ---- the counts at the ceiling: each has its own
  ceilings : map raised (0 ∷ 999999999 ∷ 1000000000 ∷ 4294967295 ∷ []) ≡ 1 ∷ 1000000000 ∷ 1000000000 ∷ 4294967295 ∷ []
  one_at_ceiling : (dispatcher_after (with_counts three around_ceiling) (first 1 ∷ first 2 ∷ [])).counts
      ≡ 4 ∷ 1000000000 ∷ 1000000000 ∷ 0 ∷ 7 ∷ 4294967295 ∷ []
  -- together they pass it, where the old count remains
  passed_together : (dispatcher_after (with_counts three nearly_together) (first 1 ∷ first 2 ∷ [])).counts ≡ 4 ∷ 500000001 ∷ 499999989 ∷ 0 ∷ 7 ∷ 0 ∷ []
  sums : map (λ calls. sum_of (dispatcher_after (with_counts three nearly_together) calls).counts) ([] ∷ (first 1 ∷ []) ∷ (first 1 ∷ first 2 ∷ []) ∷ [])
      ≡ 999999999 ∷ 1000000000 ∷ 1000000001 ∷ []
  old_counts : map (old_count_after (with_counts three nearly_together) 999999999) ([] ∷ (first 1 ∷ []) ∷ (first 1 ∷ first 2 ∷ []) ∷ [])
      ≡ 999999999 ∷ 1000000000 ∷ 1000000000 ∷ []

worked : Worked
unfolding turn_of first_from unfinished held_report standing_of progress_of begin_of opening_refusal report_at opening_at answer_at settled_by
    reopen_of report_of enter_of take_of offer_of answer_refusal same_side bracket_report raised dryer_report dispatcher_after reports_of servings own_calls
    old_count_after stopped_of start_of tolerance_at
worked =
    record {
      fresh_turn = refl;
      fresh_report = refl;
      opened_turns = refl;
      opened_counts = refl;
      marks = refl;
      alone = refl;
      alone_at_first = refl;
      first_of_all = refl;
      run_reports = refl;
      share_reports = refl;
      run_turns = refl;
      run_servings = refl;
      run_counts = refl;
      run_old_count = refl;
      own = refl;
      own_history = refl;
      reports = refl;
      five_others = refl;
      then_dryer_zero = refl;
      later_reports = refl;
      later_turns = refl;
      refused_opening = refl;
      reopened = refl;
      uncleared = refl;
      junk_turn = refl;
      junk_reports = refl;
      ceilings = refl;
      one_at_ceiling = refl;
      passed_together = refl;
      sums = refl;
      old_counts = refl;
    }
