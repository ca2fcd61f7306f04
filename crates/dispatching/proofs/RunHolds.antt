-- The claim about whole runs of a dispatcher holds. While a dryer waits, every answer served elsewhere leaves fewer dryers to be asked before
-- it, and at first they are five at most; the rest is one call at a time, and induction.
-- Assumes nothing.
use Rattle.std.specs.Prelude.{ℕ, ◌+◌, ◌≤◌, ◌<◌, ◌≡◌, true, false, cond, not, List, Some, ltb, length, take, drop}
use Rattle.std.proofs.Common.{sym, ap, ap₂, subst, ◌∙◌, arith}
use Rattle.rules.specs.declared.Opening.{Opening}
use Rattle.rules.specs.declared.Answer.{Answer}
use Rattle.rules.specs.declared.Report.{Report}
use Rattle.held.specs.declared.Search.{Search}
use Rattle.held.specs.Held.{blank, held_report}
use Rattle.dispatching.specs.declared.Dispatcher.{Dispatcher}
use Rattle.dispatching.specs.Dispatching.{dryers, no_such_dryer, search_at, unfinished, turn_of, dryer_report}
use Rattle.dispatching.specs.Calls.{Call, dispatcher_after, dispatcher_at, servings, servings_in, among, lone_after, none, since, history_at}
use Rattle.dispatching.specs.Run.{Waits, Kept, AtEach, CountsAtEach, EveryDispatcherRun}
use Rattle.dispatching.proofs.DispatchingLaws.{queued_somewhere, next_turn, turn_first, turn_none, due_report}
use Rattle.dispatching.proofs.RunLaws.{after_append, take_more, six_calls, refusal_keeps, served_in_turn, unserved_mark, Nearer, after_calls}
use Rattle.dispatching.proofs.RunLaws.{others_keep, own_calls_lem}
use Rattle.dispatching.proofs.CountLaws.{other_counts, uncleared, one_more, six_counts_after, count_calls, old_calls, old_is_sum}
use Rattle.dispatching.proofs.CountLaws.{alike_reports, alike_calls, count_from_zero, sum_from_zero}
use Rattle.dispatching.proofs.HistoryLaws.{call_told, Holds, holds_calls, booked_kept, blank_stays}

-- ---- the one that waits

-- from here on
module _ (d : Dispatcher) (calls : List Call) (i : ℕ) (dryer : i < dryers) (goes_on : unfinished (search_at d i) ≡ true)
    (unserved : among i (servings d calls) ≡ false) where
  -- so many dryers are asked before it, five at most
  abbrev before : ℕ
  before = (queued_somewhere d i dryer goes_on).0

  -- each served answer leaves fewer
  after : Nearer i before (servings d calls) (dispatcher_after d calls)
  after = after_calls d i before (queued_somewhere d i dryer goes_on).1 calls unserved

  five : length (servings d calls) ≤ 5
  five = omega (arith, after.fewer, (queued_somewhere d i dryer goes_on).1.near)

  turn_after : length (servings d calls) ≡ 5 → turn_of (dispatcher_after d calls) ≡ Some i
  turn_after e =
      next_turn (dispatcher_after d calls) i after.left after.queued (omega (arith, after.fewer, (queued_somewhere d i dryer goes_on).1.near))

-- from place p on
module _ (d : Dispatcher) (calls : List Call) (p n : ℕ) where
  -- the next n calls from there lead to place p + n
  onward : dispatcher_after (dispatcher_at d calls p) (take n (drop p calls)) ≡ dispatcher_at d calls (p + n)
  onward = sym (ap (dispatcher_after d) (take_more calls p n) ∙ after_append d (take p calls) (take n (drop p calls)))

  waits : (i : ℕ) → i < dryers → unfinished (search_at (dispatcher_at d calls p) i) ≡ true → among i (servings_in d calls p n) ≡ false → Waits d calls p n i
  waits i h w m =
      let here = dispatcher_at d calls p in
      let stretch = take n (drop p calls) in
      record {
        at_most_five = five here stretch i h w m;
        then_its_turn = λ e. ap turn_of (sym onward) ∙ turn_after here stretch i h w m e;
        goes_on = ap (λ (d' : Dispatcher). unfinished (search_at d' i)) (sym onward) ∙ (after here stretch i h w m).queued.goes_on;
      }

-- ---- demand 3 at a dryer

module _ (d : Dispatcher) (six : length d.searches ≡ dryers) (calls : List Call) (p i : ℕ) where
  known : Holds (λ s. Unit {0}) (λ s a n t. tt) (search_at (dispatcher_at d calls p) i) (history_at d calls p i)
  known = holds_calls (λ s. Unit {0}) (λ s a n t. tt) d six i tt (take p calls)

  keeps : (o : Opening) (answers : List Answer) → history_at d calls p i ≡ since o answers → Kept (search_at (dispatcher_at d calls p) i) o answers
  keeps o answers e =
      booked_kept (search_at (dispatcher_at d calls p) i) o answers
      (subst (Holds (λ s. Unit {0}) (λ s a n t. tt) (search_at (dispatcher_at d calls p) i)) e known)

-- ---- a dryer with no search

no_search : (d : Dispatcher) → length d.searches ≡ dryers → (calls : List Call) (p i : ℕ) → search_at d i ≡ blank → history_at d calls p i ≡ none
    → search_at (dispatcher_at d calls p) i ≡ blank
no_search d six calls p i b e =
    subst (Holds (λ s. s ≡ blank) (λ s a. blank_stays s a) (search_at (dispatcher_at d calls p) i)) e
    (holds_calls (λ s. s ≡ blank) (λ s a. blank_stays s a) d six i b (take p calls))

-- ---- the claim

at_each : (d : Dispatcher) → length d.searches ≡ dryers → AtEach d
at_each d six =
    record {
      next = turn_first d;
      nobody = λ i t. turn_none d t i;
      in_turn = λ i c e. (served_in_turn d c i e).0;
      marked = λ i c e. (served_in_turn d c i e).1;
      unmarked = unserved_mark d;
      refused = refusal_keeps d;
      others = λ i c. others_keep d c i;
      lone = due_report d;
      told = call_told d six;
    }

counts_at_each : (d : Dispatcher) → length d.counts ≡ dryers → CountsAtEach d
counts_at_each d six = record { one_more = one_more d six; other_counts = λ i c. other_counts d c i; uncleared = uncleared d }

pub run : EveryDispatcherRun
unfolding dryer_report
run d six six_counts calls =
    record {
      at_each = λ p. at_each (dispatcher_at d calls p) (six_calls d six (take p calls));
      waiting = λ p n i. waits d calls p n i;
      apart = λ p i. own_calls_lem d six i (take p calls);
      kept = λ p i o answers. keeps d six calls p i o answers;
      none_yet = λ p i. no_search d six calls p i;
      independent = λ p p' i d' calls' six' e f.
          ap (λ (s : Search). cond (not (ltb i dryers)) (Report.Refused no_such_dryer 0) (held_report s))
          (own_calls_lem d six i (take p calls) ∙ ap₂ lone_after e f ∙ sym (own_calls_lem d' six' i (take p' calls')));
      counts_at_each = λ p. counts_at_each (dispatcher_at d calls p) (six_counts_after d six_counts (take p calls));
      from_zero = λ zeros.
          record {
            each = λ p. count_from_zero d six_counts zeros (take p calls);
            together = λ p. sum_from_zero d six_counts zeros (take p calls);
          };
      served = λ p i. count_calls d six_counts i (take p calls);
      old_served = λ p n. old_calls d n (take p calls);
      old_count = λ p. old_is_sum d six_counts (take p calls);
      alike_reports = λ cs. alike_reports d cs calls;
      alike = λ p cs. alike_calls d cs (take p calls);
    }
