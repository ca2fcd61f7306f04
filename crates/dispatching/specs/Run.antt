-- The claim of requests 2026-04 and 2026-05 about whole runs: for every dispatcher that a host may hold, and so for a fresh one, and every list
-- of calls, of any length, one record whose fields are the requests' sentences, said of every place of the run. Nothing is proved here: `run` in
-- RunHolds is the proof.
-- Assumes nothing.
use Rattle.std.specs.Prelude.{ℕ, ◌+◌, ◌≤◌, ◌<◌, ◌%◌, min, ◌≡◌, ◌≢◌, true, false, List, [], ◌∷◌, Some, None, map, length, get_or, take}
use Rattle.rules.specs.declared.Opening.{Opening}
use Rattle.rules.specs.declared.Answer.{Answer}
use Rattle.rules.specs.Refusals.{Accepted}
use Rattle.rules.specs.Search.{is_refusal}
use Rattle.held.specs.declared.Search.{Search}
use Rattle.held.specs.Held.{blank, held_report}
use Rattle.journal.specs.Journal.{journal_report}
use Rattle.journal.specs.Run.{into, journal_of, holding, Run}
use Rattle.dispatching.specs.declared.Dispatcher.{Dispatcher}
use Rattle.dispatching.specs.Dispatching.{dryers, ceiling, fresh_dispatcher, search_at, count_at, unfinished, start_after, turn_of}
use Rattle.dispatching.specs.Dispatching.{raised, dryer_report}
use Rattle.dispatching.specs.Calls.{Call, opening, call_of, dryer_of, reports_of, dispatcher_at, served_by, servings, servings_in, among}
use Rattle.dispatching.specs.Calls.{how_often, count_after, sum_of, with_counts, old_count_after}
use Rattle.dispatching.specs.Calls.{own_calls, lone_of, lone_after, Due, none, since, history_at}

-- ---- words of the claim

-- counting round from a dryer on, the first among the next n whose search is accepted and unfinished is i: its is, and no dryer's is that
-- is counted before it
pub record First (ss : List Search) (at n i : ℕ) : Type 0 where
  pub place : ℕ
  pub near : place < n
  pub dryer : (at + place) % dryers ≡ i
  pub goes_on : unfinished (get_or ss i blank) ≡ true
  pub passed : (j : ℕ) → j < place → unfinished (get_or ss ((at + j) % dryers) blank) ≡ false

-- dryer i waits from place p on, while the next n calls do not serve it: at most five others are served; after five the turn is its own;
-- and its search is accepted and unfinished still
pub record Waits (d : Dispatcher) (calls : List Call) (p n i : ℕ) : Type 0 where
  pub at_most_five : length (servings_in d calls p n) ≤ 5
  pub then_its_turn : length (servings_in d calls p n) ≡ 5 → turn_of (dispatcher_at d calls (p + n)) ≡ Some i
  pub goes_on : unfinished (search_at (dispatcher_at d calls (p + n)) i) ≡ true

-- a search is that of an opening and answers by demand 3: the opening is accepted, the answers are the journal, the search holds them and
-- reports as the journal does, and the claim about whole runs of a single search is true of it
pub record Kept (s : Search) (o : Opening) (answers : List Answer) : Type 0 where
  pub accepted : Accepted o
  pub booked : journal_of o (map into answers) ≡ answers
  pub search : s ≡ holding o answers
  pub report : held_report s ≡ journal_report o answers
  pub run : Run o (map into answers)

-- two dispatchers differ in their counts at most
pub record SameButCounts (d d' : Dispatcher) : Type 0 where
  pub searches : d.searches ≡ d'.searches
  pub last : d.last ≡ d'.last

-- ---- at each place

-- what is true of a dispatcher, and of whatever call c comes next
pub record AtEach (d : Dispatcher) : Type 0 where
  -- the oven's turn goes to the next dryer, counting round from the one after the last served, whose search is accepted and unfinished
  pub next : (i : ℕ) → turn_of d ≡ Some i → First d.searches (start_after d.last) dryers i
  -- where nobody has it, no dryer's is
  pub nobody : (i : ℕ) → turn_of d ≡ None → i < dryers → unfinished (search_at d i) ≡ false
  -- a turn is served by an accepted answer: whoever a call serves has the turn, and is then the last served
  pub in_turn : (i : ℕ) (c : Call) → served_by d c ≡ i ∷ [] → turn_of d ≡ Some i
  pub marked : (i : ℕ) (c : Call) → served_by d c ≡ i ∷ [] → (call_of d c).dispatcher.last ≡ i
  -- a call that serves nobody leaves the mark
  pub unmarked : (c : Call) → served_by d c ≡ [] → (call_of d c).dispatcher.last ≡ d.last
  -- a refused answer leaves the turn: a refused call leaves everything
  pub refused : (c : Call) → is_refusal (call_of d c).report ≡ true → (call_of d c).dispatcher ≡ d
  -- a call for one dryer changes no other dryer's search
  pub others : (i : ℕ) (c : Call) → i ≢ dryer_of c → search_at (call_of d c).dispatcher i ≡ search_at d i
  -- where neither 14 nor 15 nor 16 applies, a call reports what the held search alone reports
  pub lone : (c : Call) → Due d c → (call_of d c).report ≡ (lone_of (search_at d (dryer_of c)) c).report
  -- and where it is accepted, that is the report of its dryer's search as it then stands
  pub told : (c : Call) → is_refusal (call_of d c).report ≡ false → (call_of d c).report ≡ dryer_report (call_of d c).dispatcher (dryer_of c)

-- what is true of its counts, and of whatever call c comes next
pub record CountsAtEach (d : Dispatcher) : Type 0 where
  -- whoever a call serves has one more, up to the ceiling
  pub one_more : (i : ℕ) (c : Call) → served_by d c ≡ i ∷ [] → count_at (call_of d c).dispatcher i ≡ raised (count_at d i)
  -- one crew's answers never move another's count
  pub other_counts : (i : ℕ) (c : Call) → i ≢ dryer_of c → count_at (call_of d c).dispatcher i ≡ count_at d i
  -- an opening does not clear it
  pub uncleared : (i : ℕ) (o : Opening) → (call_of d (opening i o)).dispatcher.counts ≡ d.counts

-- ---- from a dispatcher with all six counts 0, as a fresh one has them

pub record FromZero (d : Dispatcher) (calls : List Call) : Type 0 where
  -- while below the ceiling, a dryer's count is the number of answers served there
  pub each : (p i : ℕ) → count_at (dispatcher_at d calls p) i < ceiling → count_at (dispatcher_at d calls p) i ≡ how_often i (servings d (take p calls))
  -- while the six add up to less than the ceiling, their sum is what the old count would have shown
  pub together : (p : ℕ) → sum_of (dispatcher_at d calls p).counts < ceiling → sum_of (dispatcher_at d calls p).counts ≡ old_count_after d 0 (take p calls)

-- ---- the claim

pub record DispatcherRun (d : Dispatcher) (calls : List Call) : Type 0 where
  -- all that `AtEach` says, at every place p of the run
  pub at_each : (p : ℕ) → AtEach (dispatcher_at d calls p)
  -- a dryer whose search is accepted and unfinished waits for at most five served answers before its own turn
  pub waiting : (p n i : ℕ) → i < dryers → unfinished (search_at (dispatcher_at d calls p) i) ≡ true → among i (servings_in d calls p n) ≡ false
      → Waits d calls p n i
  -- the search at a dryer is that of its own accepted calls alone
  pub apart : (p i : ℕ) → search_at (dispatcher_at d calls p) i ≡ lone_after (search_at d i) (own_calls d i (take p calls))
  -- once an opening has been accepted for a dryer, its search keeps demand 3 with that opening and the answers accepted since
  pub kept : (p i : ℕ) (o : Opening) (answers : List Answer) → history_at d calls p i ≡ since o answers
      → Kept (search_at (dispatcher_at d calls p) i) o answers
  -- a dryer with no search has none as long as no opening is accepted for it; at a fresh dispatcher that is every dryer
  pub none_yet : (p i : ℕ) → search_at d i ≡ blank → history_at d calls p i ≡ none → search_at (dispatcher_at d calls p) i ≡ blank
  -- the settings called for at a dryer depend on its own opening and values only: wherever in any run of any dispatcher d' a dryer began with
  -- the same search and the same calls were accepted for it, whatever the other dryers do, the report there is the same
  pub independent : (p p' i : ℕ) (d' : Dispatcher) (calls' : List Call) → length d'.searches ≡ dryers
      → search_at d i ≡ search_at d' i → own_calls d i (take p calls) ≡ own_calls d' i (take p' calls')
      → dryer_report (dispatcher_at d calls p) i ≡ dryer_report (dispatcher_at d' calls' p') i
  -- all that `CountsAtEach` says, at every place p of the run
  pub counts_at_each : (p : ℕ) → CountsAtEach (dispatcher_at d calls p)
  -- all that `FromZero` says, where the counts at first are those of a fresh dispatcher
  pub from_zero : d.counts ≡ fresh_dispatcher.counts → FromZero d calls
  -- whatever it is at first, a dryer's count grows with the answers served there while below the ceiling, and remains as it is once that is
  -- reached or passed
  pub served : (p i : ℕ) → count_at (dispatcher_at d calls p) i ≡ count_after (count_at d i) (how_often i (servings d (take p calls)))
  -- so does the old count with the answers served at whichever dryer
  pub old_served : (p n : ℕ) → old_count_after d n (take p calls) ≡ count_after n (length (servings d (take p calls)))
  -- had it begun as the sum of the six up to the ceiling, it would be their sum up to the ceiling
  pub old_count : (p : ℕ) → old_count_after d (min (sum_of d.counts) ceiling) (take p calls) ≡ min (sum_of (dispatcher_at d calls p).counts) ceiling
  -- the counts alter nothing else: with any others in their place the calls report the same, and leave the same searches and mark
  pub alike_reports : (cs : List ℕ) → reports_of (with_counts d cs) calls ≡ reports_of d calls
  pub alike : (p : ℕ) (cs : List ℕ) → SameButCounts (dispatcher_at (with_counts d cs) calls p) (dispatcher_at d calls p)

-- for every dispatcher, which has six searches and six counts, and every list of calls
abbrev pub EveryDispatcherRun : Type 0
EveryDispatcherRun =
    (d : Dispatcher) → length d.searches ≡ dryers → length d.counts ≡ dryers → (calls : List Call) → DispatcherRun d calls
