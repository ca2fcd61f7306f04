-- Runs of calls to a dispatcher: openings and answers in any mixture, each call getting the dispatcher as the one before left it. What
-- the claim in `Run` speaks of: the dryers served, the counts, a dryer's own calls, and what its search is by these alone.
-- Assumes nothing.
use Rattle.std.specs.Prelude.{ℕ, ◌+◌, ◌<◌, min, max, ◌≡◌, Bool, false, cond, not, ◌||◌, List, [], ◌∷◌, ◌++◌, Some, eqb, take, drop}
use Rattle.rules.specs.declared.Opening.{Opening}
use Rattle.rules.specs.declared.Answer.{Answer}
use Rattle.rules.specs.declared.Report.{Report}
use Rattle.rules.specs.Search.{is_refusal}
use Rattle.held.specs.declared.Search.{Search}
use Rattle.held.specs.declared.Entered.{Entered}
use Rattle.held.specs.Held.{reopen_of, enter_of}
use Rattle.dispatching.specs.declared.Dispatcher.{Dispatcher}
use Rattle.dispatching.specs.declared.Dispatched.{Dispatched}
use Rattle.dispatching.specs.Dispatching.{dryers, ceiling, search_at, unfinished, turn_of, raised, opening_at, answer_at}

-- ---- a run

-- a call: an opening for a dryer, or an answer for one
pub data Call : Type 0 where
  opening : ℕ → Opening → Call
  answer : ℕ → Answer → Call

-- what a call answers and the dispatcher that it leaves: `dispatch::open` and `dispatch::enter` are proved to do this
abbrev pub call_of : Dispatcher → Call → Dispatched
call_of d (opening i o) = opening_at d i o
call_of d (answer i a) = answer_at d i a

-- the dryer that a call is for
abbrev pub dryer_of : Call → ℕ
dryer_of (opening i o) = i
dryer_of (answer i a) = i

-- each call gets the dispatcher as the one before left it
unfoldable pub dispatcher_after : Dispatcher → List Call → Dispatcher
dispatcher_after d [] = d
dispatcher_after d (c ∷ calls) = dispatcher_after (call_of d c).dispatcher calls

unfoldable pub reports_of : Dispatcher → List Call → List Report
reports_of d [] = []
reports_of d (c ∷ calls) = (call_of d c).report ∷ reports_of (call_of d c).dispatcher calls

-- the dispatcher at place p: after the first p calls
abbrev pub dispatcher_at : Dispatcher → List Call → ℕ → Dispatcher
dispatcher_at d calls p = dispatcher_after d (take p calls)

abbrev pub accepts : Dispatcher → Call → Bool
accepts d c = not (is_refusal (call_of d c).report)

-- ---- served answers

-- an accepted answer serves its dryer; a refused one, and every opening, serves none
abbrev pub serves : Call → List ℕ
serves (opening i o) = []
serves (answer i a) = i ∷ []

abbrev pub served_by : Dispatcher → Call → List ℕ
served_by d c = cond (accepts d c) (serves c) []

-- the dryers served in a run, one for each served answer
unfoldable pub servings : Dispatcher → List Call → List ℕ
servings d [] = []
servings d (c ∷ calls) = served_by d c ++ servings (call_of d c).dispatcher calls

-- those served by the n calls from place p on
abbrev pub servings_in : Dispatcher → List Call → ℕ → ℕ → List ℕ
servings_in d calls p n = servings (dispatcher_at d calls p) (take n (drop p calls))

-- whether a dryer is among them
abbrev pub among : ℕ → List ℕ → Bool
among i [] = false
among i (j ∷ js) = eqb j i || among i js

-- ---- the counts

-- how often a dryer is among the served
abbrev pub how_often : ℕ → List ℕ → ℕ
how_often i [] = 0
how_often i (j ∷ js) = cond (eqb j i) 1 0 + how_often i js

-- a count after n more served answers: it goes up to the ceiling, and one that is there or past it remains
abbrev pub count_after : ℕ → ℕ → ℕ
count_after c n = max c (min (c + n) ceiling)

-- what counts add up to
abbrev pub sum_of : List ℕ → ℕ
sum_of [] = 0
sum_of (c ∷ cs) = c + sum_of cs

-- a dispatcher with others in place of its counts
abbrev pub with_counts : Dispatcher → List ℕ → Dispatcher
with_counts d cs = record { searches = d.searches; last = d.last; counts = cs }

-- the old count: the single one of request 2026-04, which no dispatcher keeps now. Beside the same run, an accepted answer at any dryer raises
-- it, and every other call leaves it
abbrev pub old_count_by : Dispatcher → ℕ → Call → ℕ
old_count_by d n (opening i o) = n
old_count_by d n (answer i a) = cond (accepts d (answer i a)) (raised n) n

-- what it would show after a run at whose beginning it showed n
unfoldable pub old_count_after : Dispatcher → ℕ → List Call → ℕ
old_count_after d n [] = n
old_count_after d n (c ∷ calls) = old_count_after (call_of d c).dispatcher (old_count_by d n c) calls

-- ---- a dryer's own calls

-- the accepted calls for dryer i, in order
abbrev pub own_by : Dispatcher → ℕ → Call → List Call
own_by d i c = cond (accepts d c) (cond (eqb (dryer_of c) i) (c ∷ []) []) []

unfoldable pub own_calls : Dispatcher → ℕ → List Call → List Call
own_calls d i [] = []
own_calls d i (c ∷ calls) = own_by d i c ++ own_calls (call_of d c).dispatcher i calls

-- a held search alone, with no dispatcher, given a call, and then all of them
abbrev pub lone_of : Search → Call → Entered
lone_of s (opening i o) = reopen_of s o
lone_of s (answer i a) = enter_of s a.point a.value

abbrev pub lone_after : Search → List Call → Search
lone_after s [] = s
lone_after s (c ∷ calls) = lone_after (lone_of s c).search calls

-- neither 14 nor 15 nor 16 applies to a call
abbrev pub Due : Dispatcher → Call → Type 0
Due d (opening i o) = (i < dryers) × (unfinished (search_at d i) ≡ false)
Due d (answer i a) = (i < dryers) × (turn_of d ≡ Some i)

-- ---- a dryer's own opening and answers

-- the opening accepted last, and the answers accepted since
pub data History : Type 0 where
  none : History
  since : Opening → List Answer → History

abbrev pub noted : History → Call → History
noted h (opening i o) = since o []
noted none (answer i a) = none
noted (since o answers) (answer i a) = since o (answers ++ (a ∷ []))

abbrev pub history_of : History → List Call → History
history_of h [] = h
history_of h (c ∷ calls) = history_of (noted h c) calls

-- at dryer i, at place p of a run
abbrev pub history_at : Dispatcher → List Call → ℕ → ℕ → History
history_at d calls p i = history_of none (own_calls d i (take p calls))
