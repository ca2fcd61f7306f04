-- The dispatcher of requests 2026-04 and 2026-05: six dryers and one oven. Whose turn it is, an opening, an answer, the report of a dryer, and
-- the counts.
-- Assumes nothing.
use Rattle.std.specs.Prelude.{ℕ, zero, suc, ◌+◌, ◌%◌, Bool, true, false, cond, not, List, Option, Some, None, ltb, eqb, get_or, set, replicate}
use Rattle.rules.specs.declared.Opening.{Opening}
use Rattle.rules.specs.declared.Answer.{Answer}
use Rattle.rules.specs.declared.Report.{Report}
use Rattle.rules.specs.Search.{is_refusal}
use Rattle.held.specs.declared.Search.{Search}
use Rattle.held.specs.declared.Entered.{Entered}
use Rattle.held.specs.Held.{blank, reopen_of, held_report, enter_of}
use Rattle.dispatching.specs.declared.Dispatcher.{Dispatcher}
use Rattle.dispatching.specs.declared.Dispatched.{Dispatched}

-- ---- the numbers

-- the dryers, 0 to 5
abbrev pub dryers : ℕ
dryers = 6

-- where a count remains
abbrev pub ceiling : ℕ
ceiling = 1000000000

-- dryer not 0 to 5
abbrev pub no_such_dryer : ℕ
no_such_dryer = 14

-- an answer for a dryer that has not the turn
abbrev pub not_its_turn : ℕ
not_its_turn = 15

-- an opening for a dryer whose search is accepted and unfinished
abbrev pub still_searching : ℕ
still_searching = 16

-- ---- the dispatcher

-- no search, none served and every count 0. A dryer with no search holds a blank; a mark of 6 is no dryer, so none is served
abbrev pub fresh_dispatcher : Dispatcher
fresh_dispatcher = record { searches = replicate dryers blank; last = dryers; counts = replicate dryers 0 }

-- the search at a dryer
abbrev pub search_at : Dispatcher → ℕ → Search
search_at d i = get_or d.searches i blank

-- the same for any number: none where there is no such dryer
abbrev pub found_at : Dispatcher → ℕ → Option Search
found_at d i = cond (ltb i dryers) (Some (search_at d i)) None

-- the count of a dryer
abbrev pub count_at : Dispatcher → ℕ → ℕ
count_at d i = get_or d.counts i 0

-- ---- whose turn it is

-- whether a report is a next point
abbrev pub is_next : Report → Bool
is_next (Report.Next x n) = true
is_next (Report.Stop l u b n) = false
is_next (Report.Refused n i) = false

-- accepted and unfinished: the report is a next point
unfoldable pub unfinished : Search → Bool
unfinished s = is_next (held_report s)

-- counting starts after the last served; before any is served, at dryer 0. A mark other than 0 to 5 reads as none served
abbrev pub start_after : ℕ → ℕ
start_after last = cond (ltb last dryers) (last + 1) 0

-- counting round from a dryer on, the first among the next n whose search is accepted and unfinished; none where none is
unfoldable pub first_from : List Search → ℕ → ℕ → Option ℕ
first_from ss at zero = None
first_from ss at (suc n) =
    cond (unfinished (get_or ss (at % dryers) blank)) (Some (at % dryers)) (first_from ss (at + 1) n)

-- all six are asked, the last served one last
unfoldable pub turn_of : Dispatcher → Option ℕ
turn_of d = first_from d.searches (start_after d.last) dryers

-- whether it is dryer i's
abbrev pub is_dryer : Option ℕ → ℕ → Bool
is_dryer (Some j) i = eqb j i
is_dryer None i = false

-- ---- what a call leaves

-- a report, beside the dispatcher as it then is
abbrev pub told : Report → Dispatcher → Dispatched
told r d = record { report = r; dispatcher = d }

-- a refusal alters nothing
abbrev pub refused_with : ℕ → Dispatcher → Dispatched
refused_with n d = told (Report.Refused n 0) d

-- an accepted opening: its fresh search at the dryer. No turn is served: the mark and the counts stay
abbrev pub with_search : Dispatcher → ℕ → Search → Dispatcher
with_search d i s = record { searches = set d.searches i s; last = d.last; counts = d.counts }

-- one more served, up to the ceiling
unfoldable pub raised : ℕ → ℕ
raised n = cond (ltb n ceiling) (n + 1) n

-- an accepted answer serves the turn: the search with the answer, the mark at its dryer, and that dryer's count
abbrev pub served_at : Dispatcher → ℕ → Search → Dispatcher
served_at d i s = record { searches = set d.searches i s; last = i; counts = set d.counts i (raised (count_at d i)) }

-- ---- the calls

-- what is left once the dispatcher's own checks are past, and the search has answered: where it refuses, everything as it was; where it
-- accepts, `next`
unfoldable pub settled_by : Dispatcher → Entered → Dispatcher → Dispatched
settled_by d e next = cond (is_refusal e.report) (told e.report d) (told e.report next)

-- an opening: the dryer (14), its search (16), then document 01's checks
unfoldable pub opening_at : Dispatcher → ℕ → Opening → Dispatched
opening_at d i o =
    let e = reopen_of (search_at d i) o in
    cond (not (ltb i dryers)) (refused_with no_such_dryer d)
    (cond (unfinished (search_at d i)) (refused_with still_searching d)
    (settled_by d e (with_search d i e.search)))

-- an answer: the dryer (14), the turn (15), then document 01's checks
unfoldable pub answer_at : Dispatcher → ℕ → Answer → Dispatched
answer_at d i a =
    let e = enter_of (search_at d i) a.point a.value in
    cond (not (ltb i dryers)) (refused_with no_such_dryer d)
    (cond (not (is_dryer (turn_of d) i)) (refused_with not_its_turn d)
    (settled_by d e (served_at d i e.search)))

-- the report of a dryer: the dryer (14), then its search's own
unfoldable pub dryer_report : Dispatcher → ℕ → Report
dryer_report d i = cond (not (ltb i dryers)) (Report.Refused no_such_dryer 0) (held_report (search_at d i))
