-- Held searches: a search that keeps its own list. Document 01, "Held searches and sheets", and the rows "Held search" and "Each
-- answer in turn" of its table.
-- Assumes nothing.
use Rattle.std.specs.Prelude.{◌+◌, cond, List, [], ltb, eqb, ℤ, pos, take, set, replicate}
use Rattle.rules.specs.declared.Opening.{Opening}
use Rattle.rules.specs.declared.Progress.{Progress}
use Rattle.rules.specs.declared.Report.{Report}
use Rattle.rules.specs.Rules.{slots}
use Rattle.rules.specs.Refusals.{opening_refusal, count_above}
use Rattle.rules.specs.Search.{is_refused, other_at, offer_of, progress_of, report_at, report_of}
use Rattle.held.specs.declared.Search.{Search}
use Rattle.held.specs.declared.Entered.{Entered}

-- ---- fresh searches

-- an opening, a count of 0 and 0 in every slot
abbrev pub fresh_of : Opening → Search
fresh_of o = record { opening = o; count = 0; slots = replicate slots (pos 0) }

-- what stands beside the refusal of an opening where there was no search: every number 0. Its ends are equal, so every call refuses it
abbrev pub blank : Search
blank = fresh_of (record { method = pos 0; first = pos 0; second = pos 0; tolerance = pos 0; share = pos 0 })

-- an opening offered to a search. Accepted: the report and a fresh search. Refused: the refusal, and the search as it was
unfoldable pub reopen_of : Search → Opening → Entered
reopen_of s o =
    cond (eqb (opening_refusal o) 0)
    (record { report = report_of o []; search = fresh_of o })
    (record { report = Report.Refused (opening_refusal o) 0; search = s })

-- the same where there was no search: a blank
abbrev pub open_of : Opening → Entered
open_of = reopen_of blank

-- ---- the report

-- the values up to the count
abbrev pub values_of : Search → List ℤ
values_of s = take s.count s.slots

-- a count above the slots, the opening, then the held values in turn
unfoldable pub standing_of : Search → Progress
standing_of s = cond (ltb slots s.count) (Progress.Refused count_above 0) (progress_of s.opening (values_of s))

unfoldable pub held_report : Search → Report
held_report s = report_at s.opening (standing_of s)

-- ---- an answer entered

-- the value in the next slot, and the count one more; the other slots keep theirs
abbrev pub with_value : Search → ℤ → Search
with_value s v = record { opening = s.opening; count = s.count + 1; slots = set s.slots s.count v }

-- the answer tried, after the held values
abbrev pub tried_of : Search → ℤ → ℤ → Progress
tried_of s x v = offer_of s.opening (standing_of s) (other_at s.opening (standing_of s) x) v

-- refused: the refusal, and the search as it was. Accepted: the search with the value, and the report of the search as it then stands
unfoldable pub enter_of : Search → ℤ → ℤ → Entered
enter_of s x v =
    cond (is_refused (tried_of s x v))
    (record { report = report_at s.opening (tried_of s x v); search = s })
    (record { report = held_report (with_value s v); search = with_value s v })
