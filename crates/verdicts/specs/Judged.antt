-- What an answer does to a search, without the search: the verdict over its parts (the opening, the count and the slots), from which
-- one slot and the count are stored.
-- Assumes nothing.
use Rattle.std.specs.Prelude.{ℕ, ◌+◌, cond, List, ltb, ℤ, pos, take, get_or}
use Rattle.rules.specs.declared.Opening.{Opening}
use Rattle.rules.specs.declared.Progress.{Progress}
use Rattle.rules.specs.Rules.{slots}
use Rattle.rules.specs.Refusals.{count_above}
use Rattle.rules.specs.Search.{is_refused, other_at, offer_of, progress_of, report_at}
use Rattle.verdicts.specs.declared.Verdict.{Verdict}

-- where a search of these parts stands: a count above the slots, the opening, then the held values in turn
unfoldable pub standing_by : Opening → ℕ → List ℤ → Progress
standing_by o n vs = cond (ltb slots n) (Progress.Refused count_above 0) (progress_of o (take n vs))

-- the answer tried, after the held values
abbrev pub tried_by : Opening → ℕ → List ℤ → ℤ → ℤ → Progress
tried_by o n vs x v = offer_of o (standing_by o n vs) (other_at o (standing_by o n vs) x) v

-- refused: slot 0 and the count as they are. Accepted: the next slot has the value, and the count is one more
unfoldable pub verdict_of : Opening → ℕ → List ℤ → ℤ → ℤ → Verdict
verdict_of o n vs x v =
    cond (is_refused (tried_by o n vs x v))
    (record { report = report_at o (tried_by o n vs x v); count = n; at = 0; value = get_or vs 0 (pos 0) })
    (record { report = report_at o (tried_by o n vs x v); count = n + 1; at = n; value = v })
