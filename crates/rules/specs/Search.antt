-- The search over a list of values, from scratch: where it stands after the values so far, the report on that, and the quote.
-- Assumes nothing.
use Rattle.std.specs.Prelude.{ℕ, ◌+◌, ◌-◌, ◌*◌, ◌/◌, Bool, true, false, cond, not, ◌&&◌, eqb, ℤ, pos, nat_abs, Result, Ok, Err}
use mathlib.Core.List.{List, [], ◌∷◌, foldl}
use Rattle.integers.specs.Digits.{digits}
use Rattle.integers.specs.Signs.{eq_z}
use Rattle.rules.specs.declared.Opening.{Opening}
use Rattle.rules.specs.declared.Bracket.{Bracket}
use Rattle.rules.specs.declared.Progress.{Progress}
use Rattle.rules.specs.declared.Report.{Report}
use Rattle.rules.specs.declared.Quote.{Quote}
use Rattle.rules.specs.declared.Refusal.{Refusal}
use Rattle.rules.specs.Rules.{method_of, first_of, second_of, start_of, lower_of, upper_of, gap_of, stopped_of, next_of, advance_of, allowed}
use Rattle.rules.specs.Refusals.{refusal, opening_refusal, answer_refusal, too_large, same_side}

-- ---- where a search stands

-- before the first answer
unfoldable pub begin_of : Opening → Progress
begin_of o = cond (eqb (opening_refusal o) 0) Progress.Begun (Progress.Refused (opening_refusal o) 0)

-- how many answers have been taken: the index of the next
abbrev pub taken_of : Progress → ℕ
taken_of Progress.Begun = 0
taken_of (Progress.First v) = 1
taken_of (Progress.Bracketed k) = k.taken
taken_of (Progress.Refused n i) = i

abbrev pub is_refused : Progress → Bool
is_refused Progress.Begun = false
is_refused (Progress.First v) = false
is_refused (Progress.Bracketed k) = false
is_refused (Progress.Refused n i) = true

-- below two answers there is no stop
abbrev pub stopped_at : Opening → Progress → Bool
stopped_at o Progress.Begun = false
stopped_at o (Progress.First v) = false
stopped_at o (Progress.Bracketed k) = stopped_of o k
stopped_at o (Progress.Refused n i) = false

-- whether v is a second answer on the first one's side
abbrev pub same_side_at : Progress → ℤ → Bool
same_side_at Progress.Begun v = false
same_side_at (Progress.First u) v = same_side u v
same_side_at (Progress.Bracketed k) v = false
same_side_at (Progress.Refused n i) v = false

-- whether x is another point than the one called for: x0 at 0, x1 at 1, from 2 on the next point of the bracket. Once stopped or
-- refused, none is called for
abbrev pub other_at : Opening → Progress → ℤ → Bool
other_at o Progress.Begun x = not (eq_z x (pos (first_of o)))
other_at o (Progress.First v) x = not (eq_z x (pos (second_of o)))
other_at o (Progress.Bracketed k) x = not (stopped_of o k) && not (eq_z x (pos (next_of o k)))
other_at o (Progress.Refused n i) x = false

-- with the value of the point called for
abbrev pub entered_at : Opening → Progress → ℤ → Progress
entered_at o Progress.Begun v = Progress.First v
entered_at o (Progress.First u) v =
    Progress.Bracketed (start_of (record { point = first_of o; value = u }) (record { point = second_of o; value = v }))
entered_at o (Progress.Bracketed k) v = Progress.Bracketed (advance_of k (record { point = next_of o k; value = v }))
entered_at o (Progress.Refused n i) v = Progress.Refused n i

-- one answer more, to a search that is not refused: the first refusal of its row, with the index of the answer, or the answer is
-- entered. `other` says that its point, where one is given, is not the one called for
abbrev pub answered_at : Opening → Progress → Bool → ℤ → Progress
answered_at o p other v =
    let n = answer_refusal (stopped_at o p) other (too_large v) (same_side_at p v) in
    cond (eqb n 0) (entered_at o p v) (Progress.Refused n (taken_of p))

-- once refused, refused
unfoldable pub offer_of : Opening → Progress → Bool → ℤ → Progress
offer_of o Progress.Begun other v = answered_at o Progress.Begun other v
offer_of o (Progress.First u) other v = answered_at o (Progress.First u) other v
offer_of o (Progress.Bracketed k) other v = answered_at o (Progress.Bracketed k) other v
offer_of o (Progress.Refused n i) other v = Progress.Refused n i

-- a value comes with no point of its own
unfoldable pub take_of : Opening → Progress → ℤ → Progress
take_of o p v = offer_of o p false v

-- the values in turn
unfoldable pub progress_of : Opening → List ℤ → Progress
progress_of o vs = foldl (take_of o) (begin_of o) vs

-- each answer in turn, its point tried against the one called for; the shorter of the two lists ends them
unfoldable pub answers_of : Opening → Progress → List ℤ → List ℤ → Progress
answers_of o p [] vs = p
answers_of o p (x ∷ xs) [] = p
answers_of o p (x ∷ xs) (v ∷ vs) = answers_of o (offer_of o p (other_at o p x) v) xs vs

-- ---- the report

-- the stop, or the next point
unfoldable pub bracket_report : Opening → Bracket → Report
bracket_report o k =
    cond (stopped_of o k) (Report.Stop (lower_of k) (upper_of k) k.better.point k.taken) (Report.Next (next_of o k) k.taken)

unfoldable pub report_at : Opening → Progress → Report
report_at o Progress.Begun = Report.Next (first_of o) 0
report_at o (Progress.First v) = Report.Next (second_of o) 1
report_at o (Progress.Bracketed k) = bracket_report o k
report_at o (Progress.Refused n i) = Report.Refused n i

abbrev pub is_refusal : Report → Bool
is_refusal (Report.Next point taken) = false
is_refusal (Report.Stop lower upper better taken) = false
is_refusal (Report.Refused n i) = true

-- the search over a list of values
unfoldable pub report_of : Opening → List ℤ → Report
report_of o vs = report_at o (progress_of o vs)

-- ---- the quote

-- the distance between the ends
abbrev pub distance_of : Opening → ℕ
distance_of o = gap_of (first_of o) (second_of o)

-- the number of binary digits of the whole part of (W − 1)/(2τ); none for zero
unfoldable pub turns_of : ℕ → ℕ → ℕ
turns_of τ W = digits ((W - 1) / (2 * τ))

-- t, from τ alone, whatever p is
abbrev pub t_of : Opening → ℕ
t_of o = turns_of (nat_abs o.tolerance) (distance_of o)

-- 2 + 4t by M, 2 + 5t by R
abbrev pub most_of : Opening → ℕ
most_of o = 2 + (allowed (method_of o) + 1) * t_of o

unfoldable pub quote_of : Opening → Result Quote Refusal
quote_of o = cond (eqb (opening_refusal o) 0) (Ok (record { t = t_of o; most = most_of o })) (Err (refusal (opening_refusal o) 0))
