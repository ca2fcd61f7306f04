-- The journal, which is document 01's trial book, in the order of its section: a list of answers, empty at first; accepted means
-- entered in it, and n is their number. Its reports are computed from the list from scratch. It shares rules 1 to 8 with the search, and
-- the numbers of the refusals; which of them applies it decides by itself.
-- Assumes nothing.
use Rattle.std.specs.Prelude.{ℕ, ◌≡◌, Bool, false, cond, not, List, [], ◌∷◌, ◌++◌, eqb, ltb, ℤ, pos, nat_abs, length}
use Rattle.integers.specs.Signs.{eq_z}
use Rattle.rules.specs.declared.Opening.{Opening}
use Rattle.rules.specs.declared.Answer.{Answer}
use Rattle.rules.specs.declared.Sample.{Sample}
use Rattle.rules.specs.declared.Bracket.{Bracket}
use Rattle.rules.specs.declared.Report.{Report}
use Rattle.rules.specs.Rules.{largest_value, first_of, second_of, start_of, lower_of, upper_of, Inside, stopped_of, next_of, advance_of}
use Rattle.rules.specs.Refusals.{had_stopped, not_called_for, value_out_of_range, same_sign, same_side}

-- ---- the bracket: from n = 2 on, rules 1 to 8, applied to the answers in order

-- a point that was called for, with its value
abbrev pub sample_of : Answer → Sample
sample_of a = record { point = nat_abs a.point; value = a.value }

abbrev pub advanced_by : Bracket → List Answer → Bracket
advanced_by k [] = k
advanced_by k (a ∷ rest) = advanced_by (advance_of k (sample_of a)) rest

-- after the answers a, b and then the others
abbrev pub bracket_of : Answer → Answer → List Answer → Bracket
bracket_of a b rest = advanced_by (start_of (sample_of a) (sample_of b)) rest

-- ---- the stop and the point called for

-- below n = 2 there is no stop
unfoldable pub stop_of : Opening → List Answer → Bool
stop_of o [] = false
stop_of o (a ∷ []) = false
stop_of o (a ∷ b ∷ rest) = stopped_of o (bracket_of a b rest)

-- x0 is called for at 0, x1 at 1
unfoldable pub point_called : Opening → List Answer → ℕ
point_called o [] = first_of o
point_called o (a ∷ []) = second_of o
point_called o (a ∷ b ∷ rest) = next_of o (bracket_of a b rest)

-- ---- the report: the point and n, or at the stop lower, upper, b and n

abbrev pub report_with : Opening → Bracket → ℕ → Report
report_with o k n =
    cond (stopped_of o k) (Report.Stop (lower_of k) (upper_of k) k.better.point n) (Report.Next (next_of o k) n)

unfoldable pub journal_report : Opening → List Answer → Report
journal_report o [] = Report.Next (point_called o []) 0
journal_report o (a ∷ []) = Report.Next (point_called o (a ∷ [])) 1
journal_report o (a ∷ b ∷ rest) = report_with o (bracket_of a b rest) (length (a ∷ b ∷ rest))

-- ---- an offered answer, tried against the row "Each answer in turn", with this stop and this point

-- it is the second, and the first two values are both positive or both negative
abbrev pub one_side : List Answer → ℤ → Bool
one_side [] v = false
one_side (a ∷ []) v = same_side a.value v
one_side (a ∷ b ∷ rest) v = false

-- the first refusal that applies, 0 where none does
unfoldable pub refusal_of : Opening → List Answer → Answer → ℕ
refusal_of o journal a =
    cond (stop_of o journal) had_stopped
    (cond (not (eq_z a.point (pos (point_called o journal)))) not_called_for
    (cond (ltb largest_value (nat_abs a.value)) value_out_of_range
    (cond (one_side journal a.value) same_sign 0)))

abbrev pub takes : Opening → List Answer → Answer → Bool
takes o journal a = eqb (refusal_of o journal a) 0

-- refused: the journal stays; otherwise the answer is put at its end
unfoldable pub journal_with : Opening → List Answer → Answer → List Answer
journal_with o journal a = cond (takes o journal a) (journal ++ (a ∷ [])) journal

-- what the call answers: the journal's new report, or the refusal with index n
unfoldable pub told_of : Opening → List Answer → Answer → Report
told_of o journal a =
    cond (takes o journal a) (journal_report o (journal ++ (a ∷ []))) (Report.Refused (refusal_of o journal a) (length journal))

-- ---- a run

-- the journal once all have been offered
unfoldable pub journal_after : Opening → List Answer → List Answer → List Answer
journal_after o journal [] = journal
journal_after o journal (a ∷ offers) = journal_after o (journal_with o journal a) offers

-- what the calls answer, in turn
unfoldable pub told_all : Opening → List Answer → List Answer → List Report
told_all o journal [] = []
told_all o journal (a ∷ offers) = told_of o journal a ∷ told_all o (journal_with o journal a) offers

-- ---- the brackets after each entry, from the second on

abbrev pub brackets_from : Bracket → List Answer → List Bracket
brackets_from k [] = k ∷ []
brackets_from k (a ∷ rest) = k ∷ brackets_from (advance_of k (sample_of a)) rest

unfoldable pub brackets_of : List Answer → List Bracket
brackets_of [] = []
brackets_of (a ∷ []) = []
brackets_of (a ∷ b ∷ rest) = brackets_from (start_of (sample_of a) (sample_of b)) rest

-- each lies within the one before
abbrev pub Nested : List Bracket → Type 0
Nested [] = Unit {0}
Nested (k ∷ []) = Unit {0}
Nested (k ∷ k' ∷ ks) = Inside k k' × Nested (k' ∷ ks)

-- and its two values are never both above or both below target
abbrev pub Opposed : List Bracket → Type 0
Opposed [] = Unit {0}
Opposed (k ∷ ks) = (same_side k.better.value k.other.value ≡ false) × Opposed ks
