-- The claim about whole runs, demand 3: for every accepted opening and every list of calls, of any length, by value or into the
-- host's own search in any mixture, one record whose fields are the demand's clauses, and what request 2026-03 says of s. Nothing is
-- proved here: `run` in RunHolds is the proof.
-- Assumes nothing.
use Rattle.std.specs.Prelude.{ℕ, ◌+◌, ◌*◌, ◌^◌, ◌≤◌, ◌<◌, ◌≡◌, false, ◌↔◌, List, [], ◌∷◌, map, nat_abs, length, take, Ok}
use Rattle.integers.specs.Digits.{Least}
use Rattle.rules.specs.declared.Opening.{Opening}
use Rattle.rules.specs.declared.Answer.{Answer}
use Rattle.rules.specs.declared.Bracket.{Bracket}
use Rattle.rules.specs.declared.Progress.{Progress}
use Rattle.rules.specs.declared.Report.{Report}
use Rattle.rules.specs.Rules.{padded, method_of, width_of, allowed}
use Rattle.rules.specs.Refusals.{Accepted}
use Rattle.rules.specs.Search.{progress_of, report_of, distance_of, t_of, most_of, quote_of}
use Rattle.rules.specs.Streak.{streak_over}
use Rattle.held.specs.declared.Search.{Search}
use Rattle.held.specs.declared.Entered.{Entered}
use Rattle.held.specs.Held.{fresh_of, held_report, enter_of}
use Rattle.outcomes.specs.Sheet.{sheet_of}
use Rattle.journal.specs.Answers.{values}
use Rattle.journal.specs.Journal.{stop_of, journal_report, journal_after, told_all, brackets_of, Nested, Opposed}
use Rattle.journal.specs.Spelling.{SheetText}
use Rattle.journal.specs.Reading.{ReadAs}

-- ---- a run of calls

-- a call that enters an answer: by value, or into the host's own search
pub data Call : Type 0 where
  by_value : Answer → Call
  into : Answer → Call

abbrev pub offered : Call → Answer
offered (by_value a) = a
offered (into a) = a

-- what a call answers and the search that it returns or leaves: `held::Search::enter` and `lent::enter_into` are proved to do this
abbrev pub call_of : Search → Call → Entered
call_of s (by_value a) = enter_of s a.point a.value
call_of s (into a) = enter_of s a.point a.value

-- each call gets the search that the one before returned or left
unfoldable pub reports_of : Search → List Call → List Report
reports_of s [] = []
reports_of s (c ∷ calls) = (call_of s c).report ∷ reports_of (call_of s c).search calls

unfoldable pub search_after : Search → List Call → Search
search_after s [] = s
search_after s (c ∷ calls) = search_after (call_of s c).search calls

-- the journal once all the calls have been made, and at place i: after the first i of them
abbrev pub journal_of : Opening → List Call → List Answer
journal_of o calls = journal_after o [] (map offered calls)

abbrev pub journal_at : Opening → List Call → ℕ → List Answer
journal_at o calls i = journal_of o (take i calls)

-- the search that holds a journal: the opening, n as its count, the values in its first n slots in order, and 0 in the others
abbrev pub holding : Opening → List Answer → Search
holding o journal = record { opening = o; count = length journal; slots = padded (values journal) }

-- ---- the running number

-- the search over a journal's values has come to a bracket, and the running number that it keeps there is rule 7's s, by looking back over
-- the widths of the journal's brackets, and at most m
pub record Remembered (m : ℕ) (o : Opening) (journal : List Answer) : Type 0 where
  pub bracket : Bracket
  pub walked : progress_of o (values journal) ≡ Progress.Bracketed bracket
  pub streak : bracket.streak ≡ streak_over (map width_of (brackets_of journal))
  pub most : bracket.streak ≤ m

-- ---- the claim

pub record Run (o : Opening) (calls : List Call) : Type 0 where
  -- in every run each call answers as the journal does, refusals with index n included
  pub reports : reports_of (fresh_of o) calls ≡ told_all o [] (map offered calls)
  -- afterwards the search holds the opening, n as its count, the journal's values in its first n slots in order, and 0 in the others
  pub search : search_after (fresh_of o) calls ≡ holding o (journal_of o calls)
  -- at every place: while the search has not stopped, fewer than 2 + (m + 1) t answers are accepted, m being 3 by M and 4 by R; at the
  -- stop, at most that many
  pub before_stop : (i : ℕ) → stop_of o (journal_at o calls i) ≡ false → length (journal_at o calls i) < most_of o
  pub at_most : (i : ℕ) → length (journal_at o calls i) ≤ most_of o
  -- from the second accepted answer on, each bracket lies within the one before
  pub nested : Nested (brackets_of (journal_of o calls))
  -- and its two values are never both above or both below target
  pub opposed : Opposed (brackets_of (journal_of o calls))
  -- at every place from the second accepted answer on: the running number is rule 7's s, and at most m
  pub streak : (i : ℕ) → 2 ≤ length (journal_at o calls i) → Remembered (allowed (method_of o)) o (journal_at o calls i)
  -- at every place: the held search's own report is the journal's
  pub over_held : (i : ℕ) → held_report (search_after (fresh_of o) (take i calls)) ≡ journal_report o (journal_at o calls i)
  -- so is that of the search over the list of the journal's values, for n = 0 too
  pub over_list : (i : ℕ) → report_of o (values (journal_at o calls i)) ≡ journal_report o (journal_at o calls i)
  -- so is the reader's, for every text that spells the opening and the journal's answers
  pub over_sheet : (i : ℕ) (text : List ℕ) → SheetText text o (journal_at o calls i) → (sheet_of text).report ≡ journal_report o (journal_at o calls i)
  -- there is such a text
  pub sheet : (i : ℕ) → (text : List ℕ) × SheetText text o (journal_at o calls i)
  -- and these are the texts that the reader takes as the opening and the journal's answers, all of them and no other
  pub spelled : (i : ℕ) (text : List ℕ) → ReadAs text o (journal_at o calls i) ↔ SheetText text o (journal_at o calls i)
  -- the t told for the opening is demand 3's t, and the most answers told are 2 + (m + 1) t
  pub quoted : quote_of o ≡ Ok (record { t = t_of o; most = most_of o })
  pub least : Least (λ t. distance_of o ≤ nat_abs o.tolerance * 2 ^ (t + 1)) (t_of o)

-- for every accepted opening and every list of calls
abbrev pub EveryRun : Type 0
EveryRun = (o : Opening) → Accepted o → (calls : List Call) → Run o calls
