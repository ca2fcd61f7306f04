-- Trial sheets: the outcome of a text, in the order of document 01's table: its form, then the opening, then each answer in turn. A
-- refusal names a record: 1 for the opening, k + 2 for value k.
-- Assumes nothing.
use Rattle.std.specs.Prelude.{ℕ, cond, List, eqb, take, Result, Ok, Err}
use Rattle.rules.specs.declared.Progress.{Progress}
use Rattle.rules.specs.declared.Refusal.{Refusal}
use Rattle.rules.specs.declared.Report.{Report}
use Rattle.rules.specs.Refusals.{opening_refusal}
use Rattle.rules.specs.Search.{report_at, answers_of}
use Rattle.held.specs.declared.Search.{Search}
use Rattle.held.specs.declared.Entered.{Entered}
use Rattle.held.specs.Held.{blank}
use Rattle.forms.specs.declared.Entries.{Entries}
use Rattle.forms.specs.Entries.{opening_place, answer_place, entries_of}

-- where the answers of a well-formed text lead
abbrev pub leads_to : Entries → Progress
leads_to e = answers_of e.opening Progress.Begun (take e.count e.points) (take e.count e.values)

-- the held search that a sheet is
abbrev pub kept_of : Entries → Search
kept_of e = record { opening = e.opening; count = e.count; slots = e.values }

-- a refused sheet is no search: a blank stands beside the refusal
abbrev pub refused_at : ℕ → ℕ → Entered
refused_at number place = record { report = Report.Refused number place; search = blank }

-- the report on where the answers lead, beside the held search
abbrev pub kept_as : Entries → Progress → Entered
kept_as e p = record { report = report_at e.opening p; search = kept_of e }

abbrev pub settled_as : Entries → Progress → Entered
settled_as e Progress.Begun = kept_as e Progress.Begun
settled_as e (Progress.First v) = kept_as e (Progress.First v)
settled_as e (Progress.Bracketed k) = kept_as e (Progress.Bracketed k)
settled_as e (Progress.Refused n i) = refused_at n (answer_place i)

-- the outcome of a text whose records are well formed
unfoldable pub outcome_of : Entries → Entered
outcome_of e =
    cond (eqb (opening_refusal e.opening) 0) (settled_as e (leads_to e)) (refused_at (opening_refusal e.opening) opening_place)

-- the outcome of a text
abbrev pub judged : Entries → Result (Unit {0}) Refusal → Entered
judged e (Err r) = refused_at r.number r.place
judged e (Ok u) = outcome_of e

unfoldable pub sheet_of : List ℕ → Entered
sheet_of text = judged (entries_of text) (entries_of text).form
