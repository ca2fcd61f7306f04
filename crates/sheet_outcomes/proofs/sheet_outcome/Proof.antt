-- `sheet_outcomes::sheet_outcome` meets its contract: by the report on the sheet.
-- Assumes nothing.
use mathlib.Core.Path.{◌≡◌, sym, subst, ◌∙◌}
use native.Mathlib.Omega.{arith}
use Rattle.rules.specs.declared.Report.{Report}
use Rattle.seasons.specs.Sheets.{outcome_by, sheet_outcome}
use Rattle.seasons.proofs.SheetsHold.{TakenFew, outcome_read, taken_few, every_sheet}
use borrow.Author.Rules.{rules}
use Rattle.sheet_outcomes.proofs.sheet_outcome.Statement.{statement}
use Rattle.sheet_outcomes.proofs.sheet_outcome.Tie as tie

-- the outcome, by the report r on the sheet
told : (c : tie.After-most_quoted-quoted) {r : Report}
    → c.brief_of-brief.result.report ≡ r
    → outcome_by c.method_written-method.result c.brief_of-brief.result.opening r
    ≡ sheet_outcome c.args.text.now
told c e =
    let b = c.brief_of-brief.ensures in
    rw (← e, c.method_written-method.ensures, b.1, b.2) (outcome_read c.args.text.now)

-- the answers taken are few
few : (c : tie.After-most_quoted-quoted) {r : Report} → c.brief_of-brief.result.report ≡ r → TakenFew r
few c e =
    let s = c.before.before in
    subst TakenFew (sym s.brief_of-brief.ensures.2 ∙ e) (taken_few s.args.text.now)

brief-of-requires : tie.Need-brief_of-brief-requires
brief-of-requires c κs = search rules

method-written-requires : tie.Need-method_written-method-requires
method-written-requires c κs = c.brief_of-brief.ensures.0

most-quoted-requires : tie.Need-most_quoted-quoted-requires
most-quoted-requires c κs = search rules

enum-known-report : tie.Need-enum_known-report
enum-known-report c = search rules

cast-result : tie.Need-overflow_cast-result
cast-result c = let h = few c.before c.in-Stop.is in omega arith

enum-known-report-2 : tie.Need-enum_known-report-in-Next-1
enum-known-report-2 c = search rules

cast-result-2 : tie.Need-overflow_cast-result-in-Next
cast-result-2 c = let h = few c.before c.in-Next.is in omega arith

enum_told : tie.Need-enum_told-1
enum_told c = search rules

returns : tie.Need-returns-in-Stop
returns c = let q = c.before in (rw q.most_quoted-quoted.ensures (told q c.in-Stop.is), every_sheet)

returns-2 : tie.Need-returns-in-Next
returns-2 c = let q = c.before in (rw q.most_quoted-quoted.ensures (told q c.in-Next.is), every_sheet)

returns-3 : tie.Need-returns-in-Refused
returns-3 c = (told c.before c.in-Refused.is, every_sheet)

pub sheet_outcome_spec : {M : Type 1} → statement M
sheet_outcome_spec =
    tie.close
    (tie.spec
    brief-of-requires
    method-written-requires
    most-quoted-requires
    enum-known-report
    cast-result
    enum-known-report-2
    cast-result-2
    enum_told
    returns
    returns-2
    returns-3)
