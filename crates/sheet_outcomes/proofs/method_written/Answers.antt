-- `sheet_outcomes::method_written` meets its contract: where the form tells that the first record is an opening, its first number is the method.
-- Assumes nothing.
use Rattle.std.proofs.Common.{◌≡◌, sym, ap, ◌∙◌, rules, w32, to_z, of_z}
use Rattle.forms.specs.Entries.{opening_of}
use Rattle.scanning.specs.Scan.{first_record}
use Rattle.seasons.specs.Sheets.{method_number, method_written}
use Rattle.sheet_outcomes.specs.WrittenLaws.{By, by_form, first_scanned, never_unscanned}
use Rattle.sheet_outcomes.proofs.method_written.Goals.{Start}
use Rattle.sheet_outcomes.proofs.method_written.Goals as goal

-- what the form tells
known : (c : Start) → By (method_written c.args.text.now) (opening_of (first_record c.args.text.now)) c.args.form
known c = rw c.requires (by_form c.args.text.now)

pub returns-then-not-has_opening : goal.returns-then-not-has_opening
returns-then-not-has_opening c = (known (goal.at.returns-then-not-has_opening c).Start).without (sym c.if-not-has_opening.ensures)

pub returns-in-Some : goal.returns-in-Some
returns-in-Some c =
    let o = (known (goal.at.returns-in-Some c).Start).with_one (sym c.if-not-has_opening.ensures) in
    let m : to_z w32 (of_z w32 c.in-Some.head.value.0) ≡ c.in-Some.head.value.0 = search rules in
    c.method_number.ensures ∙ ap method_number m ∙ first_scanned _ o.found (sym c.scan_pair.ensures ∙ c.in-Some.is) ∙ sym o.is

pub returns-in-None : goal.returns-in-None
returns-in-None c =
    let o = (known (goal.at.returns-in-None c).Start).with_one (sym c.if-not-has_opening.ensures) in
    never_unscanned _ o.found (sym c.scan_pair.ensures ∙ c.in-None.is)
