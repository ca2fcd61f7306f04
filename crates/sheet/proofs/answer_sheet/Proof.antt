-- `sheet::answer_sheet` meets its contract: the record of the report that the text is read as.
-- Assumes nothing.
use mathlib.Core.Path.{ap, ◌∙◌}
use borrow.Author.Rules.{rules}
use Rattle.held.specs.declared.Entered.{Entered}
use Rattle.printing.specs.Printed.{record_of, placed, placed_length}
use Rattle.sheet.proofs.answer_sheet.Statement.{statement}
use Rattle.sheet.proofs.answer_sheet.Tie as tie

read-sheet-requires : tie.Need-read_sheet-e-requires
read-sheet-requires c κs = search rules

write-report-requires : tie.Need-write_report-requires
write-report-requires c κs = search rules

same_length : tie.Need-shape_of-out
same_length c = search rules

returns : tie.Need-returns
returns c =
    let w = c.write_report.ensures in
    let r = c.read_sheet-e.ensures in
    let out = c.args.out.now in (
      w.0 ∙ ap (λ (e : Entered). placed_length (record_of e.report) out) r,
      w.1.0 ∙ ap (λ (e : Entered). placed (record_of e.report) out) r,
    )

pub answer_sheet_spec : {M : Type 1} → statement M
answer_sheet_spec = tie.close (tie.spec read-sheet-requires write-report-requires same_length returns)
