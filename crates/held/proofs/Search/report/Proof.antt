-- `held::Search::report` meets its contract: no answer comes after the values held.
-- Assumes nothing.
use borrow.Author.Rules.{rules}
use Rattle.rules.specs.Search.{answers_of}
use Rattle.verdicts.specs.Judged.{standing_by}
use Rattle.held.specs.Held.{standing_of, held_report}
use Rattle.held.proofs.Search.report.Statement.{statement}
use Rattle.held.proofs.Search.report.Tie as tie

slice-aggregate-told : tie.Need-slice_bounds-told-end-2
slice-aggregate-told c = search rules

slice-aggregate-told-2 : tie.Need-slice_bounds-told-end-3
slice-aggregate-told-2 c = search rules

told-requires : tie.Need-told-requires
told-requires c κs = search rules

returns : tie.Need-returns
unfolding held_report standing_of standing_by answers_of
returns c = c.told.ensures

pub report_spec : {M : Type 1} → statement M
report_spec =
    tie.close (tie.spec slice-aggregate-told slice-aggregate-told-2 told-requires returns)
