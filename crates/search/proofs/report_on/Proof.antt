-- `search::report_on` meets its contract: no answer comes after the values.
-- Assumes nothing.
use borrow.Author.Rules.{rules}
use Rattle.rules.specs.Search.{answers_of, report_of}
use Rattle.search.proofs.report_on.Statement.{statement}
use Rattle.search.proofs.report_on.Tie as tie

slice-aggregate-none : tie.Need-slice_bounds-none-end
slice-aggregate-none c = search rules

follow-requires : tie.Need-follow-requires
follow-requires c κs = search rules

returns : tie.Need-returns
unfolding report_of answers_of
returns c = c.follow.ensures

pub report_on_spec : {M : Type 1} → statement M
report_on_spec = tie.close (tie.spec slice-aggregate-none follow-requires returns)
