-- `held::Search::blank` meets its contract: it is unanswered, and every number of its opening is 0.
-- Assumes nothing.
use borrow.Author.Rules.{rules}
use Rattle.held.proofs.Search.blank.Statement.{statement}
use Rattle.held.proofs.Search.blank.Tie as tie

unanswered-requires : tie.Need-unanswered-requires
unanswered-requires c κs = search rules

returns : tie.Need-returns
returns c = c.unanswered.ensures

pub blank_spec : {M : Type 1} → statement M
blank_spec = tie.close (tie.spec unanswered-requires returns)
