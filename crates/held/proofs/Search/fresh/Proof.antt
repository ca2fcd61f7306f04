-- `held::Search::fresh` meets its contract: the opening is offered to a blank.
-- Assumes nothing.
use mathlib.Core.Path.{ap, ◌∙◌}
use borrow.Author.Rules.{rules}
use Rattle.held.specs.declared.Search.{Search}
use Rattle.held.specs.Held.{reopen_of}
use Rattle.held.proofs.Search.fresh.Statement.{statement}
use Rattle.held.proofs.Search.fresh.Tie as tie

blank-requires : tie.Need-blank-none-requires
blank-requires c κs = search rules

reopen-requires : tie.Need-reopen-requires
reopen-requires c κs = search rules

returns : tie.Need-returns
returns c = c.reopen.ensures ∙ ap (λ (s : Search). reopen_of s c.args.opening) c.blank-none.ensures

pub fresh_spec : {M : Type 1} → statement M
fresh_spec = tie.close (tie.spec blank-requires reopen-requires returns)
