-- `dispatch_calls::opening_at` meets its contract: each number is the one at its place, within the list.
-- Assumes nothing.
use borrow.Author.Rules.{rules}
use Rattle.dispatch_calls.proofs.opening_at.Goals as goal

pub returns : goal.returns
returns c = search rules
