-- `dispatch_calls::answer_at` meets its contract: both numbers are those at their places, within the list.
-- Assumes nothing.
use borrow.Author.Rules.{rules}
use Rattle.dispatch_calls.proofs.answer_at.Goals as goal

pub returns : goal.returns
returns c = search rules
