-- `dispatch::settled` meets its contract: refused, or accepted.
-- Assumes nothing.
use Rattle.std.proofs.Common.{sym, ◌∙◌}
use Rattle.dispatching.proofs.DispatchingLaws.{settled_refused, settled_accepted}
use Rattle.dispatch.proofs.settled.Goals as goal

pub returns-then-is_refusal : goal.returns-then-is_refusal
returns-then-is_refusal c = sym (settled_refused _ _ _ (sym c.is_refusal.ensures ∙ c.if-is_refusal.true))

pub returns : goal.returns
returns c = sym (settled_accepted _ _ _ (sym c.is_refusal.ensures ∙ c.if-is_refusal.false))
