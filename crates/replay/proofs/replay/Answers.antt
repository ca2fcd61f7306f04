-- `replay::replay` meets its contract: what a refused opening opens as is what is answered; for an accepted one the claim about whole
-- runs says that the calls made are the journal's.
-- Assumes nothing.
use Rattle.replay.specs.ReplayLaws.{replays_refused, replays_accepted}
use Rattle.replay.proofs.replay.Goals as goal

pub returns-then-is_refusal : goal.returns-then-is_refusal
returns-then-is_refusal c = replays_refused _ _ _ _ _ c.fresh-begun.ensures c.is_refusal.ensures c.if-is_refusal.true

pub returns : goal.returns
returns c = replays_accepted _ _ _ _ _ c.fresh-begun.ensures c.is_refusal.ensures c.if-is_refusal.false c.make_calls-search.ensures
