-- `replay::make_calls` meets its contract: the calls are made one by one, and then all of them are.
-- Assumes nothing.
use Rattle.std.proofs.Common.{arith}
use Rattle.replay.specs.CallsLaws.{made_none, one_before, made_more, made_all}
use Rattle.replay.proofs.make_calls.Goals as goal

pub loop-i-init : goal.loop-i-init
loop-i-init c = made_none _ _ _ _ _

pub call_at-search-requires : goal.call_at-search-requires
call_at-search-requires c = one_before _ _ _ _ _ c.loop-i.invariant c.number_of_calls-n.ensures (omega arith)

pub loop-i-preserved : goal.loop-i-preserved
loop-i-preserved c = made_more _ _ _ _ _ c.loop-i.invariant c.number_of_calls-n.ensures (omega arith) c.call_at-search.ensures

pub returns : goal.returns
returns c = made_all _ _ _ _ _ c.loop-i.invariant c.number_of_calls-n.ensures (omega arith)
