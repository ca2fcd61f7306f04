-- `dispatch_runs::make_calls` meets its contract: the calls are made one by one, and then all of them are.
-- Assumes nothing.
use Rattle.std.proofs.Common.{◌≡◌, length, arith, rules}
use Rattle.dispatching.specs.Dispatching.{dryers}
use Rattle.dispatching.proofs.DispatchingLaws.{length_mapped}
use Rattle.dispatch_runs.specs.RunsLaws.{made_none, one_before, made_more, made_all}
use Rattle.dispatch_runs.proofs.make_calls.Goals as goal

pub loop-i-init : goal.loop-i-init
loop-i-init c = made_none _ _ _ _ _

pub call_at-next-requires : goal.call_at-next-requires
call_at-next-requires c = one_before _ _ _ _ _ c.loop-i.invariant c.number_of_calls-n.ensures (omega arith)

pub loop-i-preserved : goal.loop-i-preserved
loop-i-preserved c = made_more _ _ _ _ _ c.loop-i.invariant c.number_of_calls-n.ensures (omega arith) c.call_at-next.ensures

pub returns : goal.returns
returns c =
    let d = c.args.d in
    let six : length d.searches ≡ dryers = search (length_mapped, rules) in
    let six_counts : length d.counts ≡ dryers = search (length_mapped, rules) in
    made_all _ _ _ _ _ c.loop-i.invariant c.number_of_calls-n.ensures six six_counts (omega arith)
