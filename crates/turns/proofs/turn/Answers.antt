-- `turns::turn` meets its contract, by the loop's invariant: what is asked in each round is whether the search at the dryer goes on.
-- Assumes nothing.
use Rattle.std.proofs.Common.{◌≡◌, ◌%◌, ◌+◌, length, sym, ap, ◌∙◌, arith, rules}
use Rattle.dispatching.specs.Dispatching.{dryers, search_at, unfinished}
use Rattle.dispatching.proofs.DispatchingLaws.{inside, length_mapped, ask_all, ask_none, ask_here, ask_next}
use Rattle.turns.proofs.turn.Goals as goal

pub loop-i-init : goal.loop-i-init
loop-i-init c = ask_all _ _ c.start_after-first.ensures

pub returns-then-goes_on : goal.returns-then-goes_on
returns-then-goes_on c =
    let l = c.loop-i in
    let d = c.args.d.now in
    let dryer = (c.start_after-first.result + l.i) % dryers in
    let six : length d.searches ≡ dryers = search (length_mapped, rules) in
    let there = inside d.searches dryer _ _ (omega (arith, six)) in
    let asked : c.goes_on.result ≡ unfinished (search_at d dryer) = c.goes_on.ensures ∙ ap unfinished there in
    sym (ask_here _ _ _ l.invariant c.loop-i-test.true (sym asked ∙ c.if-goes_on.true))

pub loop-i-preserved : goal.loop-i-preserved
loop-i-preserved c =
    let l = c.loop-i in
    let d = c.args.d.now in
    let dryer = (c.start_after-first.result + l.i) % dryers in
    let six : length d.searches ≡ dryers = search (length_mapped, rules) in
    let there = inside d.searches dryer _ _ (omega (arith, six)) in
    let asked : c.goes_on.result ≡ unfinished (search_at d dryer) = c.goes_on.ensures ∙ ap unfinished there in
    ask_next _ _ _ l.invariant c.loop-i-test.true (sym asked ∙ c.if-goes_on.false)

pub returns : goal.returns
returns c = sym (ask_none _ _ _ c.loop-i.invariant c.loop-i-test.false)
