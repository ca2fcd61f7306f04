-- `dispatch::enter` meets its contract: the dryer, the turn, then the answer.
-- Assumes nothing.
use Rattle.std.proofs.Common.{◌≡◌, sym, ap, ◌∙◌, rules, FitsSigned, w32}
use Rattle.integers.proofs.Bounds.{read}
use Rattle.held.specs.declared.Search.{Search}
use Rattle.held.specs.declared.Entered.{Entered}
use Rattle.held.specs.Held.{enter_of}
use Rattle.dispatching.specs.Dispatching.{search_at, served_at, settled_by}
use Rattle.dispatching.proofs.DispatchingLaws.{nowhere, there, has_turn, has_no_turn}
use Rattle.dispatching.proofs.DispatchingLaws.{answer_nowhere, answer_early, answer_due}
use Rattle.dispatch.proofs.enter.Goals as goal

pub returns-in_default : goal.returns-in_default
returns-in_default c =
    let s = c.args in
    c.refused.ensures ∙ sym (answer_nowhere s.d s.dryer s.answer (nowhere s.d s.dryer c.in_default.ensures))

pub returns-then-ne : goal.returns-then-ne
returns-then-ne c =
    let s = c.args in
    c.refused-then-ne.ensures
    ∙ sym (answer_early s.d s.dryer s.answer (there s.d s.dryer _ c.in-Some.ensures).0
    (has_no_turn s.d s.dryer c.turn.ensures c.ne.ensures c.if-ne.true))

-- the search at the dryer answers, and what it answers is settled
pub returns : goal.returns
returns c =
    let s = c.args in
    let found = there s.d s.dryer _ c.in-Some.ensures in
    let p : FitsSigned w32 s.answer.point = search rules in
    let v : FitsSigned w32 s.answer.value = search rules in
    let entered : c.enter-e.result ≡ enter_of (search_at s.d s.dryer) s.answer.point s.answer.value =
    (rw (read p, read v) at c.enter-e.ensures) ∙ ap (λ (h : Search). enter_of h s.answer.point s.answer.value) found.1 in
    c.settled.ensures
    ∙ ap (settled_by s.d c.enter-e.result) c.served.ensures
    ∙ ap (λ (x : Entered). settled_by s.d x (served_at s.d s.dryer x.search)) entered
    ∙ sym (answer_due s.d s.dryer s.answer found.0 (has_turn s.d s.dryer c.turn.ensures c.ne.ensures c.if-ne.false))
