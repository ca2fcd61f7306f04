-- `dispatch::open` meets its contract: the dryer, its search, then the opening.
-- Assumes nothing.
use Rattle.std.proofs.Common.{sym, ap, ◌∙◌}
use Rattle.held.specs.declared.Search.{Search}
use Rattle.held.specs.Held.{reopen_of}
use Rattle.dispatching.specs.Dispatching.{unfinished, with_search, settled_by}
use Rattle.dispatching.proofs.DispatchingLaws.{nowhere, there, opening_nowhere, opening_early, opening_due}
use Rattle.dispatch.proofs.open.Goals as goal

pub returns-in_default : goal.returns-in_default
returns-in_default c =
    let s = c.args in
    c.refused.ensures ∙ sym (opening_nowhere s.d s.dryer s.opening (nowhere s.d s.dryer c.in_default.ensures))

pub returns-then-goes_on : goal.returns-then-goes_on
returns-then-goes_on c =
    let s = c.args in
    let found = there s.d s.dryer _ c.in-Some.ensures in
    c.refused-then-goes_on.ensures
    ∙ sym (opening_early s.d s.dryer s.opening found.0
    (sym (ap unfinished found.1) ∙ sym c.goes_on.ensures ∙ c.if-goes_on.true))

pub returns : goal.returns
returns c =
    let s = c.args in
    let found = there s.d s.dryer _ c.in-Some.ensures in
    c.reopened.ensures
    ∙ ap (λ (h : Search). settled_by s.d (reopen_of h s.opening) (with_search s.d s.dryer (reopen_of h s.opening).search)) found.1
    ∙ sym (opening_due s.d s.dryer s.opening found.0
    (sym (ap unfinished found.1) ∙ sym c.goes_on.ensures ∙ c.if-goes_on.false))
