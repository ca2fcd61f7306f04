-- `dispatch_calls::call` meets its contract: an opening or an answer, by its kind.
-- Assumes nothing.
use Rattle.std.proofs.Common.{◌≡◌, sym, ap, ◌∙◌, arith}
use Rattle.dispatching.specs.Calls.{call_of}
use Rattle.dispatch_calls.specs.ListedLaws.{call_opening, call_answer}
use Rattle.dispatch_calls.proofs.call.Goals as goal

pub returns-then-kind-eq0 : goal.returns-then-kind-eq0
returns-then-kind-eq0 c =
    let x = c.args in
    let opens : x.kind ≡ 0 = omega arith in
    c.open.ensures ∙ sym (ap (call_of x.d) (call_opening x.kind x.dryer x.o x.a opens))

pub returns-else-kind-eq0 : goal.returns-else-kind-eq0
returns-else-kind-eq0 c =
    let x = c.args in
    c.enter.ensures ∙ sym (ap (call_of x.d) (call_answer x.kind x.dryer x.o x.a (λ h. omega arith)))
