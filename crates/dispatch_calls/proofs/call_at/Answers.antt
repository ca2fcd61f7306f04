-- `dispatch_calls::call_at` meets its contract: the call at the place is made, and the row of the report stored.
-- Assumes nothing.
use Rattle.std.proofs.Common.{◌≡◌, ◌*◌, ap, ap₂, ◌∙◌, get_or}
use Rattle.std.proofs.lemmas.List.Edits.{sets}
use Rattle.rules.specs.declared.Opening.{Opening}
use Rattle.rules.specs.declared.Answer.{Answer}
use Rattle.rules.specs.declared.Row.{Row}
use Rattle.rules.specs.Rows.{row_of, row_numbers, numbers_each}
use Rattle.dispatching.specs.declared.Dispatched.{Dispatched}
use Rattle.dispatching.specs.Calls.{call_of}
use Rattle.dispatch_calls.specs.Listed.{call_with, call_at}
use Rattle.dispatch_calls.proofs.call_at.Goals as goal

-- the call that is made has the kind, the dryer and the numbers at the place
pub returns : goal.returns
returns c =
    let x = c.args in
    let made : c.call-told.result ≡ call_of x.d (call_at x.kinds.now x.dryers.now x.numbers.now x.i) =
    c.call-told.ensures
    ∙ ap₂ (λ (o : Opening) (a : Answer). call_of x.d (call_with (get_or x.kinds.now x.i 0) (get_or x.dryers.now x.i 0) o a))
    c.opening_at-o.ensures c.answer_at.ensures in
    let row = c.row_of.ensures ∙ ap (λ (r : Dispatched). row_of r.report) made in
    record {
      left = ap (λ (r : Dispatched). r.dispatcher) made;
      written = c.put_row.ensures ∙ ap (λ (w : Row). sets x.rows.now (numbers_each * x.i) (row_numbers w)) row;
    }
