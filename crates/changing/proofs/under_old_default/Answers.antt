-- `changing::under_old_default` meets its contract: the method's number is read with 0 as M, and the others stay.
-- Assumes nothing.
use mathlib.Core.Path.{ap, ◌∙◌}
use borrow.Author.Rules.{rules}
use lib.IntN.{ℤ}
use mir.Syntax.{w32}
use mir.Val.{SFits}
use Rattle.integers.proofs.Bounds.{read}
use Rattle.rules.specs.declared.Opening.{Opening}
use Rattle.changeover.specs.Changeover.{opening_under}
use Rattle.changing.proofs.under_old_default.Goals as goal

pub returns : goal.returns
unfolding opening_under
returns c =
    let o = c.args.o in
    let f : SFits w32 o.method = search rules in
    let g : SFits w32 c.number_under.result = search rules in
    let named : ℤ → Opening =
    λ z. record { method = z; first = o.first; second = o.second; tolerance = o.tolerance; share = o.share } in
    ap named (read g ∙ (rw (read f) at c.number_under.ensures))
