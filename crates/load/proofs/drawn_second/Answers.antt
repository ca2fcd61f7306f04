-- `load::drawn_second` meets its contract: the draw's point, or the one after x0.
-- Assumes nothing.
use Rattle.std.proofs.Common.{sym, ◌∙◌, eq-eqb, ne_eqb}
use Rattle.loading.specs.Loading.{drawn_second}
use Rattle.load.proofs.drawn_second.Goals as goal

pub returns-then-point-x0 : goal.returns-then-point-x0
unfolding drawn_second
returns-then-point-x0 c = rw (eq-eqb _ _ (sym c.drawn_point-point.ensures ∙ c.if-point-x0.true))

pub returns : goal.returns
unfolding drawn_second
returns c =
    let p = c.drawn_point-point.ensures in
    rw (ne_eqb _ _ (λ e. c.if-point-x0.false (p ∙ e))) p
