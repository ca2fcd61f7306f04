-- `brackets::partner` meets its contract: the sign test and the test of the points are the definition's.
-- Assumes nothing.
use mathlib.Core.Path.{◌≡◌, sym, ◌∙◌}
use mathlib.Core.Bool.{Bool}
use borrow.Author.Tests.{eq-eqb, ne_eqb}
use mir.Syntax.{w32}
use mir.Val.{SFits}
use Rattle.integers.proofs.Bounds.{read}
use Rattle.rules.specs.Rules.{opposed, partner_of}
use borrow.Author.Rules.{rules}
use Rattle.brackets.proofs.partner.Statement.{statement}
use Rattle.brackets.proofs.partner.Tie as tie

abbrev opposed-at : tie.Start → Bool
opposed-at s = opposed s.args.x.value s.args.k.last.value

test : (c : tie.After-opposed) → opposed-at c.before.before.before.before ≡ c.opposed.result
test c =
    let s = c.before.before.before.before.args in
    let f : SFits w32 s.x.value = search rules in
    let g : SFits w32 s.k.last.value = search rules in
    sym (rw (read f, read g) at c.opposed.ensures)

opposed-requires : tie.Need-opposed-requires
opposed-requires c κs = search rules

returns : tie.Need-returns-then-opposed
unfolding partner_of
returns c = simp (test c.before ∙ c.if-opposed.true)

returns-2 : tie.Need-returns-then-last-k
unfolding partner_of
returns-2 c =
    let p = c.before.before.before.before in
    simp (test p.before ∙ p.if-opposed.false, eq-eqb _ _ c.before.if-last-k.true)

returns-3 : tie.Need-returns-else-last-k
unfolding partner_of
returns-3 c =
    let p = c.before.before.before.before in
    simp (test p.before ∙ p.if-opposed.false, ne_eqb _ _ c.before.if-last-k.false)

pub partner_spec : {M : Type 1} → statement M
partner_spec = tie.close (tie.spec opposed-requires returns returns-2 returns-3)
