-- `load::placed_value` meets its contract: a value in range can be negated.
-- Assumes nothing.
use Rattle.std.proofs.Common.{◌≡◌, sym, ap₂, ◌∙◌, ◌≤◌, eq-eqb, ne_eqb}
use Rattle.std.proofs.Math.IntN.{ℤ, pos, nat_abs, neg_ℤ, ◌-ℤ◌}
use mir.Syntax.{w32}
use mir.Val.{SFits, to_z, of_z}
use mir.Facts.{to_z-of_z}
use Rattle.integers.proofs.Bounds.{read, zero_sub, within_neg, within_fits}
use Rattle.rules.specs.Rules.{largest_value}
use Rattle.rules.specs.Refusals.{same_side}
use Rattle.loading.specs.Loading.{placed_value}
use Rattle.load.proofs.placed_value.Goals as goal

negated : {v : ℤ} → SFits w32 v → nat_abs v ≤ largest_value → to_z w32 (of_z w32 (pos 0 -ℤ to_z w32 (of_z w32 v))) ≡ neg_ℤ v
negated {v} f h =
    let d : pos 0 -ℤ to_z w32 (of_z w32 v) ≡ neg_ℤ v = rw (read f) (zero_sub v) in
    let g : SFits w32 (pos 0 -ℤ to_z w32 (of_z w32 v)) = rw d (within_fits (within_neg {z = v} {m = largest_value} (record { abs_le = h })) tt) in
    to_z-of_z g ∙ d

pub returns-then-place-ne1 : goal.returns-then-place-ne1
unfolding placed_value
returns-then-place-ne1 c = rw (read c.ranges.v, ne_eqb c.args.place 1 c.if-place-ne1.true)

pub returns-then-same_side : goal.returns-then-same_side
unfolding placed_value
returns-then-same_side c =
    let same = c.same_side.ensures ∙ ap₂ same_side (read c.ranges.u) (read c.ranges.v) in
    negated c.ranges.v c.requires ∙ sym (simp (eq-eqb c.args.place 1 c.if-place-ne1.false, sym same ∙ c.if-same_side.true))

pub returns : goal.returns
unfolding placed_value
returns c =
    let same = c.same_side.ensures ∙ ap₂ same_side (read c.ranges.u) (read c.ranges.v) in
    read c.ranges.v ∙ sym (simp (eq-eqb c.args.place 1 c.if-place-ne1.false, sym same ∙ c.if-same_side.false))
