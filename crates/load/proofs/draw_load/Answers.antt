-- `load::draw_load` meets its contract: each turn enters one value more at the point called for, and the load is whole where none is.
-- Assumes nothing.
use Rattle.std.proofs.Common.{◌≡◌, ◌<◌, ◌^◌, pos, ap, ap₂, ◌∙◌, arith, rules, FitsSigned, w32}
use mir.Facts.{to_z_pos}
use Rattle.integers.proofs.Bounds.{read}
use Rattle.held.specs.Held.{open_of, enter_of}
use Rattle.loading.specs.Loading.{draw_of, drawn_value, placed_value}
use Rattle.loading.proofs.DrawLaws.{value_within}
use Rattle.loading.proofs.DrawingLaws.{opening_drawn, fifth_drawn, drawing_begin, drawing_end, drawing_limited, drawing_more, drawing_less}
use Rattle.load.proofs.draw_load.Goals as goal

pub loop-load-init : goal.loop-load-init
loop-load-init c =
    let a = c.next_draw-a.ensures in
    let b = c.next_draw-b.ensures in
    let r = c.next_draw-c.ensures in
    let d = c.next_draw-d.ensures in
    let opening = opening_drawn _ _ _ _ _ a b r d _ c.drawn_opening.ensures in
    drawing_begin _ _ c.fresh-load.result (fifth_drawn _ _ _ _ _ a b r d _ c.next_draw-draw.ensures) (c.fresh-load.ensures ∙ ap open_of opening)

pub placed_value-value-requires : goal.placed_value-value-requires
placed_value-value-requires c =
    let f : FitsSigned w32 c.drawn_value.result = search rules in
    rw (read f, c.drawn_value.ensures) (value_within _).abs_le

pub overflow_cast-point : goal.overflow_cast-point
overflow_cast-point c =
    let l = c.loop-load in
    let h = (drawing_limited _ l.draw l.load l.invariant _ _ c.in-Next.is).0 in
    search rules

-- once the next value has been entered: it is the one at its place, and stands at the point called for
module _ (c : goal.After-next_draw-draw-in-Next) where
  value_is : c.placed_value-value.result ≡ placed_value c.in-Next.taken (drawn_value (draw_of c.args.seed 5)) (drawn_value c.loop-load.draw)
  value_is =
      let f : FitsSigned w32 c.drawn_value-first_value.result = search rules in
      let g : FitsSigned w32 c.drawn_value.result = search rules in
      let fifth =
      fifth_drawn _ _ _ _ _ c.next_draw-a.ensures c.next_draw-b.ensures c.next_draw-c.ensures c.next_draw-d.ensures _ c.next_draw-draw.ensures in
      c.placed_value-value.ensures
      ∙ ap₂ (placed_value _) (read f ∙ c.drawn_value-first_value.ensures ∙ ap drawn_value fifth) (read g ∙ c.drawn_value.ensures)

  entered_is : c.enter-load.result ≡ enter_of c.loop-load.load.search (pos c.in-Next.point) c.placed_value-value.result
  entered_is =
      let l = c.loop-load in
      let h : c.in-Next.point < 2 ^ 31 = omega (arith, (drawing_limited _ l.draw l.load l.invariant _ _ c.in-Next.is).0) in
      let f : FitsSigned w32 c.placed_value-value.result = search rules in
      rw (to_z_pos w32 h, read f) at c.enter-load.ensures

pub loop-load-smaller : goal.loop-load-smaller
loop-load-smaller c =
    let l = c.loop-load in
    drawing_less _ l.draw l.load l.invariant _ _ c.in-Next.is _ _ _ (value_is c) (entered_is c) c.next_draw-draw-in-Next.ensures

pub loop-load-preserved : goal.loop-load-preserved
loop-load-preserved c =
    let l = c.loop-load in
    drawing_more _ l.draw l.load l.invariant _ _ c.in-Next.is _ _ _ (value_is c) (entered_is c) c.next_draw-draw-in-Next.ensures

pub returns : goal.returns
returns c = drawing_end _ c.loop-load.draw c.loop-load.load c.loop-load.invariant c.in_default.not-Next
