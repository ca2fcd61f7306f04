-- The laws of a load as it is made, value by value: what the loop of `load::draw_load` keeps, and why it ends.
-- Assumes nothing.
use Prim.Native.Nat.{ℕ, suc, ◌+◌, ◌-◌, ◌≤◌, ◌<◌}
use Rattle.std.specs.Prelude.{◌≡◌, refl, Bool, true, false, ℤ}
use Rattle.std.proofs.Common.{sym, subst, ◌∙◌}
use Rattle.std.proofs.Math.Path.{ap, ap₂}
use native.Mathlib.Omega.{arith}
use Rattle.std.proofs.Math.IntN.{pos}
use Rattle.rules.specs.declared.Opening.{Opening}
use Rattle.rules.specs.declared.Report.{Report}
use Rattle.rules.specs.Rules.{slots}
use Rattle.rules.specs.Search.{most_of}
use Rattle.rules.specs.Rows.{next_kind, stop_kind, row_of}
use Rattle.held.specs.declared.Entered.{Entered}
use Rattle.held.specs.Held.{held_report, open_of, enter_of}
use Rattle.held.proofs.HeldLaws.{WithinLimits, held_limited}
use Rattle.loading.specs.Loading.{next_draw, draw_of, drawn_opening, load_opening, drawn_value, placed_value}
use Rattle.loading.specs.Loading.{load_value, stopped_after, values_drawn, load_part, held_part}
use Rattle.loading.specs.Claims.{GoesOn}
use Rattle.loading.proofs.PartLaws.{Going, going_more, room, going_quoted, drawn_is, values_length, fresh_part, goes, part_stopped, most_fits}

-- the draws one by one, and the opening and the fifth draw that they come to
module _ (seed a b c d : ℕ) (p : a ≡ next_draw seed) (q : b ≡ next_draw a) (r : c ≡ next_draw b) (s : d ≡ next_draw c) where
  pub opening_drawn : (o : Opening) → o ≡ drawn_opening a b c d → o ≡ load_opening seed
  unfolding load_opening draw_of
  opening_drawn o e = e ∙ rw (s, r, q, p)

  pub fifth_drawn : (x : ℕ) → x ≡ next_draw d → x ≡ draw_of seed 5
  unfolding draw_of
  fifth_drawn x e = e ∙ rw (s, r, q, p)

-- x is the draw of the next value, and e is what the first n values came to, none of which came after a stop
pub record Drawing (seed x : ℕ) (e : Entered) : Type 0 where
  pub n : ℕ
  pub going : Going seed n
  pub draw : x ≡ draw_of seed (5 + n)
  pub held : e ≡ held_part seed n

pub drawing_begin : (seed x : ℕ) (e : Entered) → x ≡ draw_of seed 5 → e ≡ open_of (load_opening seed) → Drawing seed x e
drawing_begin seed x e d f = record { n = 0; going = λ m h. absurd (omega arith); draw = d; held = f ∙ fresh_part seed }

-- ---- at each turn

module _ (seed x : ℕ) (e : Entered) (d : Drawing seed x e) where
  report_is : e.report ≡ held_report (load_part seed d.n)
  report_is = ap (λ (y : Entered). y.report) d.held

  few : d.n ≤ slots
  few = omega (arith, going_quoted seed d.n d.going, most_fits seed)

  -- where no point is called for the search has stopped
  pub drawing_end : ((point taken : ℕ) → e.report ≡ Report.Next point taken → ⊥) → e ≡ held_part seed (values_drawn seed)
  drawing_end h = d.held ∙ ap (held_part seed) (drawn_is seed d.n d.going (go (stopped_after seed d.n) refl))
    where
      go : (b : Bool) → stopped_after seed d.n ≡ b → b ≡ true
      go true g = refl
      go false g = absurd (h _ _ (report_is ∙ (goes seed d.n d.going g).called))

  module _ (point taken : ℕ) (f : e.report ≡ Report.Next point taken) where
    -- and where one is, it has not
    on : stopped_after seed d.n ≡ false
    on = go (stopped_after seed d.n) refl
      where
        go : (b : Bool) → stopped_after seed d.n ≡ b → b ≡ false
        go true g =
            let k : next_kind ≡ stop_kind = ap (λ (r : Report). (row_of r).kind) (sym f ∙ report_is ∙ (part_stopped seed d.n few d.going g).told) in
            absurd (omega arith)
        go false g = refl

    next : GoesOn seed d.n
    next = goes seed d.n d.going on

    told : Report.Next point taken ≡ Report.Next next.point d.n
    told = sym f ∙ report_is ∙ next.called

    -- the point fits, and so does the place of the value
    pub drawing_limited : WithinLimits (Report.Next point taken)
    drawing_limited = subst WithinLimits (sym report_is ∙ f) (held_limited (load_part seed d.n))

    -- one value more, and the quote is nearer
    module _ (v : ℤ) (e' : Entered) (y : ℕ) (g : v ≡ placed_value taken (drawn_value (draw_of seed 5)) (drawn_value x))
        (h : e' ≡ enter_of e.search (pos point) v) (i : y ≡ next_draw x) where
      entered_is : e' ≡ held_part seed (suc d.n)
      unfolding load_value
      entered_is =
          h
          ∙ ap₂ (λ (z : ℤ) (w : ℤ). enter_of e.search z w) (ap (λ (r : Report). pos (row_of r).point) told)
          (g ∙ ap₂ (λ (j k : ℕ). placed_value j (drawn_value (draw_of seed 5)) (drawn_value k)) (ap (λ (r : Report). (row_of r).taken) told) d.draw)
          ∙ ap (λ (z : Entered). enter_of z.search (pos next.point) (load_value seed d.n)) d.held
          ∙ next.entered

      pub drawing_more : Drawing seed y e'
      unfolding draw_of
      drawing_more =
          let j : suc (5 + d.n) ≡ 5 + suc d.n = omega arith in
          record {
            n = suc d.n;
            going = going_more seed d.n d.going on;
            draw = i ∙ ap next_draw d.draw ∙ ap (draw_of seed) j;
            held = entered_is;
          }

      pub drawing_less : most_of (load_opening seed) - e'.search.count < most_of (load_opening seed) - e.search.count
      drawing_less =
          let m : e.search.count ≡ d.n = ap (λ (z : Entered). z.search.count) d.held ∙ values_length seed d.n in
          let k : e'.search.count ≡ suc d.n = ap (λ (z : Entered). z.search.count) entered_is ∙ values_length seed (suc d.n) in
          omega (arith, m, k, room seed d.n (going_more seed d.n d.going on))
