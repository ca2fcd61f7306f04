-- The same as `Whole.antt` with no value beside the `&mut S`: the struct is copied out whole and passed to a step by value, and the struct
-- that the step returns is stored back whole. Nothing here names a field of S. At every step of the walk the places of the locals depend on how
-- many values there are, so that each number of them has its own text.
-- Assumes nothing.
use mathlib.Core.Path.{◌≡◌, refl, ap}
use Prim.Native.Nat.{ℕ}
use mathlib.Core.List.{[], ◌∷◌, List}
use seplogic.Ra.Ura.{Ura}
use base.Fraction.{full_share}
use mir.Syntax.{Fn, Callee, ty_ref, local, value_local, named, mut, place, deref, field, copy, rv_opd, assign, call, seq, return}
use mir.Val.{Val, vptr}
use base.Logic.{SProp, ent, emp, via, fst∗, id⊢}
use base.Fml.{GName, Lft, Share, ftrue, flft, fat}
use prog.Wp.{Calls, Loops, WpFn, Closed}
use types.Logic.{Logic}
use prog.Model.{Model}
use prog.Routine.{Routine, Env}
use contract.Lifetimes.{Lfts}
use contract.Running.{Running, tables}
use types.Kit.{‵, raw, ◌⊛◌, ◌$◌, ◌∵◌, !, qed, by, move, keep, drop, use1, split, fsplit, fsplit3, rewrite}
use types.Run.{look, look_raw, store_raw, init, forget, stop, hop, fld, from, load, and_then, no_more, of_opd, assigns, land, returns, enter, alloc1}
use types.Run.{alloc0, params1, pass1, pass0, free1, free0}
use types.Part.{whole, sub, look_in}
use sound.WpLaws.{FmC}
use denote.RattleType.{owns}
use denote.Memory.{pointee}
use denote.Ref.{MutBor, MutRef, mut_vals, mut_Tells}
use denote.Steps.{only}
use denote.Triple.Statement.{Contract, Triple}
use denote.Triple.Call.{calls_at}
use denote.Triple.Entry.{Args, on_entry}
use denote.Triple.Spec.{triple_of}
use denote.Triple.Walked.{Stays, walk_of, AllGo, Goes-ref, Walks, walked}
use denote.Triple.Clauses.{Ended, Clauses, at_exit, closing}
use Rattle.borrowed.proofs.Walk.{Plain, row, value, taken_out, put_back, answered, by_one_call}
use Rattle.borrowed.proofs.Contracts.{by_value, lent, lent_stays, Beside, mir_e, row_e, BesideLaws, returning, Returning, to_step, asks, ends_lent}

-- R is the result's type
module _ (S R : Plain) (E : Beside S R) (L : BesideLaws E) where
  -- ---- the code, and the two contracts

  abbrev pub function : Callee → Fn
  function step =
      record {
        lifetimes = 1;
        outlives = [];
        ty_params = [];
        givens = 0;
        params = 1;
        locals = local R.mir value_local ∷ local (ty_ref (named 0) mut (pointee S.type.written)) value_local ∷
            local (mir_e E) value_local ∷ local S.mir value_local ∷ local S.mir value_local ∷ [];
        body =
            seq (assign (place 3 []) (rv_opd (copy (place 1 (deref S.mir ∷ [])))))
            (seq (call step (copy (place 3 []) ∷ []) (place 2 []))
            (seq (assign (place 4 []) (rv_opd (copy (place 2 (field 1 ∷ [])))))
            (seq (assign (place 1 (deref S.mir ∷ [])) (rv_opd (copy (place 4 []))))
            (seq (assign (place 0 []) (rv_opd (copy (place 2 (field 0 ∷ []))))) return))));
      }

  abbrev pub ended : Ended
  ended = lent S R [] tt

  abbrev pub stayed : Stays ended.signature.params ended.kept
  stayed = lent_stays S R [] tt tt

  -- `of` is the step's definition
  module _ (of : S.type.Denot → E.type.Denot) {M : Type 1} {𝓤 : Ura M} (𝓛 : Logic 𝓤) where
    open 𝓛 use {H}

    abbrev step_ended : Ended
    step_ended = by_value S (row_e E) [] tt

    abbrev by_of : (κs : Lfts 0) (a : Args step_ended.signature κs) → E.type.Denot
    by_of κs a = of a.0

    abbrev pub StepC : Contract 𝓤
    StepC = Returning 𝓛 step_ended by_of

    -- c is the function's contract, which holds where it returns what `of` tells and leaves the struct of `of`
    abbrev pub Holds : Clauses 𝓤 ended → Type 1
    Holds c = (κs : Lfts 1) (a : Args ended.signature κs) (g : (c κs a).ghost) (r : E.type.Denot) → r ≡ of a.0.now
        → ent 𝓤 (emp 𝓤) ((c κs a).ensures g (E.told r) (at_exit ended κs a (E.left r, tt)))

    module _ (c : Clauses 𝓤 ended) (unanswered : Holds c) where
      -- ---- the walk

      module _ (κ : Lft) (q : Share) (b o : ℕ) (γ : GName) (h : S.type.Denot)
          (g : (c (κ, tt) (record { ref_ptr = (b, o); ghost_name = γ; now = h }, tt)).ghost) where
        abbrev x : MutBor S.type.Denot × Unit {0}
        x = (record { ref_ptr = (b, o); ghost_name = γ; now = h }, tt)

        abbrev at : List Val × Unit {0}
        at = (vptr b o ∷ [], tt)

        abbrev Post : Val → SProp 𝓤
        Post = (walk_of 𝓛 ended stayed c).post (((κ, tt), (q, tt), tt, x, at), g)

        abbrev call_at : StepC.Ghost
        call_at = to_step 𝓛 S (row_e E) [] tt by_of h tt tt

        module _ (step : Callee) (C : Calls 𝓤 H) (Λ : Loops 𝓤 H) (fm : FmC 𝓤 H 𝓛.laws C) (known : Triple 𝓤 (C step) StepC) where
          walk : ent 𝓤 (on_entry 𝓛 ended.signature (κ, tt) (q, tt) x at) (WpFn 𝓤 H C Λ (function step) (vptr b o ∷ []) Post)
          walk =
              qed 𝓛 ((‵ (flft κ q) ⊛ ‵ ftrue) ∷ ‵ (owns (MutRef (named 0) κ (row S) ∷ []) x at) ∷ []) ∵
              enter ! C Λ (function step) (vptr b o ∷ []) _ $
              alloc1 ! (λ l₀. alloc1 ! (λ l₁. alloc1 ! (λ l₂. alloc1 ! (λ l₃. alloc1 ! (λ l₄. alloc0 ! $
              params1 ! $ pass1 ! (init ! 6 refl (tt, tt)) $ pass0 ! $
              -- [_4; …; _3; …; _2; …; _1; …; room for _0; …; the token and true; what the parameter owns]
              move ! (11 ∷ []) $ fsplit ! $ fsplit3 ! $ drop ! $ move ! (13 ∷ []) $ split ! $ move ! (2 ∷ 3 ∷ 0 ∷ []) $
              taken_out S ! tt {h = h} b o (λ was.
              -- [the cell; what it owns; the open borrow; obs; auth; true; true; _4 (7); …; _3 (9); …; _2 (11); …; _1 (13); …; room for _0 (15); …]
              assigns ! (of_opd ! (load ! (from ! (hop ! (look ! 13 refl) (stop !))) (look_raw ! 0 refl))) (from ! (stop !))
              (init ! 9 refl ((S.lawful 𝓛).typed h _ was).0) $
              -- the call: what the copy owns goes to it
              move ! (1 ∷ []) $ use1 𝓛 (raw (StepC.pre call_at)) (asks 𝓛 S (row_e E) [] tt by_of h tt tt (id⊢ 𝓤 _)) $
              calls_at ! fm StepC known call_at (and_then ! (load ! (from ! (stop !)) (look ! 9 refl)) (no_more !)) (λ w.
              answered ! tt step_ended (returning 𝓛 step_ended by_of) call_at w (λ (r : E.type.Denot). r ≡ of h) (λ r ws. id⊢ 𝓤 _) (λ r e is.
              -- [what the step's result owns; the cell (1); the open borrow; obs; auth; true; true; _4 (7); …; _3 (9); …]
              land ! (from ! (stop !)) (init ! 11 refl ((L.lawful 𝓛).typed r _ is).0) $
              rewrite ! 11 (λ (u : Val). ‵ (fat full_share (mir_e E) l₂ 0 u)) (ap only (L.tells r (w ∷ []) is)) refl $
              assigns ! (of_opd ! (load ! (from ! (fld ! refl (stop !))) (look_in ! 11 (sub ! 1 refl (whole !))))) (from ! (stop !))
              (init ! 7 refl ((S.lawful 𝓛).typed (E.left r) _ (L.is_left r _ is)).0) $
              assigns ! (of_opd ! (load ! (from ! (stop !)) (look ! 7 refl))) (from ! (hop ! (look ! 13 refl) (stop !))) (store_raw ! 1 refl
              ((S.lawful 𝓛).typed (E.left r) _ (L.is_left r _ is)).0) $
              assigns ! (of_opd ! (load ! (from ! (fld ! refl (stop !))) (look_in ! 11 (sub ! 0 refl (whole !))))) (from ! (stop !))
              (init ! 15 refl ((R.lawful 𝓛).typed (E.told r) _ (L.is_told r _ is)).0) $
              -- the borrow is closed at the new struct
              drop ! $ put_back S ! tt (E.left r) (L.is_left r _ is) b o $
              -- [obs; the borrow; the token; true; true; _4 (5); …; _3 (7); …; _2 (9); …; _1 (11); …; _0 (13); …]
              returns ! (look ! 13 refl) $ forget ! 5 refl $ forget ! 7 refl $ forget ! 9 refl $ forget ! 11 refl $ forget ! 13 refl $
              move ! (13 ∷ 14 ∷ []) $ free1 ! $ move ! (11 ∷ 12 ∷ []) $ free1 ! $ move ! (9 ∷ 10 ∷ []) $ free1 ! $
              move ! (7 ∷ 8 ∷ []) $ free1 ! $ move ! (5 ∷ 6 ∷ []) $ free1 ! $ free0 ! $
              keep ! (0 ∷ 1 ∷ 2 ∷ []) $ by ! (ends_lent 𝓛 S R [] tt tt κ q b o γ h tt tt tt tt (id⊢ 𝓤 _) c g (E.left r) (E.told r)
              (L.is_told r _ is) (unanswered (κ, tt) x g r e))))))))))

      walks : (step : Callee) (C : Calls 𝓤 H) (Λ : Loops 𝓤 H) → FmC 𝓤 H 𝓛.laws C → Triple 𝓤 (C step) StepC
          → Walks 𝓛 ended stayed (WpFn 𝓤 H C Λ (function step)) c
      walks step C Λ fm known =
          walked 𝓛 ended stayed c (WpFn 𝓤 H C Λ (function step)) (λ κs. (mut_vals, tt))
          (λ κs. (mut_Tells (named 0) κs.0 (row S), tt))
          (λ κs qs bounds a g are. via 𝓤 _ (fst∗ 𝓤 _ ((c κs a).requires g))
          (walk κs.0 qs.0 a.0.ref_ptr.0 a.0.ref_ptr.1 a.0.ghost_name a.0.now g step C Λ fm known))

  goes : {M : Type 1} {𝓤 : Ura M} (𝓛 : Logic 𝓤) → AllGo 𝓛 1 ended.signature.params ended.kept stayed
  goes 𝓛 = (Goes-ref 𝓛 1 0 tt (value S), tt)

  -- k is the function's name, and γ the names that it calls; `step` is the step's, and r its code
  pub stores_whole_alone : (of : S.type.Denot → E.type.Denot)
      {M : Type 1} {𝓤 : Ura M} (𝓛 : Logic 𝓤) (𝓜 : Model 𝓤 𝓛.H) (𝓡 : Running 𝓤 𝓛.H 𝓜)
      (c : Clauses 𝓤 ended) → Holds of 𝓛 c
      → (γ : Env) (k step : Callee) → Closed 𝓤 𝓛.H (tables 𝓤 𝓛.H 𝓜 𝓡 γ).C (tables 𝓤 𝓛.H 𝓜 𝓡 γ).Λ k (function step)
      → (r : Routine) → γ step ≡ r → Triple 𝓤 (𝓡.run r) (StepC of 𝓛)
      → Triple 𝓤 ((tables 𝓤 𝓛.H 𝓜 𝓡 γ).C k) (triple_of 𝓛 ended.signature (closing 𝓛 ended c))
  stores_whole_alone of 𝓛 𝓜 𝓡 c unanswered γ k step closed r p met =
      by_one_call 𝓛 𝓜 𝓡 ended stayed c (goes 𝓛) γ k (function step) closed (StepC of 𝓛) step r p met
      (walks of 𝓛 c unanswered step)
