-- The same as `Whole.antt` with two values beside the `&mut S`: the struct is copied out whole and passed to a step by value, and the struct
-- that the step returns is stored back whole. Nothing here names a field of S.
-- Assumes nothing.
use mathlib.Core.Path.{◌≡◌, refl, ap}
use Prim.Native.Nat.{ℕ}
use mathlib.Core.List.{[], ◌∷◌, List}
use seplogic.Ra.Ura.{Ura}
use base.Fraction.{full_share}
use mir.Syntax.{Fn, Callee, ty_ref, local, value_local, named, mut, place, deref, field, copy, rv_opd, assign, call, seq, return}
use mir.Val.{Val, vptr}
use base.Logic.{SProp, ent, emp, via, fst∗, id⊢}
use base.Fml.{GName, Lft, Share, ftrue, flft, fat}
use prog.Wp.{Calls, Loops, WpFn, Closed}
use types.Logic.{Logic, sem}
use prog.Model.{Model}
use prog.Routine.{Routine, Env}
use contract.Lifetimes.{Lfts}
use contract.Running.{Running, tables}
use types.Kit.{‵, raw, ◌⊛◌, ◌$◌, ◌∵◌, !, qed, by, move, keep, drop, use1, split, fsplit, fsplit3, rewrite}
use types.Run.{look, look_raw, store_raw, init, forget, stop, hop, fld, from, load, and_then, no_more, of_opd, assigns, land, returns, enter, alloc1}
use types.Run.{alloc0, params1, pass1, pass0, free1, free0}
use types.Part.{whole, sub, look_in}
use sound.WpLaws.{FmC}
use denote.RattleType.{owns}
use denote.Laws.{Is, Ises, owns_make}
use denote.Memory.{pointee}
use denote.Ref.{MutBor, MutRef, mut_vals, mut_Tells}
use denote.Steps.{only}
use denote.Triple.Statement.{Contract, Triple}
use denote.Triple.Call.{calls_at}
use denote.Triple.Entry.{Args, on_entry}
use denote.Triple.Spec.{triple_of}
use denote.Triple.Walked.{Stays, walk_of, AllGo, Goes-ref, Walks, walked}
use denote.Triple.Clauses.{Ended, Clauses, at_exit, closing}
use denote.Exit.{yes}
use Rattle.borrowed.proofs.Walk.{Plain, row, vals, value, none, value_stays, value_goes, taken_out, put_back, answered, by_one_call}
use Rattle.borrowed.proofs.Contracts.{by_value, lent, lent_stays, Beside, mir_e, row_e, BesideLaws, returning, Returning, to_step, asks, ends_lent}

-- R is the result's type, and P and Q the values'
module _ (S R P Q : Plain) (E : Beside S R) (L : BesideLaws E) where
  -- ---- the code, and the two contracts

  abbrev pub function : Callee → Fn
  function step =
      record {
        lifetimes = 1;
        outlives = [];
        ty_params = [];
        givens = 0;
        params = 3;
        locals = local R.mir value_local ∷ local (ty_ref (named 0) mut (pointee S.type.written)) value_local ∷ local P.mir value_local ∷
            local Q.mir value_local ∷ local (mir_e E) value_local ∷ local S.mir value_local ∷ local S.mir value_local ∷ [];
        body =
            seq (assign (place 5 []) (rv_opd (copy (place 1 (deref S.mir ∷ [])))))
            (seq (call step (copy (place 5 []) ∷ copy (place 2 []) ∷ copy (place 3 []) ∷ []) (place 4 []))
            (seq (assign (place 6 []) (rv_opd (copy (place 4 (field 1 ∷ [])))))
            (seq (assign (place 1 (deref S.mir ∷ [])) (rv_opd (copy (place 6 []))))
            (seq (assign (place 0 []) (rv_opd (copy (place 4 (field 0 ∷ []))))) return))));
      }

  abbrev pub ended : Ended
  ended = lent S R (value P ∷ value Q ∷ []) (yes, (yes, tt))

  abbrev pub stayed : Stays ended.signature.params ended.kept
  stayed = lent_stays S R (value P ∷ value Q ∷ []) (yes, (yes, tt)) (value_stays P, (value_stays Q, tt))

  -- `of` is the step's definition
  module _ (of : S.type.Denot → P.type.Denot → Q.type.Denot → E.type.Denot) {M : Type 1} {𝓤 : Ura M} (𝓛 : Logic 𝓤) where
    open 𝓛 use {H}

    abbrev step_ended : Ended
    step_ended = by_value S (row_e E) (value P ∷ value Q ∷ []) (yes, (yes, tt))

    abbrev by_of : (κs : Lfts 0) (a : Args step_ended.signature κs) → E.type.Denot
    by_of κs a = of a.0 a.1.0 a.1.1.0

    abbrev pub StepC : Contract 𝓤
    StepC = Returning 𝓛 step_ended by_of

    -- c is the function's contract, which holds where it returns what `of` tells and leaves the struct of `of`
    abbrev pub Holds : Clauses 𝓤 ended → Type 1
    Holds c = (κs : Lfts 1) (a : Args ended.signature κs) (g : (c κs a).ghost) (r : E.type.Denot) → r ≡ of a.0.now a.1.0 a.1.1.0
        → ent 𝓤 (emp 𝓤) ((c κs a).ensures g (E.told r) (at_exit ended κs a (E.left r, (none P a.1.0, (none Q a.1.1.0, tt)))))

    module _ (c : Clauses 𝓤 ended) (unanswered : Holds c) where
      -- ---- the walk

      module _ (κ : Lft) (q : Share) (b o : ℕ) (γ : GName) (h : S.type.Denot) (p : P.type.Denot) (p-is : Is (row P) p (vals P p))
          (z : Q.type.Denot) (z-is : Is (row Q) z (vals Q z)) (g : (c (κ, tt) (record { ref_ptr = (b, o); ghost_name = γ; now = h }, (p, (z, tt)))).ghost) where
        abbrev x : MutBor S.type.Denot × (P.type.Denot × (Q.type.Denot × Unit {0}))
        x = (record { ref_ptr = (b, o); ghost_name = γ; now = h }, (p, (z, tt)))

        abbrev at : List Val × (List Val × (List Val × Unit {0}))
        at = (vptr b o ∷ [], (vals P p, (vals Q z, tt)))

        abbrev Post : Val → SProp 𝓤
        Post = (walk_of 𝓛 ended stayed c).post (((κ, tt), (q, tt), tt, x, at), g)

        abbrev call_at : StepC.Ghost
        call_at = to_step 𝓛 S (row_e E) (value P ∷ value Q ∷ []) (yes, (yes, tt)) by_of h (p, (z, tt)) (vals P p, (vals Q z, tt))

        had : ent 𝓤 (emp 𝓤) (sem 𝓛 (owns (row P ∷ row Q ∷ []) (p, (z, tt)) (vals P p, (vals Q z, tt))))
        had =
            owns_make 𝓛 (row P ∷ row Q ∷ []) (Ises (row P ∷ row Q ∷ [])) (P.makes 𝓛, (Q.makes 𝓛, tt)) (p, (z, tt)) (vals P p, (vals Q z, tt))
            (p-is, (z-is, tt))

        module _ (step : Callee) (C : Calls 𝓤 H) (Λ : Loops 𝓤 H) (fm : FmC 𝓤 H 𝓛.laws C) (known : Triple 𝓤 (C step) StepC) where
          walk : ent 𝓤 (on_entry 𝓛 ended.signature (κ, tt) (q, tt) x at) (WpFn 𝓤 H C Λ (function step) (vptr b o ∷ P.val p ∷ Q.val z ∷ []) Post)
          walk =
              qed 𝓛 ((‵ (flft κ q) ⊛ ‵ ftrue) ∷ ‵ (owns (MutRef (named 0) κ (row S) ∷ row P ∷ row Q ∷ []) x at) ∷ []) ∵
              enter ! C Λ (function step) (vptr b o ∷ P.val p ∷ Q.val z ∷ []) _ $
              alloc1 ! (λ l₀. alloc1 ! (λ l₁. alloc1 ! (λ l₂. alloc1 ! (λ l₃. alloc1 ! (λ l₄. alloc1 ! (λ l₅. alloc1 ! (λ l₆. alloc0 ! $ params1 ! $
              pass1 ! (init ! 10 refl (tt, tt)) $
              pass1 ! (init ! 8 refl ((P.lawful 𝓛).typed p _ p-is).0) $
              pass1 ! (init ! 6 refl ((Q.lawful 𝓛).typed z _ z-is).0) $ pass0 ! $
              -- [_6; …; _5; …; _4; …; _3; …; _2; …; _1; …; room for _0; …; the token and true; what the parameters own]
              move ! (15 ∷ []) $ fsplit ! $ fsplit3 ! $ drop ! $ move ! (17 ∷ []) $ split ! $ move ! (2 ∷ 3 ∷ 0 ∷ []) $
              taken_out S ! tt {h = h} b o (λ was.
              -- [the cell; what it owns; the open borrow; obs; auth; true; what the values own; _6 (7); …; _5 (9); …; _4 (11); …; _3 (13); …; _2 (15); …;
              -- _1 (17); …; room for _0 (19); …]
              assigns ! (of_opd ! (load ! (from ! (hop ! (look ! 17 refl) (stop !))) (look_raw ! 0 refl))) (from ! (stop !))
              (init ! 9 refl ((S.lawful 𝓛).typed h _ was).0) $
              -- the call: what the copy owns goes to it
              move ! (1 ∷ []) $ use1 𝓛 (raw (StepC.pre call_at))
              (asks 𝓛 S (row_e E) (value P ∷ value Q ∷ []) (yes, (yes, tt)) by_of h (p, (z, tt)) (vals P p, (vals Q z, tt)) had) $
              calls_at ! fm StepC known call_at (and_then ! (load ! (from ! (stop !)) (look ! 9 refl))
              (and_then ! (load ! (from ! (stop !)) (look ! 15 refl)) (and_then ! (load ! (from ! (stop !)) (look ! 13 refl)) (no_more !)))) (λ w.
              answered ! tt step_ended (returning 𝓛 step_ended by_of) call_at w (λ (r : E.type.Denot). r ≡ of h p z) (λ r ws. id⊢ 𝓤 _) (λ r e is.
              -- [what the step's result owns; the cell (1); the open borrow; obs; auth; true; what the values own; _6 (7); …; _5 (9); …]
              land ! (from ! (stop !)) (init ! 11 refl ((L.lawful 𝓛).typed r _ is).0) $
              rewrite ! 11 (λ (u : Val). ‵ (fat full_share (mir_e E) l₄ 0 u)) (ap only (L.tells r (w ∷ []) is)) refl $
              assigns ! (of_opd ! (load ! (from ! (fld ! refl (stop !))) (look_in ! 11 (sub ! 1 refl (whole !))))) (from ! (stop !))
              (init ! 7 refl ((S.lawful 𝓛).typed (E.left r) _ (L.is_left r _ is)).0) $
              assigns ! (of_opd ! (load ! (from ! (stop !)) (look ! 7 refl))) (from ! (hop ! (look ! 17 refl) (stop !))) (store_raw ! 1 refl
              ((S.lawful 𝓛).typed (E.left r) _ (L.is_left r _ is)).0) $
              assigns ! (of_opd ! (load ! (from ! (fld ! refl (stop !))) (look_in ! 11 (sub ! 0 refl (whole !))))) (from ! (stop !))
              (init ! 19 refl ((R.lawful 𝓛).typed (E.told r) _ (L.is_told r _ is)).0) $
              -- the borrow is closed at the new struct
              drop ! $ put_back S ! tt (E.left r) (L.is_left r _ is) b o $
              -- [obs; the borrow; the token; true; what the values own; _6 (5); …; _5 (7); …; _4 (9); …; _3 (11); …; _2 (13); …; _1 (15); …; _0 (17); …]
              returns ! (look ! 17 refl) $ forget ! 5 refl $ forget ! 7 refl $ forget ! 9 refl $ forget ! 11 refl $ forget ! 13 refl $ forget ! 15 refl $
              forget ! 17 refl $
              move ! (17 ∷ 18 ∷ []) $ free1 ! $ move ! (15 ∷ 16 ∷ []) $ free1 ! $ move ! (13 ∷ 14 ∷ []) $ free1 ! $ move ! (11 ∷ 12 ∷ []) $ free1 ! $
              move ! (9 ∷ 10 ∷ []) $ free1 ! $ move ! (7 ∷ 8 ∷ []) $ free1 ! $ move ! (5 ∷ 6 ∷ []) $ free1 ! $ free0 ! $
              keep ! (0 ∷ 1 ∷ 2 ∷ []) $ by ! (ends_lent 𝓛 S R (value P ∷ value Q ∷ []) (yes, (yes, tt)) (value_stays P, (value_stays Q, tt)) κ q b o
              γ h (p, (z, tt)) (vals P p, (vals Q z, tt)) (none P p, (none Q z, tt)) (tt, (tt, tt)) had c g (E.left r) (E.told r) (L.is_told r _ is)
              (unanswered (κ, tt) x g r e))))))))))))

      walks : (step : Callee) (C : Calls 𝓤 H) (Λ : Loops 𝓤 H) → FmC 𝓤 H 𝓛.laws C → Triple 𝓤 (C step) StepC
          → Walks 𝓛 ended stayed (WpFn 𝓤 H C Λ (function step)) c
      walks step C Λ fm known =
          walked 𝓛 ended stayed c (WpFn 𝓤 H C Λ (function step)) (λ κs. (mut_vals, (vals P, (vals Q, tt))))
          (λ κs. (mut_Tells (named 0) κs.0 (row S), (P.tells, (Q.tells, tt))))
          (λ κs qs bounds a g are. via 𝓤 _ (fst∗ 𝓤 _ ((c κs a).requires g))
          (walk κs.0 qs.0 a.0.ref_ptr.0 a.0.ref_ptr.1 a.0.ghost_name a.0.now a.1.0 are.1.0
          a.1.1.0 are.1.1.0 g step C Λ fm known))

  goes : {M : Type 1} {𝓤 : Ura M} (𝓛 : Logic 𝓤) → AllGo 𝓛 1 ended.signature.params ended.kept stayed
  goes 𝓛 = (Goes-ref 𝓛 1 0 tt (value S), (value_goes 𝓛 1 P, (value_goes 𝓛 1 Q, tt)))

  -- k is the function's name, and γ the names that it calls; `step` is the step's, and r its code
  pub stores_whole_two : (of : S.type.Denot → P.type.Denot → Q.type.Denot → E.type.Denot)
      {M : Type 1} {𝓤 : Ura M} (𝓛 : Logic 𝓤) (𝓜 : Model 𝓤 𝓛.H) (𝓡 : Running 𝓤 𝓛.H 𝓜)
      (c : Clauses 𝓤 ended) → Holds of 𝓛 c
      → (γ : Env) (k step : Callee) → Closed 𝓤 𝓛.H (tables 𝓤 𝓛.H 𝓜 𝓡 γ).C (tables 𝓤 𝓛.H 𝓜 𝓡 γ).Λ k (function step)
      → (r : Routine) → γ step ≡ r → Triple 𝓤 (𝓡.run r) (StepC of 𝓛)
      → Triple 𝓤 ((tables 𝓤 𝓛.H 𝓜 𝓡 γ).C k) (triple_of 𝓛 ended.signature (closing 𝓛 ended c))
  stores_whole_two of 𝓛 𝓜 𝓡 c unanswered γ k step closed r p met =
      by_one_call 𝓛 𝓜 𝓡 ended stayed c (goes 𝓛) γ k (function step) closed (StepC of 𝓛) step r p met
      (walks of 𝓛 c unanswered step)
