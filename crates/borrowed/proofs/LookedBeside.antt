-- The same as `Looked.antt` with one value beside the `&S`: the struct is copied out whole and passed to a step by value with the value, and the
-- step's result is returned. Nothing here names a field of S.
-- Assumes nothing.
use mathlib.Core.Path.{◌≡◌, refl}
use Prim.Native.Nat.{ℕ}
use mathlib.Core.List.{[], ◌∷◌, List}
use seplogic.Ra.Ura.{Ura}
use mir.Syntax.{Fn, Callee, ty_ref, local, value_local, named, imm, place, deref, copy, rv_opd, assign, call, seq, return}
use mir.Val.{Val, vptr}
use base.Logic.{SProp, ent, emp, via, fst∗, id⊢}
use base.Fml.{Lft, Share, ftrue, flft}
use prog.Wp.{Calls, Loops, WpFn, Closed}
use types.Logic.{Logic, sem}
use prog.Model.{Model}
use prog.Routine.{Routine, Env}
use contract.Lifetimes.{Lfts}
use contract.Running.{Running, tables}
use types.Kit.{‵, raw, ◌⊛◌, ◌$◌, ◌∵◌, !, qed, by, move, keep, drop, use1, split, fsplit}
use types.Run.{look, look_raw, init, forget, stop, hop, from, load, and_then, no_more, of_opd, assigns, land, returns, enter, alloc1, alloc0, params1}
use types.Run.{pass1, pass0, free1, free0}
use sound.WpLaws.{FmC}
use denote.RattleType.{owns}
use denote.Laws.{Is, Ises, owns_make}
use denote.Memory.{pointee}
use denote.Ref.{Bor, ShrRef, shr_vals, shr_Tells}
use denote.Steps.{shuts, owned}
use denote.Triple.Statement.{Contract, Triple}
use denote.Triple.Call.{calls_at}
use denote.Triple.Entry.{Args, on_entry}
use denote.Triple.Spec.{triple_of}
use denote.Triple.Walked.{Stays, walk_of, AllGo, Goes-none_ref, Walks, walked}
use denote.Triple.Clauses.{Ended, Clauses, at_exit, closing}
use denote.Exit.{yes}
use Rattle.borrowed.proofs.Walk.{Plain, row, vals, value, none, value_stays, value_goes, looked_into, answered, by_one_call}
use Rattle.borrowed.proofs.Contracts.{by_value, shown, shown_stays, returning, Returning, to_step, asks, ends_shown}

-- R is the result's type, and P the value's
module _ (S R P : Plain) where
  -- ---- the code, and the two contracts

  abbrev pub function : Callee → Fn
  function step =
      record {
        lifetimes = 1;
        outlives = [];
        ty_params = [];
        givens = 0;
        params = 2;
        locals = local R.mir value_local ∷ local (ty_ref (named 0) imm (pointee S.type.written)) value_local ∷ local P.mir value_local ∷
            local S.mir value_local ∷ [];
        body =
            seq (assign (place 3 []) (rv_opd (copy (place 1 (deref S.mir ∷ [])))))
            (seq (call step (copy (place 3 []) ∷ copy (place 2 []) ∷ []) (place 0 [])) return);
      }

  abbrev pub ended : Ended
  ended = shown S R (value P ∷ []) (yes, tt)

  abbrev pub stayed : Stays ended.signature.params ended.kept
  stayed = shown_stays S R (value P ∷ []) (yes, tt) (value_stays P, tt)

  -- `of` is the step's definition
  module _ (of : S.type.Denot → P.type.Denot → R.type.Denot) {M : Type 1} {𝓤 : Ura M} (𝓛 : Logic 𝓤) where
    open 𝓛 use {H}

    abbrev step_ended : Ended
    step_ended = by_value S (row R) (value P ∷ []) (yes, tt)

    abbrev by_of : (κs : Lfts 0) (a : Args step_ended.signature κs) → R.type.Denot
    by_of κs a = of a.0 a.1.0

    abbrev pub StepC : Contract 𝓤
    StepC = Returning 𝓛 step_ended by_of

    -- c is the function's contract, which holds where it returns what `of` says
    abbrev pub Holds : Clauses 𝓤 ended → Type 1
    Holds c = (κs : Lfts 1) (a : Args ended.signature κs) (g : (c κs a).ghost) (r : R.type.Denot) → r ≡ of a.0.now a.1.0
        → ent 𝓤 (emp 𝓤) ((c κs a).ensures g r (at_exit ended κs a (tt, (none P a.1.0, tt))))

    module _ (c : Clauses 𝓤 ended) (unanswered : Holds c) where
      -- ---- the walk

      module _ (κ : Lft) (q : Share) (b o : ℕ) (h : S.type.Denot) (p : P.type.Denot) (p-is : Is (row P) p (vals P p))
          (g : (c (κ, tt) (record { ref_ptr = (b, o); now = h }, (p, tt))).ghost) where
        abbrev x : Bor S.type.Denot × (P.type.Denot × Unit {0})
        x = (record { ref_ptr = (b, o); now = h }, (p, tt))

        abbrev at : List Val × (List Val × Unit {0})
        at = (vptr b o ∷ [], (vals P p, tt))

        abbrev Post : Val → SProp 𝓤
        Post = (walk_of 𝓛 ended stayed c).post (((κ, tt), (q, tt), tt, x, at), g)

        abbrev call_at : StepC.Ghost
        call_at = to_step 𝓛 S (row R) (value P ∷ []) (yes, tt) by_of h (p, tt) (vals P p, tt)

        had : ent 𝓤 (emp 𝓤) (sem 𝓛 (owns (row P ∷ []) (p, tt) (vals P p, tt)))
        had = owns_make 𝓛 (row P ∷ []) (Ises (row P ∷ [])) (P.makes 𝓛, tt) (p, tt) (vals P p, tt) (p-is, tt)

        module _ (step : Callee) (C : Calls 𝓤 H) (Λ : Loops 𝓤 H) (fm : FmC 𝓤 H 𝓛.laws C) (known : Triple 𝓤 (C step) StepC) where
          walk : ent 𝓤 (on_entry 𝓛 ended.signature (κ, tt) (q, tt) x at) (WpFn 𝓤 H C Λ (function step) (vptr b o ∷ P.val p ∷ []) Post)
          walk =
              qed 𝓛 ((‵ (flft κ q) ⊛ ‵ ftrue) ∷ ‵ (owns (ShrRef (named 0) κ (row S) ∷ row P ∷ []) x at) ∷ []) ∵
              enter ! C Λ (function step) (vptr b o ∷ P.val p ∷ []) _ $
              alloc1 ! (λ l₀. alloc1 ! (λ l₁. alloc1 ! (λ l₂. alloc1 ! (λ l₃. alloc0 ! $ params1 ! $ pass1 ! (init ! 4 refl (tt, tt)) $
              pass1 ! (init ! 2 refl ((P.lawful 𝓛).typed p _ p-is).0) $ pass0 ! $
              -- [_3; …; _2; …; _1; …; room for _0; …; the token and true; what the parameters own]
              move ! (9 ∷ []) $ fsplit ! $ fsplit ! $ drop ! $ move ! (10 ∷ []) $ split ! $ move ! (2 ∷ 0 ∷ []) $
              looked_into S ! tt h b o (λ part was.
              -- [a share of the struct's cell; what it owns; what shuts it; what the `&` holds; true; what the value owns; _3 (6); …;
              -- _2 (8); …; _1 (10); …; room for _0 (12); …]
              assigns ! (of_opd ! (load ! (from ! (hop ! (look ! 10 refl) (stop !))) (look_raw ! 0 refl))) (from ! (stop !))
              (init ! 6 refl ((S.lawful 𝓛).typed h _ was).0) $
              shuts ! tt (row S) part h (vals S h) b o $
              -- [the token; what the `&` holds; true; what the value owns; _3 (4); …; _2 (6); …; _1 (8); …; room for _0 (10); …]
              owned ! (row S) (Is (row S)) (S.makes 𝓛) h _ was $
              use1 𝓛 (raw (StepC.pre call_at)) (asks 𝓛 S (row R) (value P ∷ []) (yes, tt) by_of h (p, tt) (vals P p, tt) had) $
              calls_at ! fm StepC known call_at
              (and_then ! (load ! (from ! (stop !)) (look ! 5 refl)) (and_then ! (load ! (from ! (stop !)) (look ! 7 refl)) (no_more !))) (λ w.
              answered ! tt step_ended (returning 𝓛 step_ended by_of) call_at w (λ (r : R.type.Denot). r ≡ of h p) (λ r ws. id⊢ 𝓤 _) (λ r e is.
              -- [what the result owns; the token; what the `&` holds; true; what the value owns; _3 (5); …; _2 (7); …; _1 (9); …;
              -- room for _0 (11); …]
              land ! (from ! (stop !)) (init ! 11 refl ((R.lawful 𝓛).typed r _ is).0) $
              returns ! (look ! 11 refl) $ forget ! 5 refl $ forget ! 7 refl $ forget ! 9 refl $ forget ! 11 refl $ move ! (11 ∷ 12 ∷ []) $ free1 ! $
              move ! (9 ∷ 10 ∷ []) $ free1 ! $ move ! (7 ∷ 8 ∷ []) $ free1 ! $ move ! (5 ∷ 6 ∷ []) $ free1 ! $ free0 ! $
              keep ! (1 ∷ 2 ∷ 0 ∷ []) $ by ! (ends_shown 𝓛 S R (value P ∷ []) (yes, tt) (value_stays P, tt) κ q b o h (p, tt) (vals P p, tt)
              (none P p, tt) (tt, tt) had c g r w (unanswered (κ, tt) x g r e)))))))))

      walks : (step : Callee) (C : Calls 𝓤 H) (Λ : Loops 𝓤 H) → FmC 𝓤 H 𝓛.laws C → Triple 𝓤 (C step) StepC
          → Walks 𝓛 ended stayed (WpFn 𝓤 H C Λ (function step)) c
      walks step C Λ fm known =
          walked 𝓛 ended stayed c (WpFn 𝓤 H C Λ (function step)) (λ κs. (shr_vals, (vals P, tt)))
          (λ κs. (shr_Tells (named 0) κs.0 (row S), (P.tells, tt)))
          (λ κs qs bounds a g are. via 𝓤 _ (fst∗ 𝓤 _ ((c κs a).requires g))
          (walk κs.0 qs.0 a.0.ref_ptr.0 a.0.ref_ptr.1 a.0.now a.1.0 are.1.0 g step C Λ fm known))

  goes : {M : Type 1} {𝓤 : Ura M} (𝓛 : Logic 𝓤) → AllGo 𝓛 1 ended.signature.params ended.kept stayed
  goes 𝓛 = (Goes-none_ref 𝓛 1 (0 ∷ []) tt (value S) yes, (value_goes 𝓛 1 P, tt))

  -- k is the function's name, and γ the names that it calls; `step` is the step's, and r its code
  pub looks_whole_beside : (of : S.type.Denot → P.type.Denot → R.type.Denot)
      {M : Type 1} {𝓤 : Ura M} (𝓛 : Logic 𝓤) (𝓜 : Model 𝓤 𝓛.H) (𝓡 : Running 𝓤 𝓛.H 𝓜)
      (c : Clauses 𝓤 ended) → Holds of 𝓛 c
      → (γ : Env) (k step : Callee) → Closed 𝓤 𝓛.H (tables 𝓤 𝓛.H 𝓜 𝓡 γ).C (tables 𝓤 𝓛.H 𝓜 𝓡 γ).Λ k (function step)
      → (r : Routine) → γ step ≡ r → Triple 𝓤 (𝓡.run r) (StepC of 𝓛)
      → Triple 𝓤 ((tables 𝓤 𝓛.H 𝓜 𝓡 γ).C k) (triple_of 𝓛 ended.signature (closing 𝓛 ended c))
  looks_whole_beside of 𝓛 𝓜 𝓡 c unanswered γ k step closed r p met =
      by_one_call 𝓛 𝓜 𝓡 ended stayed c (goes 𝓛) γ k (function step) closed (StepC of 𝓛) step r p met
      (walks of 𝓛 c unanswered step)
