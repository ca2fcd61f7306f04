-- A function over a `&mut S`, with a `&[u8]` and a `&mut [u8]` beside it, that copies the struct out whole, calls a step by value with the copy
-- and both slices, and stores back whole the struct that the step returns. Both slices go at their own lifetimes, shares and ghost names: they
-- are given up for good, and what the step says of the last bytes of the second is what is said of them here. Nothing here names a field of S.
-- Assumes nothing.
use mathlib.Core.Path.{◌≡◌, refl, ap}
use Prim.Native.Nat.{ℕ}
use mathlib.Core.List.{[], ◌∷◌, List}
use lib.ListN.{length}
use seplogic.Ra.Ura.{Ura}
use base.Fraction.{full_share}
use mir.Syntax.{Fn, Callee, ty_ref, local, value_local, named, erased, imm, mut, place}
use mir.Syntax.{deref, field, copy, rv_opd, addr_of, aggregate, assign, call, seq, return}
use mir.Val.{Val, vptr}
use base.Logic.{SProp, ent, sep, emp, via, fst∗, id⊢}
use base.Fml.{Fml, GName, Lft, Share, fsep, ftrue, flft, fobs, fbor, fat}
use prog.Wp.{Calls, Loops, WpFn, Closed}
use types.Logic.{Logic, sem}
use prog.Model.{Model}
use prog.Routine.{Routine, Env}
use contract.Lifetimes.{Lfts}
use contract.Monad.{fact}
use contract.Running.{Running, tables}
use types.Kit.{‵, raw, ◌⊛◌, ⋆, ◌$◌, ◌∵◌, !, qed, by, move, keep, drop, use2, split, join, fsplit, fsplit3, fjoin, fjoin3, feq_i, feq_l, rewrite}
use types.Kit.{suffices, frame, done}
use types.Run.{look, look_raw, store_raw, init, forget, stop, hop, fld, from, load, addr, and_then, no_more, of_opd, assigns, land, returns, enter}
use types.Run.{alloc1, alloc0, params1, pass1, pass0, free1, free0}
use types.Part.{agg, whole, sub, look_in}
use types.SemTy.{Arr, Body}
use types.Hole.{Holey}
use sound.WpLaws.{FmC}
use denote.RattleType.{owns}
use denote.Laws.{Is}
use denote.Memory.{mem, pointee}
use denote.Builtin.{u8}
use denote.Ref.{Bor, MutBor, MutRef, mut_vals, mut_Tells}
use denote.Slice.{slice_ty, slice_val, MutSlice, ShrSlice, Room, finally, shr_slice_vals, mut_slice_vals, mut_slice_Tells, shr_slice_Tells}
use denote.Signature.{Slot, plain, mut_ref_to, shr_slice_of, mut_slice_of}
use denote.Steps.{only, owned, nothing}
use denote.Triple.Statement.{Contract, Triple}
use denote.Triple.Call.{calls_at}
use denote.Triple.Entry.{Args, on_entry}
use denote.Triple.Spec.{triple_of}
use denote.Triple.Walked.{Stays, stay_ref, stay_dropped, gave_slice, walk_of, AllGo, Goes-ref, Goes-dropped, Goes-gave_slice, Walks, ends_at, walked}
use denote.Triple.Clauses.{Ended, Clauses, at_exit, closing}
use denote.Exit.{yes}
use Rattle.borrowed.proofs.Walk.{Plain, row, vals, value, taken_out, put_back, holds, returned, by_one_call}
use Rattle.borrowed.proofs.Contracts.{Beside, mir_e, row_e, BesideLaws}

abbrev bytes : {n : ℕ} → Slot n
bytes = plain (λ _. u8)

-- R is the result's type
module _ (S R : Plain) (E : Beside S R) (L : BesideLaws E) where
  -- ---- the code, and the two contracts

  abbrev pub function : Callee → Fn
  function step =
      record {
        lifetimes = 3;
        outlives = [];
        ty_params = [];
        givens = 0;
        params = 3;
        locals = local R.mir value_local ∷ local (ty_ref (named 0) mut (pointee S.type.written)) value_local ∷
            local (slice_ty (ty_ref (named 1) imm (pointee u8.written))) value_local ∷
            local (slice_ty (ty_ref (named 2) mut (pointee u8.written))) value_local ∷ local (mir_e E) value_local ∷ local S.mir value_local ∷
            local (ty_ref erased mut (pointee u8.written)) value_local ∷ local (slice_ty (ty_ref erased mut (pointee u8.written))) value_local ∷
            local S.mir value_local ∷ [];
        body =
            seq (assign (place 5 []) (rv_opd (copy (place 1 (deref S.mir ∷ [])))))
            (seq (assign (place 6 []) (addr_of (place 3 (field 0 ∷ deref (pointee u8.written) ∷ []))))
            (seq (assign (place 7 []) (aggregate (copy (place 6 []) ∷ copy (place 3 (field 1 ∷ [])) ∷ [])))
            (seq (call step (copy (place 5 []) ∷ copy (place 2 []) ∷ copy (place 7 []) ∷ []) (place 4 []))
            (seq (assign (place 8 []) (rv_opd (copy (place 4 (field 1 ∷ [])))))
            (seq (assign (place 1 (deref S.mir ∷ [])) (rv_opd (copy (place 8 []))))
            (seq (assign (place 0 []) (rv_opd (copy (place 4 (field 0 ∷ []))))) return))))));
      }

  abbrev pub ended : Ended
  ended =
      record {
        signature = record {
          lifetimes = 3;
          outlives = [];
          params = mut_ref_to (0 ∷ []) tt (value S) ∷ shr_slice_of (1 ∷ []) tt bytes ∷ mut_slice_of (2 ∷ []) tt bytes ∷ [];
          result = value R;
        };
        kept = (yes, (yes, (yes, tt)));
      }

  abbrev pub stayed : Stays ended.signature.params ended.kept
  stayed = (stay_ref (0 ∷ []) tt (value S), (stay_dropped (shr_slice_of (1 ∷ []) tt bytes) yes, (gave_slice (2 ∷ []) tt bytes, tt)))

  -- `of` is the step's definition, and `buffer` that of the bytes that it leaves
  module _ (of : S.type.Denot → List ℕ → List ℕ → E.type.Denot) (buffer : S.type.Denot → List ℕ → List ℕ → List ℕ)
      {M : Type 1} {𝓤 : Ura M} (𝓛 : Logic 𝓤) where
    open 𝓛 use {H, A}

    abbrev step_ended : Ended
    step_ended =
        record {
          signature = record {
            lifetimes = 2;
            outlives = [];
            params = value S ∷ shr_slice_of (0 ∷ []) tt bytes ∷ mut_slice_of (1 ∷ []) tt bytes ∷ [];
            result = plain (λ κs. row_e E);
          };
          kept = (yes, (yes, (yes, tt)));
        }

    -- what the step tells of h and of the bytes xs and ys, where it leaves the bytes zs
    abbrev Told : S.type.Denot → List ℕ → List ℕ → E.type.Denot → List ℕ → Type 0
    Told h xs ys r zs = (r ≡ of h xs ys) × (zs ≡ buffer h xs ys)

    abbrev step_clauses : Clauses 𝓤 step_ended
    step_clauses κs a =
        record {
          ghost = Unit {0};
          requires = λ _. emp 𝓤;
          ensures = λ _ r end. fact 𝓤 (Told a.0 a.1.0.now a.1.1.0.now r end.1.1.0.now);
        }

    abbrev pub StepC : Contract 𝓤
    StepC = triple_of 𝓛 step_ended.signature (closing 𝓛 step_ended step_clauses)

    -- c is the function's contract, which holds where it returns what `of` tells and leaves the struct of `of` and the bytes of `buffer`
    abbrev pub Holds : Clauses 𝓤 ended → Type 1
    Holds c = (κs : Lfts 3) (a : Args ended.signature κs) (g : (c κs a).ghost) (r : E.type.Denot) (zs : List ℕ)
        → Told a.0.now a.1.0.now a.1.1.0.now r zs
        → ent 𝓤 (emp 𝓤) ((c κs a).ensures g (E.told r) (at_exit ended κs a (E.left r, (tt, (zs, tt)))))

    module _ (c : Clauses 𝓤 ended) (unanswered : Holds c) where
      -- ---- the walk. κ, q and h are the struct's lifetime, its share and the struct; κ₁, q₁ and xs those of the bytes that are read, and κ₂,
      -- q₂, γ₂ and ys those of the bytes that are left

      module _ (κ κ₁ κ₂ : Lft) (q q₁ q₂ : Share) (b o : ℕ) (γ : GName) (h : S.type.Denot) (b₁ o₁ : ℕ) (xs : List ℕ)
          (b₂ o₂ : ℕ) (γ₂ : GName) (ys : List ℕ) where
        abbrev read : Bor (List ℕ)
        read = record { ref_ptr = (b₁, o₁); now = xs }

        abbrev filled : MutBor (List ℕ)
        filled = record { ref_ptr = (b₂, o₂); ghost_name = γ₂; now = ys }

        -- what is had at the end of the bytes that are left, where the last are zs
        abbrev given_up : List ℕ → Fml
        given_up zs = fsep (finally u8 γ₂ zs) (fbor κ₂ (Body (Arr (Holey (mem u8)) (length ys)) b₂ o₂ γ₂))

        -- the machine values of the two: a pointer and a count each
        abbrev s₁ : Val
        s₁ = slice_val (b₁, o₁) (length xs)

        abbrev s₂ : Val
        s₂ = slice_val (b₂, o₂) (length ys)

        abbrev x : MutBor S.type.Denot × (Bor (List ℕ) × (MutBor (List ℕ) × Unit {0}))
        x = (record { ref_ptr = (b, o); ghost_name = γ; now = h }, (read, (filled, tt)))

        abbrev at : List Val × (List Val × (List Val × Unit {0}))
        at = (vptr b o ∷ [], (s₁ ∷ [], (s₂ ∷ [], tt)))

        -- what the step's triple binds outside, and what it asks
        abbrev to_step : StepC.Ghost
        to_step = (((κ₁, (κ₂, tt)), (q₁, (q₂, tt)), tt, (h, (read, (filled, tt))), (vals S h, (s₁ ∷ [], (s₂ ∷ [], tt)))), tt)

        asks : ent 𝓤 (sep 𝓤 (sep 𝓤 (A.lft κ₁ q₁) (sep 𝓤 (A.lft κ₂ q₂) (sem 𝓛 ftrue)))
            (sem 𝓛 (owns (row S ∷ ShrSlice (named 0) κ₁ u8 ∷ MutSlice (named 1) κ₂ u8 ∷ []) to_step.0.3 to_step.0.4))) (StepC.pre to_step)
        asks =
            qed 𝓛 ((‵ (flft κ₁ q₁) ⊛ (‵ (flft κ₂ q₂) ⊛ ‵ ftrue)) ∷
            ‵ (owns (row S ∷ ShrSlice (named 0) κ₁ u8 ∷ MutSlice (named 1) κ₂ u8 ∷ []) to_step.0.3 to_step.0.4) ∷ []) ∵
            join ! $ frame ! $ done !

        module _ (g : (c (κ, (κ₁, (κ₂, tt))) x).ghost) where
          abbrev Post : Val → SProp 𝓤
          Post = (walk_of 𝓛 ended stayed c).post (((κ, (κ₁, (κ₂, tt))), (q, (q₁, (q₂, tt))), tt, x, at), g)

          -- the exit, at what the step returned and left
          exits : (r : E.type.Denot) → Is (row R) (E.told r) (vals R (E.told r)) → (zs : List ℕ) → Told h xs ys r zs → length zs ≡ length ys
              → ent 𝓤 (⋆ 𝓛 (‵ (flft κ q) ∷ (‵ (flft κ₁ q₁) ⊛ (‵ (flft κ₂ q₂) ⊛ ‵ ftrue)) ∷ ‵ (fobs γ ((row S).coded.code (E.left r))) ∷
              ‵ (fbor κ (Body (mem (row S)) b o γ)) ∷ ‵ (given_up zs) ∷ [])) (Post (R.val (E.told r)))
          exits r is zs e l =
              qed 𝓛 (‵ (flft κ q) ∷ (‵ (flft κ₁ q₁) ⊛ (‵ (flft κ₂ q₂) ⊛ ‵ ftrue)) ∷ ‵ (fobs γ ((row S).coded.code (E.left r))) ∷
              ‵ (fbor κ (Body (mem (row S)) b o γ)) ∷ ‵ (given_up zs) ∷ []) ∵
              suffices ! _ (ends_at 𝓛 ended stayed c (((κ, (κ₁, (κ₂, tt))), (q, (q₁, (q₂, tt))), tt, x, at), g) (R.val (E.told r)) (E.told r)
              (E.left r, (tt, (zs, tt))) (tt, (tt, (l, tt)))) $
              holds ! (unanswered (κ, (κ₁, (κ₂, tt))) x g r zs e) $ join ! $ frame ! $
              feq_i ! (List Val) (vptr b o ∷ []) (vptr b o ∷ []) refl $ fjoin3 ! $
              nothing ! $ move ! (2 ∷ 0 ∷ []) $ fjoin ! $ nothing ! $ fjoin ! $ move ! (1 ∷ 0 ∷ []) $ fjoin ! $ frame ! $
              owned ! (row R) (Is (row R)) (R.makes 𝓛) (E.told r) _ is $ done !

          module _ (step : Callee) (C : Calls 𝓤 H) (Λ : Loops 𝓤 H) (fm : FmC 𝓤 H 𝓛.laws C) (known : Triple 𝓤 (C step) StepC) where
            walk : Room u8 (length xs) → Room u8 (length ys)
                → ent 𝓤 (on_entry 𝓛 ended.signature (κ, (κ₁, (κ₂, tt))) (q, (q₁, (q₂, tt))) x at)
                (WpFn 𝓤 H C Λ (function step) (vptr b o ∷ s₁ ∷ s₂ ∷ []) Post)
            walk room₁ room₂ =
                qed 𝓛 ((‵ (flft κ q) ⊛ (‵ (flft κ₁ q₁) ⊛ (‵ (flft κ₂ q₂) ⊛ ‵ ftrue))) ∷
                ‵ (owns (MutRef (named 0) κ (row S) ∷ ShrSlice (named 1) κ₁ u8 ∷ MutSlice (named 2) κ₂ u8 ∷ []) x at) ∷ []) ∵
                enter ! C Λ (function step) (vptr b o ∷ s₁ ∷ s₂ ∷ []) _ $
                alloc1 ! (λ l₀. alloc1 ! (λ l₁. alloc1 ! (λ l₂. alloc1 ! (λ l₃. alloc1 ! (λ l₄. alloc1 ! (λ l₅. alloc1 ! (λ l₆.
                alloc1 ! (λ l₇. alloc1 ! (λ l₈. alloc0 ! $
                params1 ! $ pass1 ! (init ! 14 refl (tt, tt)) $ pass1 ! (init ! 12 refl (tt, (tt, (record { fits = room₁.0 }, tt)))) $
                pass1 ! (init ! 10 refl (tt, (tt, (record { fits = room₂.0 }, tt)))) $ pass0 ! $
                -- [_8; …; _7; …; _6; …; _5; …; _4; …; _3; …; _2; …; _1; …; room for _0; …; the tokens and true; what the parameters own]
                move ! (19 ∷ []) $ fsplit ! $ fsplit3 ! $ drop ! $ move ! (21 ∷ []) $ split ! $ move ! (2 ∷ 3 ∷ 0 ∷ []) $
                taken_out S ! tt {h = h} b o (λ was.
                -- [the cell; what it owns; the open borrow; obs; auth; the slices' tokens and true; what the slices own; _8 (7); …; _7 (9); …; _6 (11); …;
                -- _5 (13); …; _4 (15); …; _3 (17); …; _2 (19); …; _1 (21); …; room for _0 (23); …]
                assigns ! (of_opd ! (load ! (from ! (hop ! (look ! 21 refl) (stop !))) (look_raw ! 0 refl))) (from ! (stop !))
                (init ! 13 refl ((S.lawful 𝓛).typed h _ was).0) $
                assigns ! (addr ! (from ! (fld ! refl (hop ! (look_in ! 17 (sub ! 0 refl (whole !))) (stop !))))) (from ! (stop !))
                (init ! 11 refl (tt, tt)) $
                assigns ! (agg ! (and_then ! (load ! (from ! (stop !)) (look ! 11 refl))
                (and_then ! (load ! (from ! (fld ! refl (stop !))) (look_in ! 17 (sub ! 1 refl (whole !)))) (no_more !)))) (from ! (stop !))
                (init ! 9 refl (tt, (tt, (record { fits = room₂.0 }, tt)))) $
                -- the call: what the copy owns goes to it, and the slices with their tokens
                move ! (1 ∷ 6 ∷ []) $ fjoin ! $ move ! (5 ∷ 0 ∷ []) $ use2 𝓛 (raw (StepC.pre to_step)) asks $
                -- [what the call asks; the cell; the open borrow; obs; auth; _8 (5); …; _7 (7); …; _6 (9); …; _5 (11); …; _4 (13); …; _3 (15); …; _2 (17); …;
                -- _1 (19); …; room for _0 (21); …]
                calls_at ! fm StepC known to_step
                (and_then ! (load ! (from ! (stop !)) (look ! 11 refl)) (and_then ! (load ! (from ! (stop !)) (look ! 17 refl))
                (and_then ! (load ! (from ! (stop !)) (look ! 7 refl)) (no_more !)))) (λ w.
                returned ! tt step_ended step_clauses to_step w (λ r ws. Told h xs ys r ws.1.1.0) (λ r ws. id⊢ 𝓤 _) (λ r ws e is.
                -- [what the result owns; what is said of the last values; the slices' tokens and true; the cell; …]
                move ! (1 ∷ []) $ fsplit ! $ drop ! $ fsplit ! $ drop ! $ fsplit ! $ fsplit ! $ fsplit ! $ move ! (1 ∷ []) $ feq_l ! (λ l. fjoin ! $
                -- [the last bytes with their borrow; true; what the result owns; the slices' tokens and true; the cell; the open borrow; obs; auth; _8 (8); …;
                -- _7 (10); …; _6 (12); …; _5 (14); …; _4 (16); …; _3 (18); …; _2 (20); …; _1 (22); …; room for _0 (24); …]
                land ! (from ! (stop !)) (init ! 16 refl ((L.lawful 𝓛).typed r _ is).0) $
                rewrite ! 16 (λ (u : Val). ‵ (fat full_share (mir_e E) l₄ 0 u)) (ap only (L.tells r (w ∷ []) is)) refl $
                assigns ! (of_opd ! (load ! (from ! (fld ! refl (stop !))) (look_in ! 16 (sub ! 1 refl (whole !))))) (from ! (stop !))
                (init ! 8 refl ((S.lawful 𝓛).typed (E.left r) _ (L.is_left r _ is)).0) $
                assigns ! (of_opd ! (load ! (from ! (stop !)) (look ! 8 refl))) (from ! (hop ! (look ! 22 refl) (stop !))) (store_raw ! 4 refl
                ((S.lawful 𝓛).typed (E.left r) _ (L.is_left r _ is)).0) $
                assigns ! (of_opd ! (load ! (from ! (fld ! refl (stop !))) (look_in ! 16 (sub ! 0 refl (whole !))))) (from ! (stop !))
                (init ! 24 refl ((R.lawful 𝓛).typed (E.told r) _ (L.is_told r _ is)).0) $
                -- the borrow is closed at the new struct
                move ! (4 ∷ 5 ∷ 6 ∷ 7 ∷ []) $ put_back S ! tt (E.left r) (L.is_left r _ is) b o $
                -- [obs; the borrow; the token; the last bytes with their borrow; true; what the result owns; the slices' tokens and true;
                -- _8 (7); …; _7 (9); …; _6 (11); …; _5 (13); …; _4 (15); …; _3 (17); …; _2 (19); …; _1 (21); …; _0 (23); …]
                returns ! (look ! 23 refl) $ forget ! 7 refl $ forget ! 9 refl $ forget ! 11 refl $ forget ! 13 refl $ forget ! 15 refl $ forget ! 17 refl $
                forget ! 19 refl $ forget ! 21 refl $ forget ! 23 refl $
                move ! (23 ∷ 24 ∷ []) $ free1 ! $ move ! (21 ∷ 22 ∷ []) $ free1 ! $ move ! (19 ∷ 20 ∷ []) $ free1 ! $ move ! (17 ∷ 18 ∷ []) $ free1 ! $
                move ! (15 ∷ 16 ∷ []) $ free1 ! $ move ! (13 ∷ 14 ∷ []) $ free1 ! $ move ! (11 ∷ 12 ∷ []) $ free1 ! $ move ! (9 ∷ 10 ∷ []) $ free1 ! $
                move ! (7 ∷ 8 ∷ []) $ free1 ! $ free0 ! $ keep ! (2 ∷ 6 ∷ 0 ∷ 1 ∷ 3 ∷ []) $ by ! (exits r (L.is_told r _ is) ws.1.1.0 e l))))))))))))))

      walks : (step : Callee) (C : Calls 𝓤 H) (Λ : Loops 𝓤 H) → FmC 𝓤 H 𝓛.laws C → Triple 𝓤 (C step) StepC
          → Walks 𝓛 ended stayed (WpFn 𝓤 H C Λ (function step)) c
      walks step C Λ fm known =
          walked 𝓛 ended stayed c (WpFn 𝓤 H C Λ (function step)) (λ κs. (mut_vals, (shr_slice_vals, (mut_slice_vals, tt))))
          (λ κs. (mut_Tells (named 0) κs.0 (row S), (shr_slice_Tells (named 1) κs.1.0 u8, (mut_slice_Tells (named 2) κs.1.1.0 u8, tt))))
          (λ κs qs bounds a g are. via 𝓤 _ (fst∗ 𝓤 _ ((c κs a).requires g))
          (walk κs.0 κs.1.0 κs.1.1.0 qs.0 qs.1.0 qs.1.1.0 a.0.ref_ptr.0 a.0.ref_ptr.1 a.0.ghost_name a.0.now
          a.1.0.ref_ptr.0 a.1.0.ref_ptr.1 a.1.0.now
          a.1.1.0.ref_ptr.0 a.1.1.0.ref_ptr.1 a.1.1.0.ghost_name a.1.1.0.now g step C Λ fm known are.1.0.0.1 are.1.1.0.0.1))

  goes : {M : Type 1} {𝓤 : Ura M} (𝓛 : Logic 𝓤) → AllGo 𝓛 3 ended.signature.params ended.kept stayed
  goes 𝓛 = (
    Goes-ref 𝓛 3 0 tt (value S),
    (Goes-dropped 𝓛 3 (shr_slice_of (1 ∷ []) tt bytes) yes (λ κs x f. refl), (Goes-gave_slice 𝓛 3 2 tt bytes, tt)),
  )

  -- k is the function's name, and γ the names that it calls; `step` is the step's, and r its code
  pub stores_whole_filling : (of : S.type.Denot → List ℕ → List ℕ → E.type.Denot) (buffer : S.type.Denot → List ℕ → List ℕ → List ℕ)
      {M : Type 1} {𝓤 : Ura M} (𝓛 : Logic 𝓤) (𝓜 : Model 𝓤 𝓛.H) (𝓡 : Running 𝓤 𝓛.H 𝓜)
      (c : Clauses 𝓤 ended) → Holds of buffer 𝓛 c
      → (γ : Env) (k step : Callee) → Closed 𝓤 𝓛.H (tables 𝓤 𝓛.H 𝓜 𝓡 γ).C (tables 𝓤 𝓛.H 𝓜 𝓡 γ).Λ k (function step)
      → (r : Routine) → γ step ≡ r → Triple 𝓤 (𝓡.run r) (StepC of buffer 𝓛)
      → Triple 𝓤 ((tables 𝓤 𝓛.H 𝓜 𝓡 γ).C k) (triple_of 𝓛 ended.signature (closing 𝓛 ended c))
  stores_whole_filling of buffer 𝓛 𝓜 𝓡 c unanswered γ k step closed r p met =
      by_one_call 𝓛 𝓜 𝓡 ended stayed c (goes 𝓛) γ k (function step) closed (StepC of buffer 𝓛) step r p met
      (walks of buffer 𝓛 c unanswered step)
