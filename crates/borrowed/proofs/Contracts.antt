-- The contracts of a function that is lent a struct S and of the step by value that it calls, whatever values stand beside S; and what every
-- walk of such a function shows in the same way: that the step's demand is met, and that the function's exit is.
--     by_value, lent, shown        the signatures: of the step, and of a function over a `&mut S` and over a `&S`
--     Returning    the step's contract: it asks nothing, and returns what a definition says.        to_step      what that binds for a call
--     asks         what a copy of S owns, with the values beside it, is all that the step asks
--     ends_lent, ends_shown        the exit of a function over a `&mut S` that leaves another S there, and of one over a `&S`
--     Beside, BesideLaws           what a step returns that tells a result, R, and the S to leave: a struct of the two, in this order
-- Assumes nothing.
use mathlib.Core.Path.{◌≡◌, refl}
use Prim.Native.Nat.{ℕ}
use mathlib.Core.List.{[], ◌∷◌, List}
use seplogic.Ra.Ura.{Ura}
use mir.Syntax.{Sym, Ty, ty_struct, tcons, tnil}
use mir.Val.{Val, vptr, vstruct, vcons, vnil}
use base.Logic.{ent, sep, emp}
use base.Fml.{GName, Lft, Share, flft, fobs, fbor}
use types.Logic.{Logic, sem}
use contract.Lifetimes.{Lfts}
use contract.Monad.{fact}
use types.Kit.{‵, ⋆, ◌$◌, ◌∵◌, !, qed, move, use0, join, fjoin, fjoin3, feq_i, suffices, frame, done}
use types.SemTy.{Body}
use denote.RattleType.{RattleType, Denots, Valss, owns}
use denote.Laws.{Is, Tells, Lawful}
use denote.Memory.{mem, hidden_shr}
use denote.Ref.{Bor, MutBor}
use denote.Signature.{Slot, plain, mut_ref_to, shr_ref_to, types_at}
use denote.Steps.{owned, nothing}
use denote.Triple.Statement.{Contract}
use denote.Triple.Entry.{Args, Res}
use denote.Triple.End.{Kepts, Fins}
use denote.Triple.Spec.{triple_of}
use denote.Triple.Walked.{Stays, stay_ref, stay_none_ref, fits_of, has_of, walk_of, ends_at}
use denote.Triple.Clauses.{Ended, Clauses, at_exit, closing}
use denote.Exit.{yes}
use Rattle.borrowed.proofs.Walk.{at_one, Plain, row, vals, value, holds}

-- ---- the signatures; ss are the parameters beside S

abbrev pub by_value : Plain → RattleType → (ss : List (Slot 0)) → Kepts ss → Ended
by_value S E ss ks =
    record { signature = record { lifetimes = 0; outlives = []; params = value S ∷ ss; result = plain (λ κs. E) }; kept = (yes, ks) }

abbrev pub lent : Plain → Plain → (ss : List (Slot 1)) → Kepts ss → Ended
lent S R ss ks =
    record {
      signature = record { lifetimes = 1; outlives = []; params = mut_ref_to (0 ∷ []) tt (value S) ∷ ss; result = value R };
      kept = (yes, ks);
    }

abbrev pub shown : Plain → Plain → (ss : List (Slot 1)) → Kepts ss → Ended
shown S R ss ks =
    record {
      signature = record { lifetimes = 1; outlives = []; params = shr_ref_to (0 ∷ []) tt (value S) ∷ ss; result = value R };
      kept = (yes, ks);
    }

-- what is had of them at the end; hs says it of the parameters beside S
module _ (S R : Plain) (ss : List (Slot 1)) (ks : Kepts ss) (hs : Stays ss ks) where
  abbrev pub lent_stays : Stays (lent S R ss ks).signature.params (lent S R ss ks).kept
  lent_stays = (stay_ref (0 ∷ []) tt (value S), hs)

  abbrev pub shown_stays : Stays (shown S R ss ks).signature.params (shown S R ss ks).kept
  shown_stays = (stay_none_ref (0 ∷ []) tt (value S) yes, hs)

-- ---- what a step returns

pub record Beside (S R : Plain) : Type 2 where
  pub type : RattleType
  pub name : Sym
  pub told : type.Denot → R.type.Denot
  pub left : type.Denot → S.type.Denot

module _ {S R : Plain} (E : Beside S R) where
  abbrev pub mir_e : Ty
  mir_e = ty_struct E.name (tcons R.mir (tcons S.mir tnil))

  abbrev pub row_e : RattleType
  row_e = at_one E.type mir_e

  -- its machine value is that of its two fields
  pub record BesideLaws : Type 2 where
    pub tells : Tells row_e (Is row_e) (λ e. vstruct (vcons (R.val (E.told e)) (vcons (S.val (E.left e)) vnil)) ∷ [])
    pub lawful : {M : Type 1} {𝓤 : Ura M} (𝓛 : Logic 𝓤) → Lawful 𝓛 row_e
    pub is_told : (e : E.type.Denot) (vs : List Val) → Is row_e e vs → Is (row R) (E.told e) (vals R (E.told e))
    pub is_left : (e : E.type.Denot) (vs : List Val) → Is row_e e vs → Is (row S) (E.left e) (vals S (E.left e))

module _ {M : Type 1} {𝓤 : Ura M} (𝓛 : Logic 𝓤) where
  -- ---- the step's contract; `of` is its definition

  open 𝓛 use {A}

  module _ (T : Ended) (of : (κs : Lfts T.signature.lifetimes) (a : Args T.signature κs) → Res T.signature κs) where
    abbrev pub returning : Clauses 𝓤 T
    returning κs a = record { ghost = Unit {0}; requires = λ _. emp 𝓤; ensures = λ _ r end. fact 𝓤 (r ≡ of κs a) }

    abbrev pub Returning : Contract 𝓤
    Returning = triple_of 𝓛 T.signature (closing 𝓛 T returning)

  -- a call at h and the values a, of which the machine values are vss
  module _ (S : Plain) (E : RattleType) (ss : List (Slot 0)) (ks : Kepts ss)
      (of : (κs : Lfts 0) (a : Args (by_value S E ss ks).signature κs) → E.Denot) (h : S.type.Denot) (a : Denots (types_at ss tt))
      (vss : Valss (types_at ss tt)) where
    abbrev pub to_step : (Returning (by_value S E ss ks) of).Ghost
    to_step = ((tt, tt, tt, (h, a), (vals S h, vss)), tt)

    pub asks : ent 𝓤 (emp 𝓤) (sem 𝓛 (owns (types_at ss tt) a vss))
        → ent 𝓤 (sem 𝓛 ((row S).own_val h (vals S h))) ((Returning (by_value S E ss ks) of).pre to_step)
    asks had =
        qed 𝓛 (‵ ((row S).own_val h (vals S h)) ∷ []) ∵ use0 𝓛 (‵ (owns (types_at ss tt) a vss)) had $ move ! (1 ∷ 0 ∷ []) $ fjoin ! $
        nothing ! $ join ! $ frame ! $ done !

  -- ---- the exits. a are the values beside S, vss their machine values and ws what is bound for their last values; c is the function's
  -- contract, which holds at the result r

  module _ (S R : Plain) (ss : List (Slot 1)) (ks : Kepts ss) (hs : Stays ss ks) where
    module _ (κ : Lft) (q : Share) (b o : ℕ) (γ : GName) (h : S.type.Denot) (a : Denots (types_at ss (κ, tt))) (vss : Valss (types_at ss (κ, tt)))
        (ws : Fins (κ, tt) ss ks a) (fits : fits_of (κ, tt) ss ks hs a ws) (had : ent 𝓤 (emp 𝓤) (sem 𝓛 (has_of (κ, tt) ss ks hs a ws vss))) where
      abbrev x : MutBor S.type.Denot × Denots (types_at ss (κ, tt))
      x = (record { ref_ptr = (b, o); ghost_name = γ; now = h }, a)

      -- z is left behind the reference
      pub ends_lent : (c : Clauses 𝓤 (lent S R ss ks)) (g : (c (κ, tt) x).ghost) (z : S.type.Denot) (r : R.type.Denot) → Is (row R) r (vals R r)
          → ent 𝓤 (emp 𝓤) ((c (κ, tt) x).ensures g r (at_exit (lent S R ss ks) (κ, tt) x (z, ws)))
          → ent 𝓤 (sep 𝓤 (A.obs γ ((row S).coded.code z)) (sep 𝓤 (A.bor κ (Body (mem (row S)) b o γ)) (A.lft κ q)))
          ((walk_of 𝓛 (lent S R ss ks) (lent_stays S R ss ks hs) c).post (((κ, tt), (q, tt), tt, x, (vptr b o ∷ [], vss)), g) (R.val r))
      ends_lent c g z r is said =
          qed 𝓛 (‵ (fobs γ ((row S).coded.code z)) ∷ ‵ (fbor κ (Body (mem (row S)) b o γ)) ∷ ‵ (flft κ q) ∷ []) ∵
          suffices ! _ (ends_at 𝓛 (lent S R ss ks) (lent_stays S R ss ks hs) c (((κ, tt), (q, tt), tt, x, (vptr b o ∷ [], vss)), g) (R.val r) r (z, ws)
          (tt, fits)) $
          holds ! said $ nothing ! $ move ! (3 ∷ 0 ∷ []) $ join ! $ frame ! $ feq_i ! (List Val) (vptr b o ∷ []) (vptr b o ∷ []) refl $ fjoin3 ! $
          use0 𝓛 (‵ (has_of (κ, tt) ss ks hs a ws vss)) had $ move ! (1 ∷ 0 ∷ []) $ fjoin ! $ frame ! $
          owned ! (row R) (Is (row R)) (R.makes 𝓛) r _ is $ done !

    module _ (κ : Lft) (q : Share) (b o : ℕ) (h : S.type.Denot) (a : Denots (types_at ss (κ, tt))) (vss : Valss (types_at ss (κ, tt)))
        (ws : Fins (κ, tt) ss ks a) (fits : fits_of (κ, tt) ss ks hs a ws) (had : ent 𝓤 (emp 𝓤) (sem 𝓛 (has_of (κ, tt) ss ks hs a ws vss))) where
      abbrev y : Bor S.type.Denot × Denots (types_at ss (κ, tt))
      y = (record { ref_ptr = (b, o); now = h }, a)

      pub ends_shown : (c : Clauses 𝓤 (shown S R ss ks)) (g : (c (κ, tt) y).ghost) (r : R.type.Denot) (w : Val)
          → ent 𝓤 (emp 𝓤) ((c (κ, tt) y).ensures g r (at_exit (shown S R ss ks) (κ, tt) y (tt, ws)))
          → ent 𝓤 (⋆ 𝓛 (‵ (flft κ q) ∷ ‵ (hidden_shr (row S) κ h b o) ∷ ‵ ((row R).own_val r (w ∷ [])) ∷ []))
          ((walk_of 𝓛 (shown S R ss ks) (shown_stays S R ss ks hs) c).post (((κ, tt), (q, tt), tt, y, (vptr b o ∷ [], vss)), g) w)
      ends_shown c g r w said =
          qed 𝓛 (‵ (flft κ q) ∷ ‵ (hidden_shr (row S) κ h b o) ∷ ‵ ((row R).own_val r (w ∷ [])) ∷ []) ∵
          suffices ! _ (ends_at 𝓛 (shown S R ss ks) (shown_stays S R ss ks hs) c (((κ, tt), (q, tt), tt, y, (vptr b o ∷ [], vss)), g) w r
          (tt, ws) (tt, fits)) $
          holds ! said $ nothing ! $ move ! (1 ∷ 0 ∷ []) $ join ! $ frame ! $ feq_i ! (List Val) (vptr b o ∷ []) (vptr b o ∷ []) refl $ fjoin ! $
          use0 𝓛 (‵ (has_of (κ, tt) ss ks hs a ws vss)) had $ move ! (1 ∷ 0 ∷ []) $ fjoin ! $ frame ! $ done !
