-- What proofs by hand over a lent struct share: a function is walked statement by statement, and calls one function that is already proved.
--     Plain        a type whose values own only facts and are one machine value each, and are seen at a function's exit as they were passed
--     struct       a struct's.        i32_plain, u32_plain         those of i32 and u32
--     value, value_stays, value_goes        a value of such a type as a parameter.        none         what is bound for its last value
--     had          what such a value owns is had for nothing.        copies       it may be copied
--     looked_into  a `&` is looked into, and what lies behind it is known
--     taken_out    a `&mut` is opened, and what lies behind it is known
--     put_back     a value is left behind the `&mut`, which is closed at it
--     holds        what is had for nothing is no goal
--     returned     what is known after the call: the callee's contract.        answered     of the result alone
--     by_one_call  the walk gives the function's contract
-- Assumes nothing.
use mathlib.Core.Path.{◌≡◌, refl, sym, subst}
use Prim.Native.Nat.{ℕ}
use mathlib.Core.List.{List, [], ◌∷◌}
use seplogic.Ra.Ura.{Ura}
use base.Fraction.{full_share}
use mir.Syntax.{Fn, Ty, ty_int, w32}
use mir.Val.{Val, vint, of_z}
use base.Logic.{SProp, ent, sep, emp, via, comm∗, mono_l, emp∗, id⊢}
use base.Stored.{Gv}
use base.Fml.{Fml, GName, Lft, Share, ftrue, fsep, fobs, fauth, fbor, fobor, flft}
use prog.Model.{Model}
use prog.Routine.{Callee, Routine, Env}
use prog.Wp.{Calls, Loops, WpFn, Closed, Tables}
use types.Logic.{Logic}
use contract.Monad.{fact}
use contract.Running.{Running, tables, tables_of}
use types.Kit.{Item, Goal, prop, Seq, Step, Soaks, ‵, raw, ◌⊛◌, some, later, ◌$◌, ◌∵◌, !, qed, step, move, drop, use1, split, pick, await, fjoin}
use types.Kit.{frame, done}
use types.SemTy.{Body}
use sound.WpLaws.{FmC, fm_of, WpFn-mono}
use denote.RattleType.{RattleType}
use denote.Laws.{Is, Tells, Makes, Lawful, Copy, shows}
use denote.Memory.{mem, cell_at, part_at, hidden_shr}
use denote.Copied.{sint_Copied, uint_Copied}
use denote.Opens.{Opens, Shut}
use denote.Plain.{uint_Tells, uint_Lawful, uint_Makes}
use denote.Signed.{sint_Tells, sint_Lawful, sint_Makes}
use denote.Builtin.{i32, u32}
use denote.Signature.{Slot, plain, type_at}
use denote.Steps.{looks, opens, closes, owned, peeks, heard}
use denote.Struct.Steps.{spelt}
use denote.Struct.Struct as S
use denote.Struct.Declared as SD
use denote.Struct.Laws as SL
use denote.Triple.Statement.{Contract, Triple}
use denote.Triple.Entry.{Res, alive}
use denote.Triple.Spec.{triple_of}
use denote.Triple.Table.{entered, cited}
use denote.Triple.Walked.{Stay, Stays, stay_none, Goes, AllGo, Goes-none, Walks, walk_Meets}
use denote.Triple.Clauses.{Ended, Clauses, Lasts, at_exit, lasts, closing}
use denote.Exit.{yes, Exit, unchanged, Last, left}

-- ---- types

-- X, with its machine type written out: one, at τ
abbrev pub at_one : RattleType → Ty → RattleType
at_one X τ =
    record {
      Denot = X.Denot;
      mir = τ ∷ [];
      written = X.written;
      reaches = X.reaches;
      lives = X.lives;
      own_val = X.own_val;
      exit = X.exit;
      coded = X.coded;
      shr_at = X.shr_at;
    }

pub record Plain : Type 2 where
  pub type : RattleType
  pub mir : Ty
  pub val : type.Denot → Val
  pub tells : Tells (at_one type mir) (Is (at_one type mir)) (λ x. val x ∷ [])
  pub lawful : {M : Type 1} {𝓤 : Ura M} (𝓛 : Logic 𝓤) → Lawful 𝓛 (at_one type mir)
  pub makes : {M : Type 1} {𝓤 : Ura M} (𝓛 : Logic 𝓤) → Makes 𝓛 (at_one type mir) (Is (at_one type mir))
  pub opens : {M : Type 1} {𝓤 : Ura M} (𝓛 : Logic 𝓤) → Opens 𝓛 (at_one type mir)
  pub as_passed : type.exit yes ≡ unchanged

abbrev pub row : Plain → RattleType
row X = at_one X.type X.mir

abbrev pub vals : (X : Plain) → X.type.Denot → List Val
vals X x = X.val x ∷ []

-- of a struct with its fields written out, `as_passed` computes: refl
abbrev pub struct : (D : SD.Declared) → SL.Laws D → S.Plains (SD.fields D) → SL.Copyables D.parts → (SD.row D).exit yes ≡ unchanged → Plain
struct D L plain copy same =
    record {
      type = SD.row D;
      mir = S.layout (SD.shape D);
      val = SL.val D L;
      tells = SL.tells D L;
      lawful = SL.lawful D L;
      makes = λ 𝓛. SL.makes D plain 𝓛;
      opens = λ 𝓛. (SL.copied D copy 𝓛).opens;
      as_passed = same;
    }

abbrev pub i32_plain : Plain
i32_plain =
    record {
      type = i32;
      mir = ty_int w32;
      val = λ z. vint w32 (of_z w32 z);
      tells = sint_Tells w32;
      lawful = λ 𝓛. sint_Lawful 𝓛 w32;
      makes = λ 𝓛. sint_Makes 𝓛 w32;
      opens = λ 𝓛. (sint_Copied 𝓛 w32).opens;
      as_passed = refl;
    }

abbrev pub u32_plain : Plain
u32_plain =
    record {
      type = u32;
      mir = ty_int w32;
      val = vint w32;
      tells = uint_Tells w32;
      lawful = λ 𝓛. uint_Lawful 𝓛 w32;
      makes = λ 𝓛. uint_Makes 𝓛 w32;
      opens = λ 𝓛. (uint_Copied 𝓛 w32).opens;
      as_passed = refl;
    }

pub copies : (X : Plain) {M : Type 1} {𝓤 : Ura M} (𝓛 : Logic 𝓤) → Copy 𝓛 (row X)
copies X 𝓛 = record {
  twice = λ x vs. qed 𝓛 (‵ ((row X).own_val x vs) ∷ []) ∵ peeks ! (row X) (Is (row X)) (shows 𝓛 (row X)) x vs (λ is.
      owned ! (row X) (Is (row X)) (X.makes 𝓛) x vs is $ frame ! $ done !);
}

-- ---- a plain value as a parameter: it is still owned at the end, and nothing is said of it there

abbrev pub value : {n : ℕ} → Plain → Slot n
value P = plain (λ _. row P)

abbrev pub none : (P : Plain) (p : P.type.Denot) → Last (P.type.exit yes) p
none P p = subst (λ (e : Exit P.type.Denot). Last e p) (sym P.as_passed) tt

abbrev pub value_stays : {n : ℕ} (P : Plain) → Stay {n = n} (value P) yes
value_stays P = stay_none (λ _. row P) yes

silent : (P : Plain) (p : P.type.Denot) (f : Last (P.type.exit yes) p) → left (P.type.exit yes) p f ≡ ftrue
silent P p = subst (λ (e : Exit P.type.Denot). (f : Last e p) → left e p f ≡ ftrue) (sym P.as_passed) (λ f. refl)

pub value_goes : {M : Type 1} {𝓤 : Ura M} (𝓛 : Logic 𝓤) (n : ℕ) (P : Plain)
    → Goes 𝓛 n (value P) yes (value_stays P)
value_goes 𝓛 n P = Goes-none 𝓛 n (λ _. row P) yes (λ κs. silent P)

-- ---- steps

module _ {M : Type 1} {𝓤 : Ura M} {𝓛 : Logic 𝓤} {K : Type 0} {Γ : List (Item 𝓤)} {G : Goal 𝓤 𝓛.H} where
  -- what a plain value owns, joined with what the values after it own
  pub had : (X : Plain) → K → (x : X.type.Denot) → Is (row X) x (vals X x) → {P : Fml} → Step K 𝓛 (‵ (fsep ((row X).own_val x (vals X x)) P) ∷ Γ) G (‵ P ∷ Γ) G
  had X t x is = step (λ s. owned t (row X) (Is (row X)) (X.makes 𝓛) x _ is $ fjoin t $ s)

  module _ (X : Plain) {κ : Lft} {q : Share} where
    -- p is the share of the cell that is had until `shuts`
    pub looked_into : K → Soaks G → (h : X.type.Denot) (b o : ℕ)
        → ((p : Share) → Is (row X) h (vals X h)
        → Seq K 𝓛 (‵ (cell_at p (row X).mir (vals X h) b o) ∷ ‵ ((row X).own_val h (vals X h)) ∷ Shut 𝓛 κ q (part_at (row X) p h b o)
        ∷ ‵ (hidden_shr (row X) κ h b o) ∷ Γ) G)
        → Seq K 𝓛 (‵ (hidden_shr (row X) κ h b o) ∷ ‵ (flft κ q) ∷ Γ) G
    looked_into t z h b o k =
        looks t z (row X) (X.opens 𝓛) h b o (λ p vs.
        spelt t (row X) (Is (row X)) (shows 𝓛 (row X)) (vals X) X.tells p h vs b o $
        move t (1 ∷ []) $ peeks t (row X) (Is (row X)) (shows 𝓛 (row X)) h (vals X h) (λ was. move t (1 ∷ 0 ∷ []) $ k p was))

  module _ (X : Plain) {κ : Lft} {q : Share} {γ : GName} where
    pub taken_out : K → Soaks G → {h : X.type.Denot} (b o : ℕ)
        → (Is (row X) h (vals X h)
        → Seq K 𝓛 (‵ (cell_at full_share (row X).mir (vals X h) b o) ∷ ‵ ((row X).own_val h (vals X h)) ∷ ‵ (fobor κ q (Body (mem (row X)) b o γ))
        ∷ ‵ (fobs γ ((row X).coded.code h)) ∷ ‵ (fauth γ ((row X).coded.code h)) ∷ Γ) G)
        → Seq K 𝓛 (‵ (fobs γ ((row X).coded.code h)) ∷ ‵ (fbor κ (Body (mem (row X)) b o γ)) ∷ ‵ (flft κ q) ∷ Γ) G
    taken_out t z {h} b o k =
        opens t z (row X) {h = h} b o (λ vs. spelt t (row X) (Is (row X)) (shows 𝓛 (row X)) (vals X) X.tells full_share h vs b o $
        move t (1 ∷ []) $ peeks t (row X) (Is (row X)) (shows 𝓛 (row X)) h (vals X h) (λ was. move t (1 ∷ 0 ∷ []) $ k was))

    pub put_back : K → Soaks G → (h : X.type.Denot) → Is (row X) h (vals X h) → {u v : Gv} (b o : ℕ)
        → Step K 𝓛 (‵ (fobs γ ((row X).coded.code h)) ∷ ‵ (fbor κ (Body (mem (row X)) b o γ)) ∷ ‵ (flft κ q) ∷ Γ) G
        (‵ (cell_at full_share (row X).mir (vals X h) b o) ∷ ‵ (fobor κ q (Body (mem (row X)) b o γ)) ∷ ‵ (fobs γ u) ∷ ‵ (fauth γ v) ∷ Γ) G
    put_back t z h is b o =
        step (λ s. owned t (row X) (Is (row X)) (X.makes 𝓛) h (vals X h) is $ move t (1 ∷ 0 ∷ []) $ closes t z (row X) h (vals X h) b o $ s)

  -- T is the callee's signature, c its clauses, x what its triple binds outside, w what the call returned, and φ what it ensures of the
  -- result and of its parameters' last values, ws
  pub returned : K → Soaks G → (T : Ended) (c : Clauses 𝓤 T) (x : (triple_of 𝓛 T.signature (closing 𝓛 T c)).Ghost) (w : Val)
      (φ : Res T.signature x.0.0 → Lasts T x.0.0 x.0.3 → Type 0)
      → ((r : Res T.signature x.0.0) (ws : Lasts T x.0.0 x.0.3)
      → ent 𝓤 ((c x.0.0 x.0.3).ensures x.1 r (at_exit T x.0.0 x.0.3 ws)) (fact 𝓤 (φ r ws)))
      → ((r : Res T.signature x.0.0) (ws : Lasts T x.0.0 x.0.3) → φ r ws → Is (type_at T.signature.result x.0.0) r (w ∷ [])
      → Seq K 𝓛 (‵ ((type_at T.signature.result x.0.0).own_val r (w ∷ [])) ∷ ‵ (lasts T x.0.0 x.0.3 ws)
      ∷ raw (alive 𝓛 T.signature x.0.0 x.0.1) ∷ Γ) G)
      → Seq K 𝓛 (raw ((triple_of 𝓛 T.signature (closing 𝓛 T c)).post x w) ∷ Γ) G
  returned t z T c x w φ says k =
      let R : RattleType = type_at T.signature.result x.0.0 in
      use1 𝓛 (later (some (λ (r : R.Denot). (raw (alive 𝓛 T.signature x.0.0 x.0.1) ⊛ ‵ (R.own_val r (w ∷ [])))
      ⊛ some (λ (ws : Lasts T x.0.0 x.0.3). ‵ (lasts T x.0.0 x.0.3 ws)
      ⊛ raw ((c x.0.0 x.0.3).ensures x.1 r (at_exit T x.0.0 x.0.3 ws)))))) (id⊢ 𝓤 _) $
      await t z $ pick t (λ r. split t $ move t (1 ∷ []) $ pick t (λ ws. split t $ move t (1 ∷ []) $ use1 𝓛 (raw (fact 𝓤 (φ r ws))) (says r ws) $
      heard t (φ r ws) (λ e. move t (1 ∷ []) $ split t $ move t (1 ∷ 2 ∷ []) $
      peeks t R (Is R) (shows 𝓛 R) r (w ∷ []) (λ is. k r ws e is))))

  -- the same where nothing is wanted of the last values, nor of the tokens
  pub answered : K → Soaks G → (T : Ended) (c : Clauses 𝓤 T) (x : (triple_of 𝓛 T.signature (closing 𝓛 T c)).Ghost) (w : Val)
      (φ : Res T.signature x.0.0 → Type 0)
      → ((r : Res T.signature x.0.0) (ws : Lasts T x.0.0 x.0.3)
      → ent 𝓤 ((c x.0.0 x.0.3).ensures x.1 r (at_exit T x.0.0 x.0.3 ws)) (fact 𝓤 (φ r)))
      → ((r : Res T.signature x.0.0) → φ r → Is (type_at T.signature.result x.0.0) r (w ∷ [])
      → Seq K 𝓛 (‵ ((type_at T.signature.result x.0.0).own_val r (w ∷ [])) ∷ Γ) G)
      → Seq K 𝓛 (raw ((triple_of 𝓛 T.signature (closing 𝓛 T c)).post x w) ∷ Γ) G
  answered t z T c x w φ says k =
      returned t z T c x w (λ r ws. φ r) says (λ r ws e is. move t (1 ∷ 2 ∷ 0 ∷ []) $ drop t $ drop t $ k r e is)

-- a goal P ∗ Q, where Q is had for nothing
module _ {M : Type 1} {𝓤 : Ura M} {𝓛 : Logic 𝓤} {K : Type 0} {Γ : List (Item 𝓤)} where
  pub holds : K → {P Q : SProp 𝓤} → ent 𝓤 (emp 𝓤) Q → Step K 𝓛 Γ (prop P) Γ (prop (sep 𝓤 P Q))
  holds t {P} {Q} h = step (λ s. record { prf = via 𝓤 P s.prf (via 𝓤 (sep 𝓤 (emp 𝓤) P) (emp∗ 𝓤 P) (via 𝓤 (sep 𝓤 Q P) (mono_l 𝓤 P h) (comm∗ 𝓤 Q P))) })

-- ---- the walk as a whole

module _ {M : Type 1} {𝓤 : Ura M} (𝓛 : Logic 𝓤) (𝓜 : Model 𝓤 𝓛.H) (𝓡 : Running 𝓤 𝓛.H 𝓜) where
  open 𝓛 use {H}

  pub by_one_call : (T : Ended) (hs : Stays T.signature.params T.kept) (c : Clauses 𝓤 T)
      → AllGo 𝓛 T.signature.lifetimes T.signature.params T.kept hs
      → (γ : Env) (k : Callee) (e : Fn) → Closed 𝓤 H (tables 𝓤 H 𝓜 𝓡 γ).C (tables 𝓤 H 𝓜 𝓡 γ).Λ k e
      → (d : Contract 𝓤) (n : Callee) (r : Routine) → γ n ≡ r → Triple 𝓤 (𝓡.run r) d
      → ((C : Calls 𝓤 H) (Λ : Loops 𝓤 H) → FmC 𝓤 H 𝓛.laws C → Triple 𝓤 (C n) d → Walks 𝓛 T hs (WpFn 𝓤 H C Λ e) c)
      → Triple 𝓤 ((tables 𝓤 H 𝓜 𝓡 γ).C k) (triple_of 𝓛 T.signature (closing 𝓛 T c))
  unfolding tables_of
  by_one_call T hs c goes γ k e closed d n r p met walks =
      let 𝓣 : Tables 𝓤 H = tables_of 𝓤 H 𝓜 (tables 𝓤 H 𝓜 𝓡 γ) in
      entered 𝓤 H (triple_of 𝓛 T.signature (closing 𝓛 T c)) 𝓣.C 𝓣.Λ k e closed
      (walk_Meets 𝓛 T hs goes c (WpFn 𝓤 H 𝓣.C 𝓣.Λ e) (WpFn-mono 𝓤 H 𝓛.laws 𝓣 e)
      (walks 𝓣.C 𝓣.Λ (fm_of 𝓤 H 𝓛.laws 𝓣) (cited 𝓤 H d 𝓜 𝓡 γ n r p met)))
