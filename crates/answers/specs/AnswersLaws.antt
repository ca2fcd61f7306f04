-- The laws of the walk: none, one more, and where it ends.
-- Assumes nothing.
use Rattle.std.specs.Prelude.{ℕ, ◌+◌, ◌-◌, ◌≤◌, ◌<◌, ◌≡◌, Bool, List, [], ◌∷◌, ◌++◌, eqb, ℤ, pos, take, drop}
use Rattle.std.proofs.Math.Path.{refl, sym, ap, subst}
use Rattle.std.proofs.Common.{◌∙◌, le_refl, length-append, take_all, take-suc, get_or-append-add}
use Rattle.std.proofs.Math.Bool.{true, false, cond}
use Rattle.std.proofs.Math.Numerals.{add-one}
use native.Mathlib.Omega.{arith}
use borrow.Author.Tests.{ltb-true, ltb-false, eq-eqb, ne_eqb}
use Rattle.std.proofs.Math.Dec.{ltb}
use Rattle.std.proofs.Math.ListN.{length, get_or, drop_of_length-le, get_or-append}
use Rattle.std.proofs.Math.Seq.{drop-cons}
use Rattle.integers.proofs.SignsLaws.{never}
use Rattle.rules.specs.declared.Opening.{Opening}
use Rattle.rules.specs.declared.Bracket.{Bracket}
use Rattle.rules.specs.declared.Progress.{Progress}
use Rattle.rules.specs.declared.Report.{Report}
use Rattle.rules.specs.Rules.{lower_of, upper_of, stopped_of, next_of}
use Rattle.rules.specs.Refusals.{opening_refusal, answer_refusal, too_large}
use Rattle.rules.specs.Search.{is_refused, stopped_at, same_side_at, taken_of, entered_at, answered_at, begin_of, offer_of, take_of, progress_of}
use Rattle.rules.specs.Search.{answers_of, bracket_report, report_at}
use Rattle.rules.proofs.SearchLaws.{sound_begin, sound_offer, refused_stays, answers_stay, taken_is, accepted_more}
use Rattle.answers.specs.Answers.{value_at, other_than, other_from, onward_of, Led, Ended}

-- a search that is not refused tries the answer
offered : (o : Opening) (p : Progress) (other : Bool) (v : ℤ) → is_refused p ≡ false → offer_of o p other v ≡ answered_at o p other v
unfolding offer_of
offered o Progress.Begun other v e = refl
offered o (Progress.First u) other v e = refl
offered o (Progress.Bracketed k) other v e = refl
offered o (Progress.Refused n i) other v e = never e

-- while the search goes on, the point called for is the next one
pub other_going : (o : Opening) (n : ℕ) (xs : List ℤ) (i : ℕ) (k : Bracket) → stopped_of o k ≡ false
    → other_than n xs i (next_of o k) ≡ other_from o n xs i (Progress.Bracketed k)
unfolding other_than other_from
other_going o n xs i k e = simp e

-- the second answer makes a bracket or is refused
pub second_ended : (o : Opening) (n : ℕ) (u : ℤ) (other : Bool) (v : ℤ) → Ended n (answered_at o (Progress.First u) other v)
second_ended o n u other v = go (eqb (answer_refusal false other (too_large v) (same_side_at (Progress.First u) v)) 0)
  where
    go : (b : Bool)
        → Ended n (cond b (entered_at o (Progress.First u) v)
        (Progress.Refused (answer_refusal false other (too_large v) (same_side_at (Progress.First u) v)) 1))
    go true = tt
    go false = tt

module _ (o : Opening) (vs xs ts : List ℤ) where
  pub led_none : Led o vs xs ts 0 (begin_of o)
  unfolding progress_of
  led_none = let z : 0 - length vs ≡ 0 = omega arith in record { sound = sound_begin o; reached = λ fine. refl; onward = rw z }

  stays : (i : ℕ) (p : Progress) → length vs + length ts ≤ i → length xs ≡ length ts → onward_of o vs xs ts i p ≡ p
  unfolding answers_of
  stays i p h e = rw (drop_of_length-le vs {i = i} (omega arith), drop_of_length-le xs {i = i - length vs} (omega arith))

  refuses : (i : ℕ) (p : Progress) → is_refused p ≡ true → onward_of o vs xs ts i p ≡ p
  refuses i p e = rw (refused_stays o p (drop i vs) e) (answers_stay o p _ _ e)

  -- before the first answer, accepted or not
  pub led_begun : opening_refusal o ≡ 0 → Led o vs xs ts 0 Progress.Begun
  unfolding begin_of
  led_begun e = subst (Led o vs xs ts 0) (simp (eq-eqb _ 0 e)) led_none

  pub led_unopened : (n : ℕ) → n ≡ opening_refusal o → (n ≡ 0 → ⊥) → Led o vs xs ts 0 (Progress.Refused n 0)
  unfolding begin_of
  led_unopened n f h = subst (Led o vs xs ts 0) (rw (← f) (simp (ne_eqb n 0 h))) led_none

  value_is : (i : ℕ) → value_at vs ts i ≡ get_or (vs ++ ts) i (pos 0)
  unfolding value_at
  value_is i = go (ltb i (length vs)) refl
    where
      go : (b : Bool) → ltb i (length vs) ≡ b → cond b (get_or vs i (pos 0)) (get_or ts (i - length vs) (pos 0)) ≡ get_or (vs ++ ts) i (pos 0)
      go true f = sym (get_or-append vs ts (pos 0) i (ltb-true i (length vs) f))
      go false f =
          let q : length vs ≤ i = ltb-false i (length vs) f in
          let s : length vs + (i - length vs) ≡ i = omega arith in
          sym (get_or-append-add vs ts (i - length vs) (pos 0)) ∙ ap (λ (j : ℕ). get_or (vs ++ ts) j (pos 0)) s

  module _ (i : ℕ) (p : Progress) (l : Led o vs xs ts i p) where
    -- one answer more, accepted: where the search over its values stands
    reached_more : i < length vs + length ts → (other : Bool) → is_refused (offer_of o p other (value_at vs ts i)) ≡ false
        → progress_of o (take (i + 1) (vs ++ ts)) ≡ offer_of o p other (value_at vs ts i)
    reached_more h other fine =
        let v = value_at vs ts i in
        let at = l.reached (taken_is o p other v fine).standing in
        let more : take (i + 1) (vs ++ ts) ≡ take i (vs ++ ts) ++ (v ∷ []) =
        ap (λ (n : ℕ). take n (vs ++ ts)) (add-one i)
        ∙ take-suc (vs ++ ts) i (pos 0) (omega (arith, length-append vs ts))
        ∙ ap (λ (z : ℤ). take i (vs ++ ts) ++ (z ∷ [])) (sym (value_is i)) in
        ap (progress_of o) more
        ∙ sym (accepted_more o (take i (vs ++ ts)) other v (ap (λ (q : Progress). is_refused (offer_of o q other v)) at ∙ fine))
        ∙ ap (λ (q : Progress). offer_of o q other v) at

    -- one answer more
    pub led_more : i < length vs + length ts → length xs ≡ length ts
        → Led o vs xs ts (i + 1) (offer_of o p (other_from o (length vs) xs i p) (value_at vs ts i))
    unfolding other_from value_at take_of answers_of
    led_more h e =
        record { sound = sound_offer o p _ _ l.sound; reached = λ fine. reached_more h _ fine; onward = l.onward ∙ go (ltb i (length vs)) refl }
      where
        go : (b : Bool) → ltb i (length vs) ≡ b
            → onward_of o vs xs ts i p ≡ onward_of o vs xs ts (i + 1) (offer_of o p (other_from o (length vs) xs i p) (value_at vs ts i))
        go true f =
            let q : i < length vs = ltb-true i (length vs) f in
            let y : i - length vs ≡ 0 = omega arith in
            let z : (i + 1) - length vs ≡ 0 = omega arith in
            simp f (rw (y, z, drop-cons vs i (pos 0) q, add-one i))
        go false f =
            let q : length vs ≤ i = ltb-false i (length vs) f in
            let y : i - length vs < length xs = omega arith in
            let y' : i - length vs < length ts = omega arith in
            let z : (i + 1) - length vs ≡ (i - length vs) + 1 = omega arith in
            let j = i - length vs in
            simp f
            (rw (drop_of_length-le vs {i = i} q, drop_of_length-le vs {i = i + 1} (omega arith), z)
            (rw (drop-cons xs j (pos 0) y, drop-cons ts j (pos 0) y', add-one j)))

    -- no answer is left
    pub led_end : length vs + length ts ≤ i → length xs ≡ length ts → answers_of o (progress_of o vs) xs ts ≡ p
    led_end h e = l.onward ∙ stays i p h e

    -- a refusal stays
    pub led_refused : is_refused p ≡ true → answers_of o (progress_of o vs) xs ts ≡ p
    led_refused e = l.onward ∙ refuses i p e

    -- so neither changes with the answers counted
    pub led_on : (j : ℕ) → i ≤ j → length vs + length ts ≤ i → length xs ≡ length ts → Led o vs xs ts j p
    led_on j g h e =
        let whole : (n : ℕ) → i ≤ n → take n (vs ++ ts) ≡ vs ++ ts = λ n m. take_all n (vs ++ ts) (omega (arith, length-append vs ts)) in
        record {
          sound = l.sound;
          reached = λ fine. ap (progress_of o) (whole j g ∙ sym (whole i (le_refl i))) ∙ l.reached fine;
          onward = led_end h e ∙ sym (stays j p (omega arith) e);
        }

    pub led_refused_on : (j : ℕ) → is_refused p ≡ true → Led o vs xs ts j p
    led_refused_on j e =
        record { sound = l.sound; reached = λ fine. never (sym e ∙ fine); onward = led_refused e ∙ sym (refuses j p e) }

    -- one answer more, refused or entered: n is its refusal, `other` whether it names another point, and v its value
    module _ (going : is_refused p ≡ false) (h : i < length vs + length ts) (e : length xs ≡ length ts) (other : Bool) (v : ℤ) (n : ℕ)
        (by : other ≡ other_from o (length vs) xs i p) (is : v ≡ value_at vs ts i)
        (f : n ≡ answer_refusal (stopped_at o p) other (too_large v) (same_side_at p v)) where
      pub led_tried : Led o vs xs ts (i + 1) (answered_at o p other v)
      led_tried = subst (Led o vs xs ts (i + 1)) (rw (by, is) (offered o p _ _ going)) (led_more h e)

      pub led_not : (n ≡ 0 → ⊥) → Led o vs xs ts (i + 1) (Progress.Refused n (taken_of p))
      led_not g = subst (Led o vs xs ts (i + 1)) (rw (← f) (simp (ne_eqb n 0 g))) led_tried

      pub led_entered : n ≡ 0 → Led o vs xs ts (i + 1) (entered_at o p v)
      led_entered g = subst (Led o vs xs ts (i + 1)) (simp (eq-eqb _ 0 (sym f ∙ g))) led_tried

  -- ---- what is told

  abbrev told : Report
  told = report_at o (answers_of o (progress_of o vs) xs ts)

  pub told_refused : (i n k : ℕ) → Led o vs xs ts i (Progress.Refused n k) → Report.Refused n k ≡ told
  unfolding report_at
  told_refused i n k l = rw (led_refused i (Progress.Refused n k) l refl)

  pub told_end : (i : ℕ) (p : Progress) → Led o vs xs ts i p → length xs ≡ length ts → length vs + length ts ≤ i → report_at o p ≡ told
  told_end i p l e h = rw (led_end i p l h e)

  module _ (i : ℕ) (k : Bracket) (l : Led o vs xs ts i (Progress.Bracketed k)) (e : length xs ≡ length ts) where
    pub told_late : i < length vs + length ts → stopped_of o k ≡ true → Report.Refused 5 k.taken ≡ told
    unfolding answer_refusal
    told_late h s =
        told_refused (i + 1) 5 k.taken
        (led_not i (Progress.Bracketed k) l refl h e _ _ 5 refl refl (simp s) (λ z. absurd (omega arith)))

    pub told_stop : length vs + length ts ≤ i → stopped_of o k ≡ true → Report.Stop (lower_of k) (upper_of k) k.better.point k.taken ≡ told
    unfolding report_at bracket_report
    told_stop h s = rw (led_end i (Progress.Bracketed k) l h e) (simp s)

    pub told_next : length vs + length ts ≤ i → stopped_of o k ≡ false → (x : ℕ) → x ≡ next_of o k → Report.Next x k.taken ≡ told
    unfolding report_at bracket_report
    told_next h s x f = rw (led_end i (Progress.Bracketed k) l h e, f) (simp s)
