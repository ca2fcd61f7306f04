-- Values that are accepted, each with the point called for: they are a journal that answers have made, the only one with these values,
-- and the one that an accepted sheet is read as.
-- Assumes nothing.
use Rattle.std.specs.Prelude.{ℕ, zero, suc, ◌+◌, ◌≤◌, ◌<◌, ◌≡◌, Bool, true, not, ℤ, pos, nat_abs, length, take, get_or}
use Rattle.std.proofs.Math.Path.{refl, ap, subst}
use Rattle.std.proofs.Common.{sym, ◌∙◌, add-zero, zero-add, arith, ltb-false, eq-eqb}
use Rattle.std.proofs.Math.Bool.{false}
use mathlib.Core.List.{List, [], ◌∷◌, foldl}
use Rattle.integers.specs.Signs.{eq_z}
use Rattle.integers.proofs.SignsLaws.{eq_z_true, never}
use Rattle.rules.specs.declared.Opening.{Opening}
use Rattle.rules.specs.declared.Answer.{Answer}
use Rattle.rules.specs.declared.Bracket.{Bracket}
use Rattle.rules.specs.declared.Progress.{Progress}
use Rattle.rules.specs.declared.Report.{Report}
use Rattle.rules.specs.Rules.{largest_value, first_of, second_of, start_of, next_of, advance_of}
use Rattle.rules.specs.Refusals.{opening_refusal, Accepted}
use Rattle.rules.specs.Search.{is_refused, stopped_at, other_at, begin_of, offer_of, take_of, progress_of, answers_of, bracket_report, report_at, report_of}
use Rattle.rules.proofs.SearchLaws.{CountedAt, counted_offer, refused_stays, answers_stay, accepted_of, Taken, taken_is}
use Rattle.journal.specs.Answers.{points, values}
use Rattle.journal.proofs.JournalLaws.{Following, Onward, At, Kept}
use Rattle.clean_sheets.specs.Clean.{called_at, with_points}

-- ---- the values are those given

pub same_values : (o : Opening) (p : Progress) (vs : List ℤ) → values (with_points o p vs) ≡ vs
unfolding with_points
same_values o p [] = refl
same_values o p (v ∷ vs) = ap (λ (ws : List ℤ). v ∷ ws) (same_values o (take_of o p v) vs)

pub as_many : (o : Opening) (p : Progress) (vs : List ℤ) → length (with_points o p vs) ≡ length vs
unfolding with_points
as_many o p [] = refl
as_many o p (v ∷ vs) = ap suc (as_many o (take_of o p v) vs)

-- ---- not refused at the end: not refused before

not_before : (p q : Progress) → (is_refused p ≡ true → q ≡ p) → is_refused q ≡ false → is_refused p ≡ false
not_before p q stays h = go (is_refused p) refl
  where
    go : (b : Bool) → is_refused p ≡ b → b ≡ false
    go true e = never (sym e ∙ sym (ap is_refused (stays e)) ∙ h)
    go false e = refl

equal : (x : ℤ) (n : ℕ) → not (eq_z x (pos n)) ≡ false → x ≡ pos n
equal x n e = go (eq_z x (pos n)) refl e
  where
    go : (b : Bool) → eq_z x (pos n) ≡ b → not b ≡ false → x ≡ pos n
    go true f g = eq_z_true x (pos n) f
    go false f g = never g

module _ (o : Opening) where
  -- the first of values that are accepted is taken
  first_of_lem : (p : Progress) (v : ℤ) (vs : List ℤ) → is_refused (foldl (take_of o) p (v ∷ vs)) ≡ false → Taken o p false v
  unfolding take_of
  first_of_lem p v vs h = taken_is o p false v (not_before (take_of o p v) _ (refused_stays o (take_of o p v) vs) h)

  -- the others follow it
  rest_of : (p q : Progress) (vs : List ℤ) → p ≡ q → is_refused (foldl (take_of o) p vs) ≡ false → is_refused (foldl (take_of o) q vs) ≡ false
  rest_of p q vs e h = subst (λ (r : Progress). is_refused (foldl (take_of o) r vs) ≡ false) e h

  -- ---- they are a journal that answers have made

  in_range : {p : Progress} {v : ℤ} → Taken o p false v → nat_abs v ≤ largest_value
  in_range {v = v} t = ltb-false largest_value (nat_abs v) t.passed.ranged

  abbrev at : ℕ → ℤ → Answer
  at x v = record { point = pos x; value = v }

  kept_onward : (k : Bracket) (vs : List ℤ) → is_refused (foldl (take_of o) (Progress.Bracketed k) vs) ≡ false
      → Onward o k (with_points o (Progress.Bracketed k) vs)
  unfolding with_points take_of
  kept_onward k [] h = tt
  kept_onward k (v ∷ vs) h =
      let t = first_of_lem (Progress.Bracketed k) v vs h in
      let next = advance_of k (record { point = next_of o k; value = v }) in
      let following : Following o k (at (next_of o k) v) = record { going = t.passed.going; called = refl; ranged = in_range t } in
      (following, subst (λ (p : Progress). Onward o next (with_points o p vs)) (sym t.entered) (kept_onward next vs (rest_of _ _ vs t.entered h)))

  kept_begun : (vs : List ℤ) → is_refused (foldl (take_of o) Progress.Begun vs) ≡ false → Kept o (with_points o Progress.Begun vs)
  unfolding with_points take_of
  kept_begun [] h = tt
  kept_begun (v ∷ []) h = record { called = refl; ranged = in_range (first_of_lem Progress.Begun v [] h) }
  kept_begun (v ∷ w ∷ vs) h =
      let t = first_of_lem Progress.Begun v (w ∷ vs) h in
      let g = rest_of _ _ (w ∷ vs) t.entered h in
      let u = first_of_lem (Progress.First v) w vs g in
      let k = start_of (record { point = first_of o; value = v }) (record { point = second_of o; value = w }) in
      let e : with_points o Progress.Begun (v ∷ w ∷ vs) ≡ at (first_of o) v ∷ at (second_of o) w ∷ with_points o (Progress.Bracketed k) vs =
      ap (λ (p : Progress). at (first_of o) v ∷ with_points o p (w ∷ vs)) t.entered
      ∙ ap (λ (p : Progress). at (first_of o) v ∷ at (second_of o) w ∷ with_points o p vs) u.entered in
      let a : At (first_of o) (at (first_of o) v) = record { called = refl; ranged = in_range t } in
      let b : At (second_of o) (at (second_of o) w) = record { called = refl; ranged = in_range u } in
      subst (Kept o) (sym e) (a, b, u.passed.crossing, kept_onward k vs (rest_of _ _ vs u.entered g))

  pub begins : Accepted o → begin_of o ≡ Progress.Begun
  unfolding begin_of
  begins a = simp (eq-eqb (opening_refusal o) 0 a.accepted)

  pub kept_values : (vs : List ℤ) → is_refused (progress_of o vs) ≡ false → Kept o (with_points o (begin_of o) vs)
  unfolding progress_of
  kept_values vs h =
      let e = begins (accepted_of o vs h) in
      subst (λ (p : Progress). Kept o (with_points o p vs)) (sym e) (kept_begun vs (rest_of _ _ vs e h))

  -- ---- a sheet's answers that are accepted are these

  called_is : (p : Progress) (x : ℤ) → is_refused p ≡ false → stopped_at o p ≡ false → other_at o p x ≡ false → x ≡ pos (called_at o p)
  called_is Progress.Begun x r s e = equal x (first_of o) e
  called_is (Progress.First v) x r s e = equal x (second_of o) e
  called_is (Progress.Bracketed k) x r s e = equal x (next_of o k) (simp s at e)
  called_is (Progress.Refused n i) x r s e = never r

  -- where they lead, and that each point was called for
  pub record Matched (p : Progress) (answers : List Answer) : Type 0 where
    pub leads : answers_of o p (points answers) (values answers) ≡ foldl (take_of o) p (values answers)
    pub called : answers ≡ with_points o p (values answers)

  pub matched : (p : Progress) (answers : List Answer) → is_refused (answers_of o p (points answers) (values answers)) ≡ false → Matched p answers
  unfolding answers_of with_points take_of
  matched p [] h = record { leads = refl; called = refl }
  matched p (a ∷ answers) h =
      let q = offer_of o p (other_at o p a.point) a.value in
      let t = taken_is o p (other_at o p a.point) a.value (not_before q _ (answers_stay o q (points answers) (values answers)) h) in
      let e : q ≡ take_of o p a.value = ap (λ (b : Bool). offer_of o p b a.value) t.passed.called in
      let m = matched (take_of o p a.value) answers
      (subst (λ (r : Progress). is_refused (answers_of o r (points answers) (values answers)) ≡ false) e h) in
      let c = called_is p a.point t.standing t.passed.going t.passed.called in
      record {
        leads = ap (λ (r : Progress). answers_of o r (points answers) (values answers)) e ∙ m.leads;
        called = λ i. record { point = c i; value = a.value } ∷ m.called i;
      }

-- ---- each point is the one that the report on the values before it calls for

-- where the search stands after the first i values
abbrev after : Opening → Progress → List ℤ → ℕ → Progress
after o p vs i = foldl (take_of o) p (take i vs)

point_at : (o : Opening) (p : Progress) (vs : List ℤ) (i : ℕ) → i < length vs
    → get_or (points (with_points o p vs)) i (pos 0) ≡ pos (called_at o (after o p vs i))
unfolding with_points
point_at o p [] i h = absurd (omega arith)
point_at o p (v ∷ vs) zero h = refl
point_at o p (v ∷ vs) (suc i) h = point_at o (take_of o p v) vs i (omega arith)

-- it is not refused there, and has not stopped
going_at : (o : Opening) (p : Progress) (vs : List ℤ) (i : ℕ) → i < length vs → is_refused (foldl (take_of o) p vs) ≡ false
    → (is_refused (after o p vs i) ≡ false) × (stopped_at o (after o p vs i) ≡ false)
going_at o p [] i h e = absurd (omega arith)
going_at o p (v ∷ vs) zero h e = let t = first_of_lem o p v vs e in (t.standing, t.passed.going)
going_at o p (v ∷ vs) (suc i) h e = going_at o (take_of o p v) vs i (omega arith) e

counted_at : (o : Opening) (n : ℕ) (p : Progress) (vs : List ℤ) (i : ℕ) → i < length vs → CountedAt n p → CountedAt (n + i) (after o p vs i)
unfolding take_of
counted_at o n p [] i h c = absurd (omega arith)
counted_at o n p (v ∷ vs) zero h c = rw (add-zero n) c
counted_at o n p (v ∷ vs) (suc i) h c =
    let e : (n + 1) + i ≡ n + suc i = omega arith in
    rw (← e) (counted_at o (n + 1) (take_of o p v) vs i (omega arith) (counted_offer o n p false v c))

-- so its report is a next point
pub report_next : (o : Opening) (n : ℕ) (p : Progress) → CountedAt n p → is_refused p ≡ false → stopped_at o p ≡ false
    → report_at o p ≡ Report.Next (called_at o p) n
unfolding report_at bracket_report
report_next o n Progress.Begun c e g = ap (Report.Next (first_of o)) (sym c)
report_next o n (Progress.First v) c e g = ap (Report.Next (second_of o)) (sym c)
report_next o n (Progress.Bracketed k) c e g = simp g (ap (Report.Next (next_of o k)) c)
report_next o n (Progress.Refused m i) c e g = never e

module _ (o : Opening) (vs : List ℤ) (fine : is_refused (progress_of o vs) ≡ false) (i : ℕ) (l : i < length vs) where
  pub report_before : report_of o (take i vs) ≡ Report.Next (called_at o (progress_of o (take i vs))) i
  unfolding report_of progress_of
  report_before =
      let p = begin_of o in
      let g = going_at o p vs i l fine in
      let c0 : CountedAt 0 p = subst (CountedAt 0) (sym (begins o (accepted_of o vs fine))) refl in
      let c : CountedAt i (after o p vs i) = rw (zero-add i) at (counted_at o 0 p vs i l c0) in
      report_next o i (after o p vs i) c g.0 g.1

  pub called_for : report_of o (take i vs) ≡ Report.Next (nat_abs (get_or (points (with_points o (begin_of o) vs)) i (pos 0))) i
  unfolding progress_of
  called_for = report_before ∙ ap (λ (x : ℤ). Report.Next (nat_abs x) i) (sym (point_at o (begin_of o) vs i l))
