-- Laws of reading with 0 as m. Two openings that differ in the number of their method alone, and stand for the same method, are one search:
-- they call for the same points and have the same reports. With the number of m in place of 0 an opening is accepted where it was, and stands
-- for m.
-- Assumes nothing.
use Rattle.std.specs.Prelude.{ℕ, ◌≡◌, Bool, cond, eqb, ltb, ℤ, pos, take, Result, Ok, Err}
use Rattle.std.proofs.Math.Path.{refl, ap}
use Rattle.std.proofs.Common.{sym, subst, ◌∙◌}
use Rattle.std.proofs.Math.Bool.{true, false}
use mathlib.Core.List.{List, [], ◌∷◌, foldl}
use Rattle.integers.specs.Signs.{eq_z}
use Rattle.integers.proofs.SignsLaws.{eq_z_true, ne_eq_z}
use Rattle.rules.specs.declared.Opening.{Opening}
use Rattle.rules.specs.declared.Method.{Method}
use Rattle.rules.specs.declared.Bracket.{Bracket}
use Rattle.rules.specs.declared.Progress.{Progress}
use Rattle.rules.specs.declared.Refusal.{Refusal}
use Rattle.rules.specs.Rules.{slots, house, method_of, tolerance_at, stopped_of, offset_of, next_of}
use Rattle.rules.specs.Refusals.{opening_refusal, count_above}
use Rattle.rules.specs.Search.{other_at, begin_of, offer_of, take_of, progress_of, answers_of, bracket_report, report_at, report_of}
use Rattle.held.specs.declared.Search.{Search}
use Rattle.held.specs.declared.Entered.{Entered}
use Rattle.held.specs.Held.{values_of, standing_of, held_report}
use Rattle.forms.specs.declared.Entries.{Entries}
use Rattle.forms.specs.Entries.{opening_place, entries_of}
use Rattle.outcomes.specs.Sheet.{leads_to, settled_as, refused_at, outcome_of, judged, sheet_of}
use Rattle.clean_sheets.specs.Clean.{with_points, sheet_text, clean_of}
use Rattle.changeover.specs.Changeover.{method_number, opening_under, entries_under, sheet_under, search_under, clean_under}

-- ---- the number of the method in an opening

-- an opening with another number for its method
abbrev with_method : Opening → ℤ → Opening
with_method o z = record { method = z; first = o.first; second = o.second; tolerance = o.tolerance; share = o.share }

-- one that stands for the same method
module _ (o : Opening) (z : ℤ) (e : method_of (with_method o z) ≡ method_of o) where
  abbrev u : Opening
  u = with_method o z

  next_same : (k : Bracket) → next_of u k ≡ next_of o k
  unfolding next_of offset_of tolerance_at
  next_same k = rw e

  other_same : (p : Progress) (x : ℤ) → other_at u p x ≡ other_at o p x
  unfolding stopped_of tolerance_at
  other_same Progress.Begun x = refl
  other_same (Progress.First v) x = refl
  other_same (Progress.Bracketed k) x = rw (next_same k)
  other_same (Progress.Refused n i) x = refl

  offer_same : (p : Progress) (other : Bool) (v : ℤ) → offer_of u p other v ≡ offer_of o p other v
  unfolding offer_of stopped_of tolerance_at
  offer_same Progress.Begun other v = refl
  offer_same (Progress.First w) other v = refl
  offer_same (Progress.Bracketed k) other v = rw (next_same k)
  offer_same (Progress.Refused n i) other v = refl

  answers_same : (p : Progress) (xs vs : List ℤ) → answers_of u p xs vs ≡ answers_of o p xs vs
  unfolding answers_of
  answers_same p [] vs = refl
  answers_same p (x ∷ xs) [] = refl
  answers_same p (x ∷ xs) (v ∷ vs) =
      rw (other_same p x, offer_same p (other_at o p x) v) (answers_same (offer_of o p (other_at o p x) v) xs vs)

  take_same : (p : Progress) (v : ℤ) → take_of u p v ≡ take_of o p v
  unfolding take_of
  take_same p v = offer_same p false v

  values_same : (p : Progress) (vs : List ℤ) → foldl (take_of u) p vs ≡ foldl (take_of o) p vs
  values_same p [] = refl
  values_same p (v ∷ vs) = rw (take_same p v) (values_same (take_of o p v) vs)

  report_same : (p : Progress) → report_at u p ≡ report_at o p
  unfolding report_at bracket_report stopped_of tolerance_at
  report_same Progress.Begun = refl
  report_same (Progress.First v) = refl
  report_same (Progress.Bracketed k) = rw (next_same k)
  report_same (Progress.Refused n i) = refl

  points_same : (p : Progress) (vs : List ℤ) → with_points u p vs ≡ with_points o p vs
  unfolding with_points
  points_same p [] = refl
  points_same Progress.Begun (v ∷ vs) = rw (take_same Progress.Begun v, points_same (take_of o Progress.Begun v) vs)
  points_same (Progress.First w) (v ∷ vs) = rw (take_same (Progress.First w) v, points_same (take_of o (Progress.First w) v) vs)
  points_same (Progress.Bracketed k) (v ∷ vs) =
      rw (next_same k, take_same (Progress.Bracketed k) v, points_same (take_of o (Progress.Bracketed k) v) vs)
  points_same (Progress.Refused n i) (v ∷ vs) = rw (take_same (Progress.Refused n i) v, points_same (take_of o (Progress.Refused n i) v) vs)

pub alike : (o u : Opening) → o.first ≡ u.first → o.second ≡ u.second → o.tolerance ≡ u.tolerance → o.share ≡ u.share
    → method_of o ≡ method_of u → opening_refusal o ≡ opening_refusal u → (vs : List ℤ) → report_of o vs ≡ report_of u vs
unfolding report_of progress_of begin_of
alike o u a b c d e f vs = subst (λ (x : Opening). report_of o vs ≡ report_of x vs) is (sym (one vs))
  where
    is : with_method o u.method ≡ u
    is = rw (a, b, c, d)

    same : method_of (with_method o u.method) ≡ method_of o
    same = ap method_of is ∙ sym e

    one : (vs : List ℤ) → report_of (with_method o u.method) vs ≡ report_of o vs
    one vs =
        let begins : begin_of (with_method o u.method) ≡ begin_of o = rw (ap opening_refusal is ∙ sym f) in
        report_same o u.method same _ ∙ ap (report_at o) (values_same o u.method same _ vs ∙ ap (λ (p : Progress). foldl (take_of o) p vs) begins)

-- ---- the number of m in place of 0

number_stands : (m : Method) (o : Opening) → method_of (with_method o (method_number m)) ≡ m
unfolding method_of
number_stands Method.M o = refl
number_stands Method.R o = refl

pub under_method : (m : Method) (o : Opening) → method_of (opening_under m o) ≡ cond (eq_z o.method (pos 0)) m (method_of o)
unfolding opening_under
under_method m o = go (eq_z o.method (pos 0))
  where
    go : (b : Bool) → method_of (with_method o (cond b (method_number m) o.method)) ≡ cond b m (method_of o)
    go true = number_stands m o
    go false = refl

-- accepted as 0 is
number_accepted : (m : Method) (o : Opening) → o.method ≡ pos 0 → opening_refusal (with_method o (method_number m)) ≡ opening_refusal o
unfolding opening_refusal
number_accepted Method.M o e = rw e
number_accepted Method.R o e = rw e

pub under_refusal : (m : Method) (o : Opening) → opening_refusal (opening_under m o) ≡ opening_refusal o
unfolding opening_under
under_refusal m o = go (eq_z o.method (pos 0)) refl
  where
    go : (b : Bool) → eq_z o.method (pos 0) ≡ b → opening_refusal (with_method o (cond b (method_number m) o.method)) ≡ opening_refusal o
    go true e = number_accepted m o (eq_z_true o.method (pos 0) e)
    go false e = refl

pub under_begins : (m : Method) (o : Opening) → begin_of (opening_under m o) ≡ begin_of o
unfolding begin_of
under_begins m o = rw (under_refusal m o)

-- no other number is touched
pub under_other : (m : Method) (o : Opening) → (o.method ≡ pos 0 → ⊥) → opening_under m o ≡ o
unfolding opening_under
under_other m o h = rw (ne_eq_z o.method (pos 0) h)

pub sheet_others : (m : Method) (text : List ℕ) → ((entries_of text).form ≡ Ok tt → (entries_of text).opening.method ≡ pos 0 → ⊥)
    → sheet_under m text ≡ sheet_of text
unfolding sheet_under sheet_of
sheet_others m text h = go (entries_of text) (entries_of text).form h
  where
    go : (e : Entries) (f : Result (Unit {0}) Refusal) → (f ≡ Ok tt → e.opening.method ≡ pos 0 → ⊥) → judged (entries_under m e) f ≡ judged e f
    go e (Err r) h = refl
    go e (Ok u) h = rw (under_other m e.opening (h refl))

-- the outcome with 0 as m, from what a text's records are read as
module _ (m : Method) (text : List ℕ) (e : Entries) (f : e ≡ entries_of text) where
  pub under_judged : judged (entries_under m e) e.form ≡ sheet_under m text
  unfolding sheet_under
  under_judged = rw (← f)

  pub under_read : e.form ≡ Ok tt → outcome_of (entries_under m e) ≡ sheet_under m text
  unfolding sheet_under
  under_read g = rw (← f, g)

-- ---- with the house default for m

under_house : (o : Opening) → method_of (opening_under house o) ≡ method_of o
unfolding method_of
under_house o = under_method house o ∙ go (eq_z o.method (pos 0)) (cond (eq_z o.method (pos 1)) Method.M Method.R)
  where
    go : (b : Bool) (x : Method) → cond b house (cond b house x) ≡ cond b house x
    go true x = refl
    go false x = refl

module _ (s : Search) where
  abbrev o : Opening
  o = s.opening

  standing_same : standing_of (search_under house s) ≡ standing_of s
  unfolding standing_of progress_of opening_under
  standing_same =
      ap (cond (ltb slots s.count) (Progress.Refused count_above 0))
      (values_same o _ (under_house o) (begin_of (opening_under house o)) (values_of s)
      ∙ ap (λ (p : Progress). foldl (take_of o) p (values_of s)) (under_begins house o))

  pub held_same : held_report (search_under house s) ≡ held_report s
  unfolding held_report opening_under
  held_same = report_same o _ (under_house o) (standing_of (search_under house s)) ∙ ap (report_at o) standing_same

  pub clean_same : clean_under house s ≡ clean_of s
  unfolding clean_under clean_of opening_under
  clean_same =
      ap (sheet_text o)
      (points_same o _ (under_house o) (begin_of (opening_under house o)) (values_of s)
      ∙ ap (λ (p : Progress). with_points o p (values_of s)) (under_begins house o))

module _ (e : Entries) where
  settled_same : (p : Progress) → (settled_as (entries_under house e) p).report ≡ (settled_as e p).report
  unfolding opening_under
  settled_same Progress.Begun = report_same e.opening _ (under_house e.opening) Progress.Begun
  settled_same (Progress.First v) = report_same e.opening _ (under_house e.opening) (Progress.First v)
  settled_same (Progress.Bracketed k) = report_same e.opening _ (under_house e.opening) (Progress.Bracketed k)
  settled_same (Progress.Refused n i) = refl

  leads_same : leads_to (entries_under house e) ≡ leads_to e
  unfolding opening_under
  leads_same = answers_same e.opening _ (under_house e.opening) Progress.Begun (take e.count e.points) (take e.count e.values)

  outcome_same : (outcome_of (entries_under house e)).report ≡ (outcome_of e).report
  unfolding outcome_of
  outcome_same = rw (under_refusal house e.opening, leads_same) (go (eqb (opening_refusal e.opening) 0))
    where
      go : (b : Bool)
          → (cond {A = Entered} b (settled_as (entries_under house e) (leads_to e)) (refused_at (opening_refusal e.opening) opening_place)).report
          ≡ (cond {A = Entered} b (settled_as e (leads_to e)) (refused_at (opening_refusal e.opening) opening_place)).report
      go true = settled_same (leads_to e)
      go false = refl

pub sheet_same : (text : List ℕ) → (sheet_under house text).report ≡ (sheet_of text).report
unfolding sheet_under sheet_of
sheet_same text = go (entries_of text) (entries_of text).form
  where
    go : (e : Entries) (f : Result (Unit {0}) Refusal) → (judged (entries_under house e) f).report ≡ (judged e f).report
    go e (Err r) = refl
    go e (Ok u) = outcome_same e
