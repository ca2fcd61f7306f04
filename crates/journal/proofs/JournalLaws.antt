-- The journal and the search over a list come to the same: what is known of a journal that answers have made, where the list of its
-- values leads, and what its brackets are.
-- Assumes nothing.
use Rattle.std.specs.Prelude.{ℕ, ◌≤◌, ◌<◌, ◌≡◌, Bool, true, false, cond, not, ltb, ℤ, pos, nat_abs}
use Rattle.std.proofs.Math.Path.{refl, sym, ap}
use Rattle.std.proofs.Common.{ap₂, subst, subst₂, ◌∙◌, arith, eqb-true, eq-eqb, ltb-false, le-ltb}
use mathlib.Core.List.{List, [], ◌∷◌, ◌++◌, foldl}
use Rattle.std.proofs.Math.ListN.{length, length-map}
use Rattle.integers.specs.Signs.{eq_z}
use Rattle.integers.proofs.SignsLaws.{eq_z_true, never}
use Rattle.rules.specs.declared.Opening.{Opening}
use Rattle.rules.specs.declared.Answer.{Answer}
use Rattle.rules.specs.declared.Sample.{Sample}
use Rattle.rules.specs.declared.Bracket.{Bracket}
use Rattle.rules.specs.declared.Progress.{Progress}
use Rattle.rules.specs.Rules.{largest_value, first_of, second_of, start_of, Inside, stopped_of, next_of, advance_of}
use Rattle.rules.specs.Refusals.{had_stopped, not_called_for, value_out_of_range, same_sign, opening_refusal, answer_refusal, too_large, same_side, Accepted}
use Rattle.rules.proofs.RefusalsLaws.{Opened, opposed_crossing}
use Rattle.rules.specs.Search.{is_refused, begin_of, stopped_at, same_side_at, other_at, entered_at, offer_of, take_of, progress_of, bracket_report}
use Rattle.rules.specs.Search.{report_at, report_of, most_of}
use Rattle.rules.proofs.SearchLaws.{Sound, sound_start, sound_advance, advanced, counts, at_most, going_fewer}
use Rattle.journal.specs.Answers.{answer_value, values}
use Rattle.journal.specs.Journal.{sample_of, advanced_by, bracket_of, stop_of, point_called, report_with, journal_report, one_side, refusal_of}
use Rattle.journal.specs.Journal.{takes, brackets_from, brackets_of, Nested, Opposed}

-- ---- where a search of the journal's values stands

abbrev pub stage_of : List Answer → Progress
stage_of [] = Progress.Begun
stage_of (a ∷ []) = Progress.First a.value
stage_of (a ∷ b ∷ rest) = Progress.Bracketed (bracket_of a b rest)

pub stage_fine : (journal : List Answer) → is_refused (stage_of journal) ≡ false
stage_fine [] = refl
stage_fine (x ∷ []) = refl
stage_fine (x ∷ y ∷ rest) = refl

-- the two have one stop, and one point called for while there is no stop
stop_stage : (o : Opening) (journal : List Answer) → stop_of o journal ≡ stopped_at o (stage_of journal)
unfolding stop_of
stop_stage o [] = refl
stop_stage o (a ∷ []) = refl
stop_stage o (a ∷ b ∷ rest) = refl

side_stage : (journal : List Answer) (v : ℤ) → one_side journal v ≡ same_side_at (stage_of journal) v
side_stage [] v = refl
side_stage (a ∷ []) v = refl
side_stage (a ∷ b ∷ rest) v = refl

other_stage : (o : Opening) (journal : List Answer) (x : ℤ) → stop_of o journal ≡ false
    → not (eq_z x (pos (point_called o journal))) ≡ other_at o (stage_of journal) x
unfolding stop_of point_called
other_stage o [] x e = refl
other_stage o (a ∷ []) x e = refl
other_stage o (a ∷ b ∷ rest) x e = simp e

-- the row's refusals, in its order
abbrev in_order : (stopped other large same : Bool) → ℕ
in_order stopped other large same =
    cond stopped had_stopped (cond other not_called_for (cond large value_out_of_range (cond same same_sign 0)))

-- so they refuse alike
pub refusal_stage : (o : Opening) (journal : List Answer) (a : Answer)
    → refusal_of o journal a
    ≡ answer_refusal (stopped_at o (stage_of journal)) (other_at o (stage_of journal) a.point) (too_large a.value) (same_side_at (stage_of journal) a.value)
unfolding refusal_of answer_refusal
refusal_stage o journal a = go (stop_of o journal) refl
  where
    go : (b : Bool) → stop_of o journal ≡ b
        → in_order b (not (eq_z a.point (pos (point_called o journal)))) (too_large a.value) (one_side journal a.value)
        ≡ in_order (stopped_at o (stage_of journal)) (other_at o (stage_of journal) a.point) (too_large a.value) (same_side_at (stage_of journal) a.value)
    go true e = rw (sym (stop_stage o journal) ∙ e)
    go false e = rw (sym (stop_stage o journal) ∙ e, other_stage o journal a.point e, side_stage journal a.value)

-- ---- what is known of a journal that answers have made

-- each answer after the second came while the search went on, with the next point and a value in range
pub record Following (o : Opening) (k : Bracket) (a : Answer) : Type 0 where
  pub going : stopped_of o k ≡ false
  pub called : a.point ≡ pos (next_of o k)
  pub ranged : nat_abs a.value ≤ largest_value

abbrev pub Onward : Opening → Bracket → List Answer → Type 0
Onward o k [] = Unit {0}
Onward o k (a ∷ rest) = Following o k a × Onward o (advance_of k (sample_of a)) rest

-- the first two: at x0 and x1, with values in range
pub record At (x : ℕ) (a : Answer) : Type 0 where
  pub called : a.point ≡ pos x
  pub ranged : nat_abs a.value ≤ largest_value

abbrev pub Kept : Opening → List Answer → Type 0
Kept o [] = Unit {0}
Kept o (a ∷ []) = At (first_of o) a
Kept o (a ∷ b ∷ rest) =
    At (first_of o) a × At (second_of o) b × (same_side a.value b.value ≡ false) × Onward o (start_of (sample_of a) (sample_of b)) rest

-- what an answer that no refusal meets is
pub record Fine (o : Opening) (journal : List Answer) (a : Answer) : Type 0 where
  pub going : stop_of o journal ≡ false
  pub called : a.point ≡ pos (point_called o journal)
  pub ranged : nat_abs a.value ≤ largest_value
  pub crossing : one_side journal a.value ≡ false

pub fine : (o : Opening) (journal : List Answer) (a : Answer) → takes o journal a ≡ true → Fine o journal a
unfolding refusal_of
fine o journal a t =
    go (stop_of o journal) refl (eq_z a.point (pos (point_called o journal))) refl (ltb largest_value (nat_abs a.value)) refl
    (one_side journal a.value) refl (eqb-true (refusal_of o journal a) 0 t)
  where
    go : (s : Bool) → stop_of o journal ≡ s → (p : Bool) → eq_z a.point (pos (point_called o journal)) ≡ p
        → (l : Bool) → ltb largest_value (nat_abs a.value) ≡ l → (d : Bool) → one_side journal a.value ≡ d
        → in_order s (not p) l d ≡ 0 → Fine o journal a
    go true e p f l g d h i = absurd (omega arith)
    go false e false f l g d h i = absurd (omega arith)
    go false e true f true g d h i = absurd (omega arith)
    go false e true f false g true h i = absurd (omega arith)
    go false e true f false g false h i =
        record { going = e; called = eq_z_true _ _ f; ranged = ltb-false largest_value (nat_abs a.value) g; crossing = h }

onward_more : (o : Opening) (k : Bracket) (rest : List Answer) (a : Answer) → Onward o k rest → Following o (advanced_by k rest) a
    → Onward o k (rest ++ (a ∷ []))
onward_more o k [] a w n = (n, tt)
onward_more o k (x ∷ rest) a w n = (w.0, onward_more o (advance_of k (sample_of x)) rest a w.1 n)

pub kept_more : (o : Opening) (journal : List Answer) (a : Answer) → Kept o journal → Fine o journal a → Kept o (journal ++ (a ∷ []))
unfolding stop_of point_called
kept_more o [] a k f = record { called = f.called; ranged = f.ranged }
kept_more o (x ∷ []) a k f = (k, record { called = f.called; ranged = f.ranged }, f.crossing, tt)
kept_more o (x ∷ y ∷ rest) a k f =
    (k.0, k.1, k.2, onward_more o (start_of (sample_of x) (sample_of y)) rest a k.3 (record { going = f.going; called = f.called; ranged = f.ranged }))

-- ---- the list of the journal's values leads to the journal's stage

-- an answer that was called for is the sample that the search enters
pub sample_is : (a : Answer) (x : ℕ) → a.point ≡ pos x → sample_of a ≡ record { point = x; value = a.value }
sample_is a x e = ap (λ (z : ℤ). record { point = nat_abs z; value = a.value }) e

-- a value in range is taken while no refusal applies
pub take_passes : (o : Opening) (p : Progress) (v : ℤ) → is_refused p ≡ false → stopped_at o p ≡ false → nat_abs v ≤ largest_value
    → same_side_at p v ≡ false → take_of o p v ≡ entered_at o p v
unfolding take_of offer_of answer_refusal
take_passes o Progress.Begun v r s h d = simp (le-ltb largest_value (nat_abs v) h)
take_passes o (Progress.First u) v r s h d = simp (le-ltb largest_value (nat_abs v) h, d)
take_passes o (Progress.Bracketed k) v r s h d = simp (s, le-ltb largest_value (nat_abs v) h)
take_passes o (Progress.Refused n i) v r s h d = never r

-- the first, the second and each later answer
pub first_taken : (o : Opening) (a : Answer) → At (first_of o) a → take_of o Progress.Begun a.value ≡ Progress.First a.value
first_taken o a p = take_passes o Progress.Begun a.value refl refl p.ranged refl

pub second_taken : (o : Opening) (a b : Answer) → At (first_of o) a → At (second_of o) b → same_side a.value b.value ≡ false
    → take_of o (Progress.First a.value) b.value ≡ Progress.Bracketed (start_of (sample_of a) (sample_of b))
second_taken o a b p q d =
    take_passes o (Progress.First a.value) b.value refl refl q.ranged d
    ∙ ap₂ (λ (s t : Sample). Progress.Bracketed (start_of s t)) (sym (sample_is a (first_of o) p.called)) (sym (sample_is b (second_of o) q.called))

pub next_taken : (o : Opening) (k : Bracket) (a : Answer) → Following o k a
    → take_of o (Progress.Bracketed k) a.value ≡ Progress.Bracketed (advance_of k (sample_of a))
next_taken o k a n =
    take_passes o (Progress.Bracketed k) a.value refl n.going n.ranged refl
    ∙ ap (λ (x : Sample). Progress.Bracketed (advance_of k x)) (sym (sample_is a (next_of o k) n.called))

onward_folds : (o : Opening) (k : Bracket) (rest : List Answer) → Onward o k rest
    → foldl (take_of o) (Progress.Bracketed k) (values rest) ≡ Progress.Bracketed (advanced_by k rest)
onward_folds o k [] w = refl
onward_folds o k (a ∷ rest) w =
    ap (λ (p : Progress). foldl (take_of o) p (values rest)) (next_taken o k a w.0)
    ∙ onward_folds o (advance_of k (sample_of a)) rest w.1

pub kept_progress : (o : Opening) (journal : List Answer) → Accepted o → Kept o journal → progress_of o (values journal) ≡ stage_of journal
unfolding progress_of begin_of
kept_progress o [] a k = simp (eq-eqb (opening_refusal o) 0 a.accepted)
kept_progress o (x ∷ []) a k = simp (eq-eqb (opening_refusal o) 0 a.accepted) (first_taken o x k)
kept_progress o (x ∷ y ∷ rest) a k =
    simp (eq-eqb (opening_refusal o) 0 a.accepted)
    (ap (λ (p : Progress). foldl (take_of o) (take_of o p y.value) (values rest)) (first_taken o x k.0)
    ∙ ap (λ (p : Progress). foldl (take_of o) p (values rest)) (second_taken o x y k.0 k.1 k.2)
    ∙ onward_folds o (start_of (sample_of x) (sample_of y)) rest k.3)

-- ---- the journal's report is that of its stage

report_with_lem : (o : Opening) (k : Bracket) (n : ℕ) → k.taken ≡ n → report_with o k n ≡ bracket_report o k
unfolding bracket_report
report_with_lem o k n e = rw (← e)

module _ (o : Opening) (accepted : Accepted o) (journal : List Answer) (kept : Kept o journal) where
  leads : progress_of o (values journal) ≡ stage_of journal
  leads = kept_progress o journal accepted kept

  pub report_stage : journal_report o journal ≡ report_at o (stage_of journal)
  unfolding journal_report report_at point_called
  report_stage = go journal refl leads
    where
      go : (b : List Answer) → journal ≡ b → progress_of o (values journal) ≡ stage_of b → journal_report o b ≡ report_at o (stage_of b)
      go [] e f = refl
      go (x ∷ []) e f = refl
      go (x ∷ y ∷ rest) e f =
          report_with_lem o (bracket_of x y rest) (length (x ∷ y ∷ rest))
          (counts o accepted (values journal) (bracket_of x y rest) f ∙ length-map journal answer_value ∙ ap length e)

  -- over the list of its values the search gives the journal's report
  pub report_list : report_of o (values journal) ≡ journal_report o journal
  unfolding report_of
  report_list = ap (report_at o) leads ∙ sym report_stage

  -- ---- the bound

  -- as many values as answers
  as_many : length (values journal) ≡ length journal
  as_many = length-map journal answer_value

  pub at_most_answers : length journal ≤ most_of o
  at_most_answers = go journal refl leads
    where
      go : (b : List Answer) → journal ≡ b → progress_of o (values journal) ≡ stage_of b → length journal ≤ most_of o
      go [] e f = omega (arith, ap length e)
      go (x ∷ []) e f = omega (arith, ap length e)
      go (x ∷ y ∷ rest) e f = omega (arith, as_many, at_most o accepted (values journal) (bracket_of x y rest) f)

  pub fewer_answers : stop_of o journal ≡ false → length journal < most_of o
  fewer_answers s =
      let fine = ap is_refused leads ∙ stage_fine journal in
      let going = ap (stopped_at o) leads ∙ sym (stop_stage o journal) ∙ s in
      omega (arith, as_many, going_fewer o (values journal) fine going)

-- ---- the brackets: each lies within the one before, and its values are never both above or both below target

module _ (o : Opening) (op : Opened o) where
  -- the bracket after an answer
  pub step_sound : (k : Bracket) (a : Answer) → Sound o k → Following o k a → Sound o (advance_of k (sample_of a))
  step_sound k a s n =
      subst (λ (x : Sample). Sound o (advance_of k x)) (sym (sample_is a (next_of o k) n.called)) (sound_advance o k a.value op s n.going n.ranged)

  step_inside : (k : Bracket) (a : Answer) → Sound o k → Following o k a → Inside k (advance_of k (sample_of a))
  step_inside k a s n =
      subst (λ (x : Sample). Inside k (advance_of k x)) (sym (sample_is a (next_of o k) n.called)) (advanced o k a.value op s n.going).inside

  onward_nested : (k : Bracket) (rest : List Answer) → Sound o k → Onward o k rest → Nested (brackets_from k rest)
  onward_nested k [] s w = tt
  onward_nested k (a ∷ []) s w = (step_inside k a s w.0, tt)
  onward_nested k (a ∷ b ∷ rest) s w =
      (step_inside k a s w.0, onward_nested (advance_of k (sample_of a)) (b ∷ rest) (step_sound k a s w.0) w.1)

  onward_opposed : (k : Bracket) (rest : List Answer) → Sound o k → Onward o k rest → Opposed (brackets_from k rest)
  onward_opposed k [] s w = (opposed_crossing _ _ s.held.opposite, tt)
  onward_opposed k (a ∷ rest) s w =
      (opposed_crossing _ _ s.held.opposite, onward_opposed (advance_of k (sample_of a)) rest (step_sound k a s w.0) w.1)

  pub start_sound : (a b : Answer) → At (first_of o) a → At (second_of o) b → same_side a.value b.value ≡ false
      → Sound o (start_of (sample_of a) (sample_of b))
  start_sound a b p q d =
      subst₂ (λ (s t : Sample). Sound o (start_of s t)) (sym (sample_is a (first_of o) p.called)) (sym (sample_is b (second_of o) q.called))
      (sound_start o a.value b.value op p.ranged q.ranged d)

  pub kept_nested : (journal : List Answer) → Kept o journal → Nested (brackets_of journal)
  unfolding brackets_of
  kept_nested [] k = tt
  kept_nested (a ∷ []) k = tt
  kept_nested (a ∷ b ∷ rest) k = onward_nested (start_of (sample_of a) (sample_of b)) rest (start_sound a b k.0 k.1 k.2) k.3

  pub kept_opposed : (journal : List Answer) → Kept o journal → Opposed (brackets_of journal)
  unfolding brackets_of
  kept_opposed [] k = tt
  kept_opposed (a ∷ []) k = tt
  kept_opposed (a ∷ b ∷ rest) k = onward_opposed (start_of (sample_of a) (sample_of b)) rest (start_sound a b k.0 k.1 k.2) k.3
