-- The laws of an answer to a search of some parts: that a slot is free for every answer that is accepted, where the search with its value
-- then stands, and the verdict.
-- Assumes nothing.
use Rattle.std.specs.Prelude.{ℕ, ◌+◌, ◌≤◌, ◌<◌, ◌≡◌, refl, Bool, true, false, cond, List, [], ◌∷◌, ◌++◌, ltb, ℤ, pos, length, take, get_or, set}
use Rattle.std.proofs.Common.{sym, ap, subst, ◌∙◌, add-one, arith, ltb-false, le-ltb, take-suc-set, length-take-le}
use Rattle.integers.proofs.SignsLaws.{never}
use Rattle.rules.specs.declared.Opening.{Opening}
use Rattle.rules.specs.declared.Progress.{Progress}
use Rattle.rules.specs.declared.Report.{Report}
use Rattle.rules.specs.Rules.{slots}
use Rattle.rules.specs.Refusals.{count_above}
use Rattle.rules.specs.Search.{is_refused, other_at, offer_of, progress_of, report_at}
use Rattle.rules.proofs.SearchLaws.{accepted_more, accepted_room, taken_is}
use Rattle.verdicts.specs.Judged.{standing_by, tried_by, verdict_of}

-- ---- an accepted answer

-- a search that is not refused holds no more values than it has slots
pub standing_fine : (o : Opening) (n : ℕ) (vs : List ℤ) → is_refused (standing_by o n vs) ≡ false
    → (n ≤ slots) × (standing_by o n vs ≡ progress_of o (take n vs))
unfolding standing_by
standing_fine o n vs = go (ltb slots n) refl
  where
    go : (b : Bool) → ltb slots n ≡ b → is_refused (cond b (Progress.Refused count_above 0) (progress_of o (take n vs))) ≡ false
        → (n ≤ slots) × (cond b (Progress.Refused count_above 0) (progress_of o (take n vs)) ≡ progress_of o (take n vs))
    go true e h = never h
    go false e h = (ltb-false slots n e, refl)

module _ (o : Opening) (n : ℕ) (vs : List ℤ) (x v : ℤ) (long : length vs ≡ slots) (h : is_refused (tried_by o n vs x v) ≡ false) where
  abbrev other : Bool
  other = other_at o (standing_by o n vs) x

  fine : (n ≤ slots) × (standing_by o n vs ≡ progress_of o (take n vs))
  fine = standing_fine o n vs (taken_is o (standing_by o n vs) other v h).standing

  by_values : is_refused (offer_of o (progress_of o (take n vs)) other v) ≡ false
  by_values = subst (λ (p : Progress). is_refused (offer_of o p other v) ≡ false) fine.1 h

  count_is : length (take n vs) ≡ n
  count_is = length-take-le n vs (omega (arith, fine.0))

  -- a slot is free for it
  pub free_slot : n < slots
  free_slot = omega (arith, accepted_room o (take n vs) other v by_values, count_is)

  values_more : take (n + 1) (set vs n v) ≡ take n vs ++ (v ∷ [])
  values_more = rw (add-one n) (take-suc-set vs n v (omega (arith, free_slot)))

  standing_more : standing_by o (n + 1) (set vs n v) ≡ progress_of o (take (n + 1) (set vs n v))
  unfolding standing_by
  standing_more = simp (le-ltb slots (n + 1) (omega (arith, free_slot)))

  -- it leads to where the search with the value in the next slot stands
  pub tried_more : tried_by o n vs x v ≡ standing_by o (n + 1) (set vs n v)
  tried_more =
      ap (λ (p : Progress). offer_of o p other v) fine.1
      ∙ accepted_more o (take n vs) other v by_values
      ∙ ap (progress_of o) (sym values_more)
      ∙ sym standing_more

-- ---- the verdict

module _ (o : Opening) (n : ℕ) (vs : List ℤ) (x v : ℤ) (r : Report) (e : r ≡ report_at o (tried_by o n vs x v)) where
  pub verdict_refused : is_refused (tried_by o n vs x v) ≡ true → record { report = r; count = n; at = 0; value = get_or vs 0 (pos 0) } ≡ verdict_of o n vs x v
  unfolding verdict_of
  verdict_refused f = rw e (simp f)

  pub verdict_entered : is_refused (tried_by o n vs x v) ≡ false → record { report = r; count = n + 1; at = n; value = v } ≡ verdict_of o n vs x v
  unfolding verdict_of
  verdict_entered f = rw e (simp f)
