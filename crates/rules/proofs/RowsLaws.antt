-- The laws of reports written into a lent list one after the other, while calls are made in turn: what the loop of such a run keeps.
-- Assumes nothing.
use Rattle.std.specs.Prelude.{ℕ, suc, ◌+◌, ◌*◌, ◌≤◌, ◌≡◌, refl, set}
use Rattle.std.proofs.Math.Path.{sym, ap}
use Rattle.std.proofs.Common.{◌∙◌, zero-add, length-append}
use mathlib.Core.List.{List, [], ◌∷◌, ◌++◌}
use native.Mathlib.Omega.{arith}
use Rattle.std.proofs.Math.ListN.{length, drop, drop_of_length-le}
use Rattle.std.proofs.Math.Seq.{sets, sets-eq, length-sets}
use Rattle.rules.specs.declared.Report.{Report}
use Rattle.rules.specs.Rows.{row_of, row_numbers, numbers_each, rows_of, written_over}

-- ---- the rows

rows_length : (rs : List Report) → length (rows_of rs) ≡ numbers_each * length rs
unfolding rows_of
rows_length [] = refl
rows_length (r ∷ rs) = omega (arith, length-append (row_numbers (row_of r)) (rows_of rs), rows_length rs)

sets_append : (us vs l : List ℕ) (at : ℕ) → sets l at (us ++ vs) ≡ sets (sets l at us) (at + length us) vs
sets_append [] vs l at = let e : at + 0 ≡ at = omega arith in rw e
sets_append (u ∷ us) vs l at =
    let e : at + length (u ∷ us) ≡ suc at + length us = omega arith in
    rw e (sets_append us vs (set l at u) (suc at))

-- ---- a run

-- calls C made in turn to what X stands for: the report of one and what it leaves, and those of all of them
pub record InTurn (X C : Type 0) : Type 0 where
  pub told : X → C → Report
  pub next : X → C → X
  pub after : X → List C → X
  pub reports : X → List C → List Report
  -- each call gets what the one before left
  pub after_none : (x : X) → after x [] ≡ x
  pub after_one : (x : X) (c : C) (calls : List C) → after x (c ∷ calls) ≡ after (next x c) calls
  pub reports_none : (x : X) → reports x [] ≡ []
  pub reports_one : (x : X) (c : C) (calls : List C) → reports x (c ∷ calls) ≡ told x c ∷ reports (next x c) calls

module _ {X C : Type 0} (T : InTurn X C) where
  reports_length : (x : X) (calls : List C) → length (T.reports x calls) ≡ length calls
  reports_length x [] = ap length (T.reports_none x)
  reports_length x (c ∷ calls) = ap length (T.reports_one x c calls) ∙ ap suc (reports_length (T.next x c) calls)

  -- i of the calls, from x₀ on, have led to x and the list `after`: what all of them leave and write is what the others do from here
  pub record Made (x₀ : X) (calls : List C) (before : List ℕ) (i : ℕ) (x : X) (after : List ℕ) : Type 0 where
    pub same : length after ≡ length before
    pub onward : T.after x₀ calls ≡ T.after x (drop i calls)
    pub written : sets before 0 (rows_of (T.reports x₀ calls)) ≡ sets after (numbers_each * i) (rows_of (T.reports x (drop i calls)))

  module _ (x₀ : X) (calls : List C) (before : List ℕ) where
    pub made_none : Made x₀ calls before 0 x₀ before
    made_none = record { same = refl; onward = refl; written = refl }

    module _ {i : ℕ} {x : X} {list : List ℕ} (made : Made x₀ calls before i x list) where
      -- c is the call at place i
      pub made_more : (c : C) → drop i calls ≡ c ∷ drop (i + 1) calls → {y : X} {after : List ℕ} → y ≡ T.next x c
          → after ≡ sets list (numbers_each * i) (row_numbers (row_of (T.told x c))) → Made x₀ calls before (i + 1) y after
      unfolding rows_of
      made_more c more {y} {after} went wrote =
          let row = row_numbers (row_of (T.told x c)) in
          let rest = rows_of (T.reports (T.next x c) (drop (i + 1) calls)) in
          let place : numbers_each * i + length row ≡ numbers_each * (i + 1) = omega arith in
          rw (went, wrote)
          (record {
            same = length-sets list (numbers_each * i) row ∙ made.same;
            onward = made.onward ∙ ap (T.after x) more ∙ T.after_one x c (drop (i + 1) calls);
            written =
                made.written
                ∙ ap (λ (rs : List Report). sets list (numbers_each * i) (rows_of rs)) (ap (T.reports x) more ∙ T.reports_one x c (drop (i + 1) calls))
                ∙ sets_append row rest list (numbers_each * i)
                ∙ ap (λ (at : ℕ). sets (sets list (numbers_each * i) row) at rest) place;
          })

      pub made_all : length calls ≤ i → numbers_each * length calls ≤ length before
          → (x ≡ T.after x₀ calls) × (list ≡ written_over (T.reports x₀ calls) before)
      unfolding rows_of
      made_all h room =
          let rs = T.reports x₀ calls in
          let none : drop i calls ≡ [] = drop_of_length-le calls h in
          let fit : 0 + length (rows_of rs) ≤ length before = omega (arith, rows_length rs, reports_length x₀ calls) in (
            sym (made.onward ∙ ap (T.after x) none ∙ T.after_none x),
            sym
                (made.written
                ∙ ap (λ (rs : List Report). sets list (numbers_each * i) (rows_of rs)) (ap (T.reports x) none ∙ T.reports_none x))
                ∙ sets-eq (rows_of rs) before 0 fit
                ∙ ap (λ (k : ℕ). rows_of rs ++ drop k before) (zero-add (length (rows_of rs)) ∙ rows_length rs),
          )
