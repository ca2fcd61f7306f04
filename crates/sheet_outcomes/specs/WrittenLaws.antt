-- The method as written, by the form of a text and what the scanner finds at its beginning.
-- Assumes nothing.
use Rattle.std.specs.Prelude.{ℕ, ◌≡◌, Bool, true, false, cond, List, [], ◌∷◌, eqb, ltb, ℤ, length}
use Rattle.std.specs.Prelude.{Option, None, Some, Result, Ok, Err}
use Rattle.std.proofs.Math.Path.{refl, sym, ap}
use Rattle.std.proofs.Common.{subst, ◌∙◌, arith, ltb-false}
use Rattle.integers.proofs.SignsLaws.{never}
use Rattle.rules.specs.declared.Answer.{Answer}
use Rattle.rules.specs.declared.Opening.{Opening}
use Rattle.rules.specs.declared.Refusal.{Refusal}
use Rattle.rules.specs.Rules.{slots}
use Rattle.forms.specs.declared.Entries.{Entries}
use Rattle.forms.specs.Text.{records_of}
use Rattle.forms.specs.Entries.{too_long, too_many, malformed, longest_text, whole_text, opening_place, answer_place, answer_of, opening_of}
use Rattle.forms.specs.Entries.{refused, opened, entered, answers_from, records_read, entries_of}
use Rattle.scanning.specs.declared.Scanned.{Scanned}
use Rattle.scanning.specs.Scan.{first_record, field_at, before_end, pair_at, opened_with, opened_with_share, opened_then, opened_from, opening_scan}
use Rattle.scanning.specs.First.{records_step}
use Rattle.scanning.specs.Rest.{opening_read, opening_malformed}
use Rattle.seasons.specs.Season.{other}
use Rattle.sheet_outcomes.specs.HasOpening.{has_opening}
use Rattle.seasons.specs.Sheets.{method_number, method_in, method_of_first, method_written}

-- ---- the form of a text tells whether its first record is an opening

abbrev is_opened : Option Opening → Bool
is_opened (Some o) = true
is_opened None = false

-- m is the method in r, which is an opening
pub record First (m : ℕ) (r : Option Opening) : Type 0 where
  pub is : m ≡ method_in r
  pub found : is_opened r ≡ true

-- what is known of m and the first record, by the form
pub record By (m : ℕ) (r : Option Opening) (f : Result (Unit {0}) Refusal) : Type 0 where
  pub without : has_opening f ≡ false → other ≡ m
  pub with_one : has_opening f ≡ true → First m r

answers_by : (m : ℕ) (r : Option Opening) (e : Entries) (rs : List (List ℕ)) → First m r → e.form ≡ Ok tt → By m r (answers_from e rs).form
unfolding answers_from entered refused
answers_by m r e [] f h = rw h (record { without = λ g. never g; with_one = λ g. f })
answers_by m r e (x ∷ rs) f h = go (eqb e.count slots) (answer_of x) (λ p v. answers_by m r (entered e p v) rs f h)
  where
    later : {n : ℕ} → By m r (Err (record { number = n; place = answer_place e.count }))
    later = record { without = λ g. absurd (omega (arith, ltb-false 1 (answer_place e.count) g)); with_one = λ g. f }

    go : (b : Bool) (a : Option Answer) → ((p v : ℤ) → By m r (answers_from (entered e p v) rs).form)
        → By m r (cond {A = Entries} b (refused too_many (answer_place e.count))
        (elim a [ Some x ↦ answers_from (entered e x.point x.value) rs | None ↦ refused malformed (answer_place e.count) ])
        ).form
    go true a more = later
    go false (Some x) more = more x.point x.value
    go false None more = later

opening_by : (r : Option Opening) (rs : List (List ℕ))
    → By (method_in r) r
    (elim r as (λ x. Entries) [ Some o ↦ answers_from (opened o) rs | None ↦ refused malformed opening_place ]).form
unfolding opened refused
opening_by (Some o) rs = answers_by (method_number o.method) (Some o) (opened o) rs (record { is = refl; found = refl }) refl
opening_by None rs = record { without = λ g. refl; with_one = λ g. never (sym g) }

records_by : (s : List ℕ) → By (method_of_first (records_of s)) (opening_of (first_record s)) (records_read (records_of s)).form
unfolding records_read records_of refused
records_by [] = record { without = λ g. refl; with_one = λ g. never (sym g) }
records_by (x ∷ s) = rw (records_step (x ∷ s) (omega arith)) (opening_by (opening_of (first_record (x ∷ s))) _)

pub by_form : (s : List ℕ) → By (method_written s) (opening_of (first_record s)) (entries_of s).form
unfolding method_written entries_of refused
by_form s = go (ltb longest_text (length s))
  where
    go : (b : Bool)
        → By (cond b other (method_of_first (records_of s))) (opening_of (first_record s))
        (cond {A = Entries} b (refused too_long whole_text) (records_read (records_of s))).form
    go true = record { without = λ g. refl; with_one = λ g. never (sym g) }
    go false = records_by s

-- ---- the first number of an opening is its method

abbrev Carries : ℤ → Option (Scanned Opening) → Type 0
Carries m (Some o) = o.value.method ≡ m
Carries m None = Unit {0}

scan_carries : (s : List ℕ) (q : Scanned (ℤ × ℤ)) → Carries q.value.0 (opened_from s (Some q))
scan_carries s q = four (pair_at true s q.next)
  where
    five : (y t : ℤ) (p : Option (Scanned ℤ)) → Carries q.value.0 (opened_with q.value.0 q.value.1 y t p)
    five y t (Some p) = refl
    five y t None = tt

    share : (p : Option (Scanned (ℤ × ℤ))) → Carries q.value.0 (opened_with_share s q.value.0 q.value.1 p)
    share (Some p) = five p.value.0 p.value.1 (before_end s (field_at s p.next))
    share None = tt

    four : (p : Option (Scanned (ℤ × ℤ))) → Carries q.value.0 (opened_then s q.value.0 q.value.1 q.next p)
    four (Some p) = refl
    four None = share (pair_at false s q.next)

module _ (s : List ℕ) (found : is_opened (opening_of (first_record s)) ≡ true) where
  -- its record is one that is no opening
  unopened : {X : Type 0} → opening_scan s ≡ None → X
  unopened e = never (sym found ∙ ap is_opened (opening_malformed s refl e))

  pub first_scanned : {q : Scanned (ℤ × ℤ)} → pair_at false s 0 ≡ Some q → method_number q.value.0 ≡ method_in (opening_of (first_record s))
  unfolding opening_scan
  first_scanned {q} e =
      go (opening_scan s) refl (subst (λ (p : Option (Scanned (ℤ × ℤ))). Carries q.value.0 (opened_from s p)) (sym e) (scan_carries s q))
    where
      go : (r : Option (Scanned Opening)) → opening_scan s ≡ r → Carries q.value.0 r → method_number q.value.0 ≡ method_in (opening_of (first_record s))
      go (Some o) f c = ap method_number (sym c) ∙ sym (ap method_in (opening_read s refl f).read)
      go None f c = unopened f

  pub never_unscanned : {X : Type 0} → pair_at false s 0 ≡ None → X
  unfolding opening_scan
  never_unscanned e = unopened (ap (opened_from s) e)
