-- The laws of sheets: where the answers lead, and that a text has no more answers than a held search has slots.
-- Assumes nothing.
use Rattle.std.specs.Prelude.{ℕ, ◌+◌, ◌≤◌, ◌<◌, ◌≡◌, refl, Bool, true, false, cond, List, [], ◌∷◌, eqb, ltb, ℤ, length}
use Rattle.std.specs.Prelude.{Option, None, Some, Ok, Err}
use Rattle.std.proofs.Common.{◌∙◌, add-zero, arith, eq-eqb, ne_eqb}
use Rattle.std.proofs.lemmas.Bool.{eqb-false}
use Rattle.rules.specs.declared.Answer.{Answer}
use Rattle.rules.specs.declared.Opening.{Opening}
use Rattle.rules.specs.declared.Refusal.{Refusal}
use Rattle.rules.specs.declared.Progress.{Progress}
use Rattle.rules.specs.declared.Report.{Report}
use Rattle.rules.specs.Rules.{slots, lower_of, upper_of, stopped_of, next_of}
use Rattle.rules.specs.Refusals.{opening_refusal}
use Rattle.rules.specs.Search.{other_at, offer_of, answers_of, bracket_report, report_at}
use Rattle.rules.proofs.SearchLaws.{CountedAt, counted_offer}
use Rattle.held.specs.declared.Entered.{Entered}
use Rattle.forms.specs.declared.Entries.{Entries}
use Rattle.forms.specs.Text.{records_of}
use Rattle.forms.specs.Entries.{longest_text, opening_place, answer_place, answer_of, opening_of}
use Rattle.forms.specs.Entries.{opened, entered, refused, answers_from, records_read, entries_of}
use Rattle.outcomes.specs.Sheet.{leads_to, refused_at, kept_of, settled_as, outcome_of, judged, sheet_of}

-- ---- where the answers lead

-- each is counted
pub answers_counted : (o : Opening) (n : ℕ) (p : Progress) (xs vs : List ℤ) → length xs ≡ length vs → CountedAt n p
    → CountedAt (n + length xs) (answers_of o p xs vs)
unfolding answers_of
answers_counted o n p [] vs e c = rw (add-zero n) c
answers_counted o n p (x ∷ xs) [] e c = absurd (omega arith)
answers_counted o n p (x ∷ xs) (v ∷ vs) e c =
    let f : (n + 1) + length xs ≡ n + length (x ∷ xs) = omega arith in
    rw (← f)
    (answers_counted o (n + 1) (offer_of o p (other_at o p x) v) xs vs (omega arith) (counted_offer o n p (other_at o p x) v c))

-- ---- no more answers than slots

answers_few : (e : Entries) (rs : List (List ℕ)) → e.count ≤ slots → (answers_from e rs).count ≤ slots
unfolding answers_from entered refused
answers_few e [] h = h
answers_few e (r ∷ rs) h = go (eqb e.count slots) refl (answer_of r) (λ x v. answers_few (entered e x v) rs)
  where
    go : (b : Bool) → eqb e.count slots ≡ b → (a : Option Answer) → ((x v : ℤ) → e.count + 1 ≤ slots → (answers_from (entered e x v) rs).count ≤ slots)
        → (cond {A = Entries} b (refused 11 (e.count + 2))
        (elim a [ Some x ↦ answers_from (entered e x.point x.value) rs | None ↦ refused 12 (e.count + 2) ])).count
        ≤ slots
    go true f a more = omega arith
    go false f (Some x) more = more x.point x.value (omega (arith, eqb-false e.count slots f))
    go false f None more = omega arith

pub entries_few : (text : List ℕ) → (entries_of text).count ≤ slots
unfolding entries_of records_read refused opened
entries_few text = go (ltb longest_text (length text)) (records_of text)
  where
    read : (o : Option Opening) (rs : List (List ℕ))
        → (elim o as (λ x. Entries) [ Some a ↦ answers_from (opened a) rs | None ↦ refused 12 1 ]).count ≤ slots
    read (Some a) rs = answers_few (opened a) rs (omega arith)
    read None rs = omega arith

    go : (b : Bool) (rs : List (List ℕ)) → (cond {A = Entries} b (refused 10 0) (records_read rs)).count ≤ slots
    go true rs = omega arith
    go false [] = omega arith
    go false (r ∷ rs) = read (opening_of r) rs

-- ---- the outcome, by where the answers lead

-- the outcome, by the report on where they lead
abbrev pub kept_by : Entries → Report → Entered
kept_by e r = record { report = r; search = kept_of e }

abbrev pub settled_by : Entries → Report → Entered
settled_by e (Report.Next point taken) = kept_by e (Report.Next point taken)
settled_by e (Report.Stop lower upper better taken) = kept_by e (Report.Stop lower upper better taken)
settled_by e (Report.Refused n i) = refused_at n (answer_place i)

pub settled_is : (e : Entries) (p : Progress) → settled_by e (report_at e.opening p) ≡ settled_as e p
unfolding report_at bracket_report
settled_is e Progress.Begun = refl
settled_is e (Progress.First v) = refl
settled_is e (Progress.Bracketed k) = go (stopped_of e.opening k)
  where
    stop : Report
    stop = Report.Stop (lower_of k) (upper_of k) k.better.point k.taken

    next : Report
    next = Report.Next (next_of e.opening k) k.taken

    go : (b : Bool) → settled_by e (cond b stop next) ≡ kept_by e (cond b stop next)
    go true = refl
    go false = refl
settled_is e (Progress.Refused n i) = refl

-- a refusal has the index of one of n answers
abbrev pub Below : ℕ → Report → Type 0
Below n (Report.Next point taken) = Unit {0}
Below n (Report.Stop lower upper better taken) = Unit {0}
Below n (Report.Refused m i) = i < n

pub below : (o : Opening) (n : ℕ) (p : Progress) → CountedAt n p → Below n (report_at o p)
unfolding report_at bracket_report
below o n Progress.Begun c = tt
below o n (Progress.First v) c = tt
below o n (Progress.Bracketed k) c = go (stopped_of o k)
  where
    go : (b : Bool) → Below n (cond b (Report.Stop (lower_of k) (upper_of k) k.better.point k.taken) (Report.Next (next_of o k) k.taken))
    go true = tt
    go false = tt
below o n (Progress.Refused m i) c = c

pub outcome_accepted : (e : Entries) → opening_refusal e.opening ≡ 0 → settled_as e (leads_to e) ≡ outcome_of e
unfolding outcome_of
outcome_accepted e h = simp (eq-eqb _ 0 h)

pub outcome_refused : (e : Entries) (n : ℕ) → n ≡ opening_refusal e.opening → (n ≡ 0 → ⊥) → refused_at n opening_place ≡ outcome_of e
unfolding outcome_of
outcome_refused e n f h = rw f (simp (ne_eqb _ 0 (λ g. h (f ∙ g))))

-- the text's outcome, from what its records are read as
module _ (text : List ℕ) (e : Entries) (f : e ≡ entries_of text) where
  pub sheet_judged : judged e e.form ≡ sheet_of text
  unfolding sheet_of
  sheet_judged = rw (← f)

  pub sheet_refused : (r : Refusal) → e.form ≡ Err r → refused_at r.number r.place ≡ sheet_of text
  unfolding sheet_of
  sheet_refused r g = rw (← f, g)

  pub sheet_read : e.form ≡ Ok tt → outcome_of e ≡ sheet_of text
  unfolding sheet_of
  sheet_read g = rw (← f, g)
