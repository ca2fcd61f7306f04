-- The claim on every sheet holds: its method is the one of the opening that it is read as, and the bound on the answers is the search's.
-- Assumes nothing.
use Rattle.std.specs.Prelude.{ℕ, ◌≤◌, ◌≡◌, refl, Bool, true, false, cond, List, [], ◌∷◌, map, eqb, ltb, ℤ, pos, nat_abs, length}
use Rattle.std.specs.Prelude.{Option, None, Some, Result, Ok, Err}
use Rattle.std.proofs.Common.{sym, ap, ◌∙◌, arith, eqb-true, eq-eqb}
use Rattle.std.proofs.Math.Nat.{max-le}
use Rattle.integers.proofs.SignsLaws.{never}
use Rattle.rules.specs.declared.Answer.{Answer}
use Rattle.rules.specs.declared.Opening.{Opening}
use Rattle.rules.specs.declared.Refusal.{Refusal}
use Rattle.rules.specs.declared.Bracket.{Bracket}
use Rattle.rules.specs.declared.Progress.{Progress}
use Rattle.rules.specs.declared.Report.{Report}
use Rattle.rules.specs.Rules.{slots, lower_of, upper_of, stopped_of, next_of}
use Rattle.rules.specs.Refusals.{refusal, outside, opening_refusal, Accepted}
use Rattle.rules.proofs.RefusalsLaws.{ranged, opened}
use Rattle.rules.specs.Search.{answers_of, other_at, offer_of, bracket_report, report_at, is_refusal, t_of, most_of, quote_of}
use Rattle.rules.proofs.SearchLaws.{Sound, SoundAt, sound_offer, most_slots}
use Rattle.held.specs.declared.Entered.{Entered}
use Rattle.forms.specs.declared.Entries.{Entries}
use Rattle.forms.specs.Text.{records_of}
use Rattle.forms.specs.Entries.{too_long, too_many, malformed, longest_text, whole_text, opening_place, answer_place, answer_of, opening_of, refused}
use Rattle.forms.specs.Entries.{opened as opened_as, entered, answers_from, records_read, entries_of}
use Rattle.outcomes.specs.Sheet.{leads_to, refused_at, settled_as, outcome_of, judged, sheet_of}
use Rattle.clean_sheets.specs.Clean.{rewritten_of}
use Rattle.journal.proofs.SpellingLaws.{reading}
use Rattle.clean_sheets.proofs.ClaimsHold.{form_read, passed, opening_held, rewritten}
use Rattle.seasons.specs.declared.Outcome.{Outcome}
use Rattle.seasons.specs.Season.{other, not_refused, was_refused, booked_as, filter, sum, maximum, tally_of, booked_under}
use Rattle.seasons.specs.Sheets.{method_number, method_in, method_of_first, method_written, most_quoted, outcome_by, sheet_outcome}
use Rattle.seasons.specs.Claims.{SheetClaim, EverySheet}

-- ---- the method as written is the method that is read

-- of a text that is read
abbrev Agrees : ℕ → Entries → Type 0
Agrees m e = e.form ≡ Ok tt → m ≡ method_number e.opening.method

abbrev is_read : Result (Unit {0}) Refusal → Bool
is_read (Ok u) = true
is_read (Err r) = false

refused_agrees : (m n k : ℕ) → Agrees m (refused n k)
unfolding refused
refused_agrees m n k e = never (sym (ap is_read e))

answers_agree : (m : ℕ) (e : Entries) (rs : List (List ℕ)) → m ≡ method_number e.opening.method → Agrees m (answers_from e rs)
unfolding answers_from entered
answers_agree m e [] h = λ _. h
answers_agree m e (r ∷ rs) h = go (eqb e.count slots) (answer_of r) (λ x v. answers_agree m (entered e x v) rs h)
  where
    go : (b : Bool) (a : Option Answer) → ((x v : ℤ) → Agrees m (answers_from (entered e x v) rs))
        → Agrees m (cond b (refused too_many (answer_place e.count))
        (elim a [ Some x ↦ answers_from (entered e x.point x.value) rs | None ↦ refused malformed (answer_place e.count) ]))
    go true a more = refused_agrees m too_many (answer_place e.count)
    go false (Some x) more = more x.point x.value
    go false None more = refused_agrees m malformed (answer_place e.count)

entries_agree : (text : List ℕ) → Agrees (method_written text) (entries_of text)
unfolding method_written entries_of records_read opened_as
entries_agree text = go (ltb longest_text (length text)) (records_of text)
  where
    first : (o : Option Opening) (rs : List (List ℕ))
        → Agrees (method_in o) (elim o [ Some a ↦ answers_from (opened_as a) rs | None ↦ refused malformed opening_place ])
    first (Some a) rs = answers_agree (method_number a.method) (opened_as a) rs refl
    first None rs = refused_agrees other malformed opening_place

    go : (b : Bool) (rs : List (List ℕ)) → Agrees (cond b other (method_of_first rs)) (cond b (refused too_long whole_text) (records_read rs))
    go true rs = refused_agrees other too_long whole_text
    go false [] = refused_agrees other malformed opening_place
    go false (r ∷ rs) = first (opening_of r) rs

-- ---- the report on a sheet keeps to the quote of its opening

-- of a report that is no refusal: the opening is accepted, and no more answers are taken than quoted
abbrev Kept : Opening → Report → Type 0
Kept o (Report.Next point taken) = Accepted o × (taken ≤ most_of o)
Kept o (Report.Stop lower upper better taken) = Accepted o × (taken ≤ most_of o)
Kept o (Report.Refused number place) = Unit {0}

answers_sound : (o : Opening) (p : Progress) (xs vs : List ℤ) → SoundAt o p → SoundAt o (answers_of o p xs vs)
unfolding answers_of
answers_sound o p [] vs s = s
answers_sound o p (x ∷ xs) [] s = s
answers_sound o p (x ∷ xs) (v ∷ vs) s = answers_sound o (offer_of o p (other_at o p x) v) xs vs (sound_offer o p (other_at o p x) v s)

module _ (o : Opening) (a : Accepted o) where
  bracket_keeps : (k : Bracket) → Sound o k → Kept o (bracket_report o k)
  unfolding bracket_report
  bracket_keeps k s = go (stopped_of o k)
    where
      few : k.taken ≤ most_of o
      few = omega (arith, s.bound.most)

      go : (b : Bool) → Kept o (cond b (Report.Stop (lower_of k) (upper_of k) k.better.point k.taken) (Report.Next (next_of o k) k.taken))
      go true = (a, few)
      go false = (a, few)

  report_keeps : (p : Progress) → SoundAt o p → Kept o (report_at o p)
  unfolding report_at
  report_keeps Progress.Begun s = (a, omega arith)
  report_keeps (Progress.First v) s = (a, omega arith)
  report_keeps (Progress.Bracketed k) s = bracket_keeps k s.1
  report_keeps (Progress.Refused n i) s = tt

sheet_keeps : (text : List ℕ) → Kept (sheet_of text).search.opening (sheet_of text).report
unfolding sheet_of outcome_of report_at
sheet_keeps text = form (entries_of text).form
  where
    e : Entries
    e = entries_of text

    kept : Accepted e.opening → (p : Progress) → SoundAt e.opening p → Kept (settled_as e p).search.opening (settled_as e p).report
    kept a Progress.Begun s = report_keeps e.opening a Progress.Begun s
    kept a (Progress.First v) s = report_keeps e.opening a (Progress.First v) s
    kept a (Progress.Bracketed k) s = report_keeps e.opening a (Progress.Bracketed k) s
    kept a (Progress.Refused n i) s = tt

    go : (b : Bool) → eqb (opening_refusal e.opening) 0 ≡ b
        → let x = cond {A = Entered} b (settled_as e (leads_to e)) (refused_at (opening_refusal e.opening) opening_place) in
        Kept x.search.opening x.report
    go true f =
        let a : Accepted e.opening = record { accepted = eqb-true _ _ f } in
        kept a (leads_to e) (answers_sound e.opening Progress.Begun _ _ (opened e.opening a))
    go false f = tt

    form : (f : Result (Unit {0}) Refusal) → Kept (judged e f).search.opening (judged e f).report
    form (Err r) = tt
    form (Ok u) = go (eqb (opening_refusal e.opening) 0) refl

-- ---- a sheet that is accepted

-- it is read, and the opening of its search is the one that is read, which is accepted
record Taken (text : List ℕ) : Type 0 where
  form : (entries_of text).form ≡ Ok tt
  opening : (sheet_of text).search.opening ≡ (entries_of text).opening
  accepted : Accepted (sheet_of text).search.opening

sheet_taken : (text : List ℕ) → is_refusal (sheet_of text).report ≡ false → Taken text
sheet_taken text taken =
    let form = form_read text taken in
    let read = (reading text).taken form in
    let held = opening_held text taken read.0 read.1 read.2 in
    record {
      form = form;
      opening = held ∙ sym (ap (λ (e : Entries). e.opening) read.2);
      accepted = rw held (record { accepted = (passed text taken read.0 read.1 read.2).0 });
    }

-- ---- its method

number_whole : (o : Opening) → Accepted o → pos (method_number o.method) ≡ o.method
unfolding method_number opening_refusal
number_whole o a = go (outside 0 2 o.method) refl
  where
    go : (b : Bool) → outside 0 2 o.method ≡ b → pos (cond b other (nat_abs o.method)) ≡ o.method
    go true e = absurd (omega (arith, rw e at a.accepted))
    go false e = sym (opened o a).method.whole

number_few : (m : ℤ) → method_number m ≤ other
unfolding method_number
number_few m = go (outside 0 2 m) refl
  where
    go : (b : Bool) → outside 0 2 m ≡ b → cond b other (nat_abs m) ≤ other
    go true e = omega arith
    go false e = omega (arith, (ranged 0 2 m e).most)

written_is : (text : List ℕ) → is_refusal (sheet_of text).report ≡ false → pos (method_written text) ≡ (sheet_of text).search.opening.method
written_is text taken =
    let t = sheet_taken text taken in
    ap pos (entries_agree text t.form)
    ∙ ap (λ (o : Opening). pos (method_number o.method)) (sym t.opening)
    ∙ number_whole (sheet_of text).search.opening t.accepted

-- ---- its quote

quote_is : (o : Opening) → Accepted o → quote_of o ≡ Ok (record { t = t_of o; most = most_of o })
unfolding quote_of
quote_is o a = simp (eq-eqb (opening_refusal o) 0 a.accepted)

-- no opening is quoted more answers than a search has slots
pub quoted_few : (o : Opening) → most_quoted (quote_of o) ≤ slots
unfolding quote_of
quoted_few o = go (eqb (opening_refusal o) 0) refl
  where
    go : (b : Bool) → eqb (opening_refusal o) 0 ≡ b
        → most_quoted (cond b (Ok (record { t = t_of o; most = most_of o })) (Err (refusal (opening_refusal o) 0))) ≤ slots
    go true e = most_slots o (opened o (record { accepted = eqb-true _ _ e }))
    go false e = omega arith

-- ---- the outcome, by the report

module _ (method : ℕ) (o : Opening) where
  abbrev by : Report → Outcome
  by r = outcome_by method o r

  by_method : (r : Report) → (by r).method ≡ method
  by_method (Report.Next point taken) = refl
  by_method (Report.Stop lower upper better taken) = refl
  by_method (Report.Refused n i) = refl

  by_refused : (r : Report) → was_refused (by r) ≡ is_refusal r
  by_refused (Report.Next point taken) = refl
  by_refused (Report.Stop lower upper better taken) = refl
  by_refused (Report.Refused n i) = refl

  by_within : (r : Report) → Kept o r → (by r).answers ≤ (by r).quoted
  by_within (Report.Next point taken) k = rw (quote_is o k.0) k.1
  by_within (Report.Stop lower upper better taken) k = rw (quote_is o k.0) k.1
  by_within (Report.Refused n i) k = omega arith

  by_few : (r : Report) → (by r).quoted ≤ slots
  by_few (Report.Next point taken) = quoted_few o
  by_few (Report.Stop lower upper better taken) = quoted_few o
  by_few (Report.Refused n i) = omega arith

  by_quoted : (r : Report) → is_refusal r ≡ false → (by r).quoted ≡ most_quoted (quote_of o)
  by_quoted (Report.Next point taken) h = refl
  by_quoted (Report.Stop lower upper better taken) h = refl
  by_quoted (Report.Refused n i) h = never h

-- the opening that is read may stand in the place of the search's: where they differ, the sheet is refused
pub outcome_read : (text : List ℕ) → outcome_by (method_written text) (entries_of text).opening (sheet_of text).report ≡ sheet_outcome text
unfolding sheet_outcome
outcome_read text = go (sheet_of text).report refl
  where
    go : (r : Report) → (sheet_of text).report ≡ r
        → outcome_by (method_written text) (entries_of text).opening r ≡ outcome_by (method_written text) (sheet_of text).search.opening r
    go (Report.Next point taken) e =
        ap (λ (o : Opening). outcome_by (method_written text) o (Report.Next point taken)) (sym (sheet_taken text (ap is_refusal e)).opening)
    go (Report.Stop lower upper better taken) e =
        ap (λ (o : Opening). outcome_by (method_written text) o (Report.Stop lower upper better taken)) (sym (sheet_taken text (ap is_refusal e)).opening)
    go (Report.Refused n i) e = refl

-- the answers of every sheet fit a search
abbrev pub TakenFew : Report → Type 0
TakenFew (Report.Next point taken) = taken ≤ slots
TakenFew (Report.Stop lower upper better taken) = taken ≤ slots
TakenFew (Report.Refused n i) = Unit {0}

pub taken_few : (text : List ℕ) → TakenFew (sheet_of text).report
taken_few text = go (sheet_of text).search.opening (sheet_of text).report (sheet_keeps text)
  where
    go : (o : Opening) (r : Report) → Kept o r → TakenFew r
    go o (Report.Next point taken) k = omega (arith, k.1, most_slots o (opened o k.0))
    go o (Report.Stop lower upper better taken) k = omega (arith, k.1, most_slots o (opened o k.0))
    go o (Report.Refused n i) k = tt

-- ---- every sheet

written_few : (text : List ℕ) → method_written text ≤ other
unfolding method_written
written_few text = go (ltb longest_text (length text)) (records_of text)
  where
    one : (r : Option Opening) → method_in r ≤ other
    one (Some o) = number_few o.method
    one None = omega arith

    go : (b : Bool) (rs : List (List ℕ)) → cond b other (method_of_first rs) ≤ other
    go true rs = omega arith
    go false [] = omega arith
    go false (r ∷ rs) = one (opening_of r)

-- the outcome of an accepted sheet is made of its report and its search
outcome_is : (text : List ℕ) → is_refusal (sheet_of text).report ≡ false
    → sheet_outcome text ≡ outcome_by (nat_abs (sheet_of text).search.opening.method) (sheet_of text).search.opening (sheet_of text).report
unfolding sheet_outcome
outcome_is text taken = ap (λ (m : ℕ). outcome_by m (sheet_of text).search.opening (sheet_of text).report) (ap nat_abs (written_is text taken))

cleaned_same : (text : List ℕ) → is_refusal (sheet_of text).report ≡ false → sheet_outcome (rewritten_of text) ≡ sheet_outcome text
cleaned_same text taken =
    let same = (rewritten text taken).same in
    outcome_is (rewritten_of text) (ap (λ (e : Entered). is_refusal e.report) same ∙ taken)
    ∙ ap (λ (e : Entered). outcome_by (nat_abs e.search.opening.method) e.search.opening e.report) same
    ∙ sym (outcome_is text taken)

sheet_claim : (text : List ℕ) → SheetClaim text
unfolding sheet_outcome
sheet_claim text =
    let o = (sheet_of text).search.opening in
    let r = (sheet_of text).report in
    let m = method_written text in
    record {
      refused = by_refused m o r;
      numbered = rw (by_method m o r) (written_few text);
      within = by_within m o r (sheet_keeps text);
      few = by_few m o r;
      method = λ taken. ap pos (by_method m o r) ∙ written_is text taken;
      quoted = λ taken.
          let q = quote_is o (sheet_taken text taken).accepted in
          q ∙ ap (λ (n : ℕ). Ok (record { t = t_of o; most = n })) (sym (by_quoted m o r taken ∙ ap most_quoted q));
      cleaned = cleaned_same text;
    }

-- ---- a season of sheets

-- what is known of each sheet is known of a list of outcomes
abbrev EachWithin : List Outcome → Type 0
EachWithin [] = Unit {0}
EachWithin (o ∷ os) = (o.answers ≤ o.quoted) × (o.quoted ≤ slots) × EachWithin os

sheets_within : (texts : List (List ℕ)) → EachWithin (map sheet_outcome texts)
sheets_within [] = tt
sheets_within (t ∷ ts) = ((sheet_claim t).within, (sheet_claim t).few, sheets_within ts)

filter_within : (test : Outcome → Bool) (os : List Outcome) → EachWithin os → EachWithin (filter test os)
unfolding filter
filter_within test [] w = tt
filter_within test (o ∷ os) w = go (test o) (filter_within test os w.2)
  where
    go : (b : Bool) → EachWithin (filter test os) → EachWithin (cond b (o ∷ filter test os) (filter test os))
    go true v = (w.0, w.1, v)
    go false v = v

sums_within : (os : List Outcome) → EachWithin os → sum (map (λ o. o.answers) os) ≤ sum (map (λ o. o.quoted) os)
unfolding sum
sums_within [] w = omega arith
sums_within (o ∷ os) w = omega (arith, w.0, sums_within os w.2)

maximum_within : (os : List Outcome) → EachWithin os → maximum (map (λ o. o.answers) os) ≤ slots
unfolding maximum
maximum_within [] w = omega arith
maximum_within (o ∷ os) w = max-le (omega (arith, w.0, w.1)) (maximum_within os w.2)

-- the outcomes of the sheets booked under k that are not refused
abbrev searched : ℕ → List (List ℕ) → List Outcome
searched k texts = filter not_refused (booked_under k (map sheet_outcome texts))

searched_within : (k : ℕ) (texts : List (List ℕ)) → EachWithin (searched k texts)
searched_within k texts = filter_within not_refused _ (filter_within (λ o. eqb (booked_as o) k) _ (sheets_within texts))

pub every_sheet : EverySheet
unfolding tally_of
every_sheet =
    record {
      each = sheet_claim;
      totals = λ k texts. sums_within (searched k texts) (searched_within k texts);
      largest = λ k texts. maximum_within (searched k texts) (searched_within k texts);
    }
