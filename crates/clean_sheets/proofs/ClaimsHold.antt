-- The claims on clean sheets hold. An accepted search holds a journal that answers have made, so its clean sheet spells that journal, and
-- the reader reads it as the search that holds it. An accepted sheet is read as such a journal too.
-- Assumes nothing.
use Rattle.std.specs.Prelude.{ℕ, ◌≤◌, ◌≡◌, Bool, true, cond, eqb, ℤ, length, Result, Ok, Err}
use Rattle.std.proofs.Math.Path.{refl, sym, ap}
use Rattle.std.proofs.Common.{ap₂, subst, subst₂, ◌∙◌, arith, eqb-true, length-take-le}
use Rattle.std.proofs.Math.Bool.{false}
use mathlib.Core.List.{List, foldl}
use Rattle.integers.proofs.SignsLaws.{never}
use Rattle.rules.specs.declared.Opening.{Opening}
use Rattle.rules.specs.declared.Answer.{Answer}
use Rattle.rules.specs.declared.Progress.{Progress}
use Rattle.rules.specs.declared.Refusal.{Refusal}
use Rattle.rules.specs.declared.Report.{Report}
use Rattle.rules.specs.Rules.{slots, padded}
use Rattle.rules.specs.Refusals.{opening_refusal, Accepted}
use Rattle.rules.proofs.RefusalsLaws.{opened}
use Rattle.rules.specs.Search.{is_refused, begin_of, take_of, progress_of, is_refusal, report_at, report_of}
use Rattle.rules.proofs.SearchLaws.{accepted_of, refusal_is}
use Rattle.verdicts.specs.Judged.{standing_by}
use Rattle.verdicts.proofs.JudgedLaws.{standing_fine}
use Rattle.held.specs.declared.Search.{Search}
use Rattle.held.specs.declared.Entered.{Entered}
use Rattle.held.specs.Held.{values_of, standing_of, held_report}
use Rattle.forms.specs.declared.Entries.{Entries}
use Rattle.forms.specs.Entries.{opening_place, filled, entries_of}
use Rattle.outcomes.specs.Sheet.{leads_to, settled_as, refused_at, outcome_of, sheet_of}
use Rattle.outcomes.proofs.SheetLaws.{sheet_refused, sheet_read}
use Rattle.journal.specs.Answers.{points, values}
use Rattle.journal.specs.Journal.{journal_report}
use Rattle.journal.specs.Spelling.{CleanText}
use Rattle.journal.specs.Reading.{ReadAs}
use Rattle.journal.specs.Run.{holding}
use Rattle.journal.proofs.SpellingLaws.{reading, spelled_read}
use Rattle.journal.proofs.CleanLaws.{clean_sheet, one_text, clean_spells}
use Rattle.journal.proofs.JournalLaws.{Kept, report_list}
use Rattle.journal.proofs.RunLaws.{journal_fits, values_held, report_held, read_leads, sheet_outcome, spellable_opening, spellable_journal}
use Rattle.clean_sheets.specs.Clean.{with_points, held_answers, sheet_text, clean_of, longest_sheet, cleaned_of, rewritten_of}
use Rattle.clean_sheets.specs.Claims.{AcceptedSearch, cleared, EveryCleanSheet, EveryRewritten}
use Rattle.clean_sheets.proofs.TextLaws.{text_clean}
use Rattle.clean_sheets.proofs.AnswersLaws.{same_values, as_many, begins, kept_values, called_for, Matched, matched}
use Rattle.clean_sheets.proofs.LengthLaws.{answers_short, sheet_short}

-- ---- of values that are accepted

module _ (o : Opening) (vs : List ℤ) (fine : is_refused (progress_of o vs) ≡ false) where
  abbrev journal : List Answer
  journal = with_points o (begin_of o) vs

  pub accepted : Accepted o
  accepted = accepted_of o vs fine

  pub kept : Kept o journal
  kept = kept_values o vs fine

  pub fits : length journal ≤ slots
  fits = journal_fits o accepted journal kept

  is_clean : CleanText (sheet_text o journal) o journal
  is_clean =
      let op = opened o accepted in
      text_clean o journal (spellable_opening o op) (spellable_journal o op journal kept)

  pub is_short : length (sheet_text o journal) ≤ longest_sheet
  is_short =
      let op = opened o accepted in
      let answers = answers_short o (begin_of o) vs (spellable_journal o op journal kept) in
      omega (arith, sheet_short o journal op, answers, as_many o (begin_of o) vs, fits)

  -- read as the search that holds them
  reads : (text : List ℕ) → ReadAs text o journal → sheet_of text ≡ record { report = journal_report o journal; search = holding o journal }
  reads text r = sheet_outcome o accepted journal kept text r

  reads_back : sheet_of (sheet_text o journal) ≡ record { report = journal_report o journal; search = holding o journal }
  reads_back = reads (sheet_text o journal) (spelled_read (clean_sheet is_clean) fits)

-- ---- of an accepted search

module _ (s : Search) (a : AcceptedSearch s) where
  abbrev o : Opening
  o = s.opening

  not_refused : is_refused (standing_of s) ≡ false
  unfolding held_report
  not_refused = sym (refusal_is o (standing_of s)) ∙ a.accepted

  stands : (s.count ≤ slots) × (standing_of s ≡ progress_of o (values_of s))
  unfolding standing_of standing_by
  stands = standing_fine o s.count s.slots not_refused

  pub count_within : s.count ≤ slots
  count_within = stands.0

  pub values_accepted : is_refused (progress_of o (values_of s)) ≡ false
  values_accepted = ap is_refused (sym stands.1) ∙ not_refused

  values_count : length (values_of s) ≡ s.count
  values_count = length-take-le s.count s.slots (omega (arith, count_within, a.full))

  as_counted : length (held_answers s) ≡ s.count
  as_counted = as_many o (begin_of o) (values_of s) ∙ values_count

  -- the search that holds the answers is this one with its fresh slots at 0, and reports as this one does
  holds : holding o (held_answers s) ≡ cleared s
  holds = ap₂ (λ (n : ℕ) (vs : List ℤ). record { opening = o; count = n; slots = padded vs }) as_counted (same_values o (begin_of o) (values_of s))

  reports : journal_report o (held_answers s) ≡ held_report s
  unfolding held_report report_of
  reports =
      sym (report_list o (accepted o (values_of s) values_accepted) (held_answers s) (kept o (values_of s) values_accepted))
      ∙ ap (report_of o) (same_values o (begin_of o) (values_of s))
      ∙ ap (report_at o) (sym stands.1)

pub clean_sheets : EveryCleanSheet
unfolding clean_of
clean_sheets s a =
    let o = s.opening in
    let vs = values_of s in
    let fine = values_accepted s a in
    record {
      count = as_counted s a;
      held = same_values o (begin_of o) vs;
      called = λ i l. called_for o vs fine i (omega (arith, values_count s a));
      clean = is_clean o vs fine;
      only = λ text c t. one_text (clean_spells c t (fits o vs fine)) (is_clean o vs fine);
      spelled = clean_sheet (is_clean o vs fine);
      restored = reads_back o vs fine ∙ ap₂ (λ (r : Report) (h : Search). record { report = r; search = h }) (reports s a) (holds s a);
      same = λ s' e f. ap₂ (λ (u : Opening) (ws : List ℤ). sheet_text u (with_points u (begin_of u) ws)) e f;
      short = is_short o vs fine;
    }

-- ---- of a sheet that is accepted

pub accepted_cleaned : (e : Entered) → is_refusal e.report ≡ false → cleaned_of e ≡ clean_of e.search
unfolding cleaned_of
accepted_cleaned e h = simp h

module _ (text : List ℕ) (taken : is_refusal (sheet_of text).report ≡ false) where
  pub form_read : (entries_of text).form ≡ Ok tt
  form_read = go (entries_of text).form refl
    where
      go : (f : Result (Unit {0}) Refusal) → (entries_of text).form ≡ f → f ≡ Ok tt
      go (Ok u) e = refl
      go (Err r) e = never (ap (λ (s : Entered). is_refusal s.report) (sheet_refused text (entries_of text) refl r e) ∙ taken)

  module _ (o : Opening) (answers : List Answer) (r : ReadAs text o answers) where
    abbrev e : Entries
    e = filled o (points answers) (values answers)

    abbrev vs : List ℤ
    vs = values answers

    outcome_taken : is_refusal (outcome_of e).report ≡ false
    outcome_taken = ap (λ (x : Entered). is_refusal x.report) (sheet_read text e (sym r) refl) ∙ taken

    -- the opening is accepted, and so are the answers
    pub passed : (opening_refusal o ≡ 0) × (is_refused (leads_to e) ≡ false)
    unfolding outcome_of
    passed = go (eqb (opening_refusal o) 0) refl outcome_taken
      where
        settled : (p : Progress) → is_refusal (settled_as e p).report ≡ false → is_refused p ≡ false
        settled Progress.Begun h = refl
        settled (Progress.First v) h = refl
        settled (Progress.Bracketed k) h = refl
        settled (Progress.Refused n i) h = never h

        go : (b : Bool) → eqb (opening_refusal o) 0 ≡ b
            → is_refusal (cond {A = Entered} b (settled_as e (leads_to e)) (refused_at (opening_refusal o) opening_place)).report ≡ false
            → (opening_refusal o ≡ 0) × (is_refused (leads_to e) ≡ false)
        go true f h = (eqb-true _ _ f, settled (leads_to e) h)
        go false f h = never h

    opens : Progress.Begun ≡ begin_of o
    opens = sym (begins o (record { accepted = passed.0 }))

    match : Matched o Progress.Begun answers
    match = matched o Progress.Begun answers (ap is_refused (sym (read_leads o answers)) ∙ passed.1)

    fine : is_refused (progress_of o vs) ≡ false
    unfolding progress_of
    fine =
        ap (λ (p : Progress). is_refused (foldl (take_of o) p vs)) (sym opens)
        ∙ sym (ap is_refused (read_leads o answers ∙ match.leads))
        ∙ passed.1

    -- they are the accepted values with their points
    are : answers ≡ journal o vs fine
    are = match.called ∙ ap (λ (p : Progress). with_points o p vs) opens

    outcome : sheet_of text ≡ record { report = journal_report o (journal o vs fine); search = holding o (journal o vs fine) }
    outcome = reads o vs fine text (subst (ReadAs text o) are r)

    pub opening_held : (sheet_of text).search.opening ≡ o
    opening_held = ap (λ (x : Entered). x.search.opening) outcome

    rewritten_is : rewritten_of text ≡ sheet_text o (journal o vs fine)
    unfolding clean_of
    rewritten_is =
        accepted_cleaned (sheet_of text) taken
        ∙ ap (λ (x : Entered). clean_of x.search) outcome
        ∙ ap (λ (ws : List ℤ). sheet_text o (with_points o (begin_of o) ws))
        (values_held o (accepted o vs fine) (journal o vs fine) (kept o vs fine) ∙ same_values o (begin_of o) vs)

    -- the search that it is reports as it does
    search_told : held_report (sheet_of text).search ≡ (sheet_of text).report
    search_told =
        ap (λ (x : Entered). held_report x.search) outcome
        ∙ report_held o (accepted o vs fine) (journal o vs fine) (kept o vs fine)
        ∙ sym (ap (λ (x : Entered). x.report) outcome)

    rewritten_clean : CleanText (rewritten_of text) o answers
    rewritten_clean = subst₂ (λ (t : List ℕ) (xs : List Answer). CleanText t o xs) (sym rewritten_is) (sym are) (is_clean o vs fine)

    rewritten_same : sheet_of (rewritten_of text) ≡ sheet_of text
    rewritten_same = ap sheet_of rewritten_is ∙ reads_back o vs fine ∙ sym outcome

    rewritten_short : length (rewritten_of text) ≤ longest_sheet
    rewritten_short = rw rewritten_is (is_short o vs fine)

-- the search that an accepted sheet is is accepted
pub search_accepted : (text : List ℕ) → is_refusal (sheet_of text).report ≡ false → is_refusal (held_report (sheet_of text).search) ≡ false
search_accepted text taken =
    let read = (reading text).taken (form_read text taken) in
    ap is_refusal (search_told text taken read.0 read.1 read.2) ∙ taken

pub rewritten : EveryRewritten
rewritten text taken =
    let read = (reading text).taken (form_read text taken) in
    let same = rewritten_same text taken read.0 read.1 read.2 in
    record {
      clean = rewritten_clean text taken;
      same = same;
      again = ap cleaned_of same;
      short = rewritten_short text taken read.0 read.1 read.2;
    }
