-- The claim about whole runs holds: a fresh search holds the empty journal; a search that holds a journal answers each call as the
-- journal does and then holds the journal's next state; and what is claimed at each place is known of every journal that answers make.
-- Assumes nothing.
use Rattle.std.specs.Prelude.{ℕ, ◌≤◌, ◌≡◌, ◌↔◌, length, take}
use Rattle.std.proofs.Math.Path.{refl, ap}
use Rattle.std.proofs.Common.{◌∙◌, eq-eqb, arith}
use mathlib.Core.List.{List, [], ◌∷◌, map}
use Rattle.rules.specs.declared.Opening.{Opening}
use Rattle.rules.specs.declared.Answer.{Answer}
use Rattle.rules.specs.declared.Report.{Report}
use Rattle.rules.specs.Rules.{method_of, allowed}
use Rattle.rules.specs.Refusals.{opening_refusal, Accepted}
use Rattle.rules.proofs.RefusalsLaws.{opened}
use Rattle.rules.specs.Search.{quote_of}
use Rattle.rules.proofs.SearchLaws.{streak_allowed, t_least}
use Rattle.held.specs.declared.Entered.{Entered}
use Rattle.held.specs.Held.{fresh_of, held_report}
use Rattle.outcomes.specs.Sheet.{sheet_of}
use Rattle.journal.specs.Answers.{values}
use Rattle.journal.specs.Journal.{bracket_of, journal_report, journal_with, told_of, journal_after, told_all}
use Rattle.journal.specs.Spelling.{SheetText}
use Rattle.journal.specs.Reading.{ReadAs}
use Rattle.journal.specs.Run.{Call, by_value, into, offered, call_of, reports_of, search_after, journal_of, journal_at, holding, Remembered, EveryRun}
use Rattle.journal.proofs.SpellingLaws.{reading, has_text}
use Rattle.journal.proofs.JournalLaws.{Kept, kept_progress, report_list, at_most_answers, fewer_answers, kept_nested, kept_opposed}
use Rattle.journal.proofs.StreakLaws.{streak_back}
use Rattle.journal.proofs.RunLaws.{journal_fits, kept_with, call_answers, report_held, sheet_outcome, spellable_opening, spellable_journal}

module _ (o : Opening) (accepted : Accepted o) where
  -- ---- the journal at each place

  kept_after : (journal : List Answer) (offers : List Answer) → Kept o journal → Kept o (journal_after o journal offers)
  unfolding journal_after
  kept_after journal [] k = k
  kept_after journal (a ∷ offers) k = kept_after (journal_with o journal a) offers (kept_with o accepted journal k a)

  kept_run : (calls : List Call) → Kept o (journal_of o calls)
  kept_run calls = kept_after [] (map offered calls) tt

  -- ---- the calls

  one_call : (journal : List Answer) → Kept o journal → (c : Call)
      → call_of (holding o journal) c ≡ record { report = told_of o journal (offered c); search = holding o (journal_with o journal (offered c)) }
  one_call journal k (by_value a) = call_answers o accepted journal k a
  one_call journal k (into a) = call_answers o accepted journal k a

  reports_from : (journal : List Answer) (calls : List Call) → Kept o journal
      → reports_of (holding o journal) calls ≡ told_all o journal (map offered calls)
  unfolding reports_of told_all
  reports_from journal [] k = refl
  reports_from journal (c ∷ calls) k =
      ap (λ (r : Entered). r.report ∷ reports_of r.search calls) (one_call journal k c)
      ∙ ap (λ (rs : List Report). told_of o journal (offered c) ∷ rs)
      (reports_from (journal_with o journal (offered c)) calls (kept_with o accepted journal k (offered c)))

  search_from : (journal : List Answer) (calls : List Call) → Kept o journal
      → search_after (holding o journal) calls ≡ holding o (journal_after o journal (map offered calls))
  unfolding search_after journal_after
  search_from journal [] k = refl
  search_from journal (c ∷ calls) k =
      ap (λ (r : Entered). search_after r.search calls) (one_call journal k c)
      ∙ search_from (journal_with o journal (offered c)) calls (kept_with o accepted journal k (offered c))

  held_at : (calls : List Call) → held_report (search_after (fresh_of o) calls) ≡ journal_report o (journal_of o calls)
  held_at calls = ap held_report (search_from [] calls tt) ∙ report_held o accepted (journal_of o calls) (kept_run calls)

  -- ---- sheets of a journal

  module _ (journal : List Answer) (k : Kept o journal) (text : List ℕ) where
    spells : ReadAs text o journal ↔ SheetText text o journal
    spells =
        let e = (reading text).exactly o journal in
        (λ r. (e.0 r).0, λ s. e.1 (s, journal_fits o accepted journal k))

    sheet_report : SheetText text o journal → (sheet_of text).report ≡ journal_report o journal
    sheet_report s = ap (λ (e : Entered). e.report) (sheet_outcome o accepted journal k text (spells.1 s))

  has_sheet : (journal : List Answer) → Kept o journal → (text : List ℕ) × SheetText text o journal
  has_sheet journal k =
      has_text o journal (spellable_opening o (opened o accepted)) (spellable_journal o (opened o accepted) journal k)

  -- ---- the running number

  remembered : (journal : List Answer) → Kept o journal → 2 ≤ length journal → Remembered (allowed (method_of o)) o journal
  remembered [] k h = absurd (omega arith)
  remembered (a ∷ []) k h = absurd (omega arith)
  remembered (a ∷ b ∷ rest) k h =
      let walked = kept_progress o (a ∷ b ∷ rest) accepted k in
      record {
        bracket = bracket_of a b rest;
        walked = walked;
        streak = streak_back a b rest;
        most = streak_allowed o accepted (values (a ∷ b ∷ rest)) (bracket_of a b rest) walked;
      }

-- ---- the claim

pub run : EveryRun
unfolding quote_of
run o accepted calls =
    let kept : (i : ℕ) → Kept o (journal_at o calls i) = λ i. kept_run o accepted (take i calls) in
    record {
      reports = reports_from o accepted [] calls tt;
      search = search_from o accepted [] calls tt;
      before_stop = λ i s. omega (arith, fewer_answers o accepted (journal_at o calls i) (kept i) s);
      at_most = λ i. omega (arith, at_most_answers o accepted (journal_at o calls i) (kept i));
      nested = kept_nested o (opened o accepted) (journal_of o calls) (kept_run o accepted calls);
      opposed = kept_opposed o (opened o accepted) (journal_of o calls) (kept_run o accepted calls);
      streak = λ i. remembered o accepted (journal_at o calls i) (kept i);
      over_held = λ i. held_at o accepted (take i calls);
      over_list = λ i. report_list o accepted (journal_at o calls i) (kept i);
      over_sheet = λ i text s. sheet_report o accepted (journal_at o calls i) (kept i) text s;
      sheet = λ i. has_sheet o accepted (journal_at o calls i) (kept i);
      spelled = λ i text. spells o accepted (journal_at o calls i) (kept i) text;
      quoted = simp (eq-eqb (opening_refusal o) 0 accepted.accepted);
      least = t_least o (opened o accepted);
    }
