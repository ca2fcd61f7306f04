-- The calls of a run, made to a fresh search of an accepted opening, are the journal's, by the claim about whole runs; a refused
-- opening makes none.
-- Assumes nothing.
use Rattle.std.specs.Prelude.{ℕ, ◌≡◌, Bool, ℤ}
use Rattle.std.proofs.Math.Path.{refl, ap}
use Rattle.std.proofs.Common.{sym, ap₂, ◌∙◌}
use Rattle.std.proofs.Math.Bool.{true, false}
use mathlib.Core.List.{List, []}
use borrow.Author.Tests.{eqb-true, eq-eqb}
use Rattle.std.proofs.Math.Dec.{eqb}
use Rattle.integers.proofs.SignsLaws.{never}
use Rattle.rules.specs.declared.Opening.{Opening}
use Rattle.rules.specs.declared.Report.{Report}
use Rattle.rules.specs.Refusals.{opening_refusal, Accepted}
use Rattle.rules.specs.Search.{begin_of, progress_of, report_at, is_refusal, report_of}
use Rattle.rules.specs.Rows.{written_over}
use Rattle.held.specs.declared.Search.{Search}
use Rattle.held.specs.declared.Entered.{Entered}
use Rattle.held.specs.Held.{fresh_of, reopen_of, open_of}
use Rattle.journal.specs.Journal.{point_called, journal_report}
use Rattle.journal.specs.Run.{Call, search_after, reports_of}
use Rattle.journal.proofs.RunHolds.{run}
use Rattle.replay.specs.Replay.{calls_in, replay_of, list_after, Replays}
use Rattle.replay.specs.Calls.{CallsMade}

module _ (o : Opening) where
  -- the report of an accepted opening is the journal's before the first answer
  first_report : Accepted o → report_of o [] ≡ journal_report o []
  unfolding report_of progress_of begin_of report_at journal_report point_called
  first_report a = simp (eq-eqb (opening_refusal o) 0 a.accepted)

  opened_fresh : Accepted o → open_of o ≡ record { report = journal_report o []; search = fresh_of o }
  unfolding reopen_of
  opened_fresh a =
      simp (eq-eqb (opening_refusal o) 0 a.accepted)
      (ap (λ (r : Report). record { report = r; search = fresh_of o }) (first_report a))

  -- an opening is refused or accepted as its report is a refusal or none
  pub refused_is : is_refusal (open_of o).report ≡ true → eqb (opening_refusal o) 0 ≡ false
  unfolding journal_report
  refused_is h = go (eqb (opening_refusal o) 0) refl
    where
      go : (b : Bool) → eqb (opening_refusal o) 0 ≡ b → b ≡ false
      go true e =
          let f = opened_fresh (record { accepted = eqb-true (opening_refusal o) 0 e }) in
          never (sym h ∙ ap (λ (r : Entered). is_refusal r.report) f)
      go false e = refl

  pub accepted_is : is_refusal (open_of o).report ≡ false → Accepted o
  unfolding reopen_of
  accepted_is h = go (eqb (opening_refusal o) 0) refl
    where
      go : (b : Bool) → eqb (opening_refusal o) 0 ≡ b → Accepted o
      go true e = record { accepted = eqb-true (opening_refusal o) 0 e }
      go false e = never (simp e at h)

-- e is what the opening opens as, and b says whether that is a refusal
module _ (o : Opening) (ks : List ℕ) (xs vs : List ℤ) (before : List ℕ) {e : Entered} {b : Bool}
    (opens : e ≡ open_of o) (tells : b ≡ is_refusal e.report) where
  abbrev calls : List Call
  calls = calls_in ks xs vs before

  is_so : is_refusal (open_of o).report ≡ b
  is_so = sym (tells ∙ ap (λ (x : Entered). is_refusal x.report) opens)

  -- a refused opening: it is what is answered, and the list stays
  pub replays_refused : b ≡ true → Replays o ks xs vs before (record { opened = e.report; search = e.search }) before
  unfolding reopen_of replay_of list_after
  replays_refused h =
      let f = refused_is o (is_so ∙ h) in
      record {
        returned = ap (λ (x : Entered). record { opened = x.report; search = x.search }) opens ∙ simp f;
        written = simp f;
        run = λ a. never (sym (eq-eqb (opening_refusal o) 0 a.accepted) ∙ f);
      }

  -- an accepted one: the calls made to its fresh search
  pub replays_accepted : b ≡ false → {r : Search} {after : List ℕ} → CallsMade e.search ks xs vs before r after
      → Replays o ks xs vs before (record { opened = e.report; search = r }) after
  unfolding replay_of list_after
  replays_accepted h made =
      let a = accepted_is o (is_so ∙ h) in
      let f = opens ∙ opened_fresh o a in
      let report = ap (λ (x : Entered). x.report) f in
      let fresh = ap (λ (x : Entered). x.search) f in
      let claim = run o a calls in
      let left = made.left ∙ ap (λ (s : Search). search_after s calls) fresh ∙ claim.search in
      let reports = ap (λ (s : Search). reports_of s calls) fresh ∙ claim.reports in
      let accepted = eq-eqb (opening_refusal o) 0 a.accepted in
      record {
        returned = simp accepted (ap₂ (λ (t : Report) (s : Search). record { opened = t; search = s }) report left);
        written = simp accepted (made.written ∙ ap (λ (rs : List Report). written_over rs before) reports);
        run = λ b. run o b calls;
      }
