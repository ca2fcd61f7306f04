-- A dryer's search after its own accepted calls: it holds the opening accepted last and the answers accepted since, as the journal does; and
-- an accepted call reports the search as it then stands.
-- Assumes nothing.
use Rattle.std.specs.Prelude.{ℕ, ◌≡◌, eqb, length}
use Rattle.std.proofs.Math.Path.{refl, ap, subst}
use Rattle.std.proofs.Common.{sym, ◌∙◌, eqb-true}
use Rattle.std.proofs.Math.Bool.{Bool, true, false, cond}
use mathlib.Core.List.{List, [], ◌∷◌, ◌++◌, map}
use Rattle.integers.proofs.SignsLaws.{never}
use Rattle.rules.specs.declared.Opening.{Opening}
use Rattle.rules.specs.declared.Answer.{Answer}
use Rattle.rules.specs.declared.Progress.{Progress}
use Rattle.rules.specs.declared.Report.{Report}
use Rattle.rules.specs.Refusals.{opening_refusal, Accepted}
use Rattle.rules.specs.Search.{is_refused, is_refusal, report_at, report_of}
use Rattle.held.specs.declared.Search.{Search}
use Rattle.held.specs.declared.Entered.{Entered}
use Rattle.held.specs.Held.{fresh_of, blank, reopen_of, standing_of, held_report, with_value, tried_of, enter_of}
use Rattle.held.proofs.HeldLaws.{blank_entry}
use Rattle.journal.specs.Journal.{journal_report, refusal_of, takes, journal_with, told_of, journal_after}
use Rattle.journal.proofs.JournalLaws.{Kept as Made}
use Rattle.journal.specs.Run.{into, offered, holding}
use Rattle.journal.proofs.RunLaws.{kept_with, call_answers, report_held}
use Rattle.journal.proofs.RunHolds.{run}
use Rattle.dispatching.specs.declared.Dispatcher.{Dispatcher}
use Rattle.dispatching.specs.Dispatching.{dryers, search_at, dryer_report}
use Rattle.dispatching.proofs.DispatchingLaws.{report_there, lone_at, left_by, call_cases, due_dryer}
use Rattle.dispatching.specs.Calls.{Call, opening, answer, call_of, dryer_of, dispatcher_after, own_calls, lone_of, History, none, since, noted, history_of}
use Rattle.dispatching.specs.Run.{Kept}
use Rattle.dispatching.proofs.RunLaws.{left_same, own_run}

-- ---- an accepted opening

module _ (s : Search) (o : Opening) where
  -- Q holds of what it answers where it does so of the fresh search
  opening_accepted : (Q : Entered → Type 0) → (Accepted o → Q (record { report = report_of o []; search = fresh_of o }))
      → is_refusal (reopen_of s o).report ≡ false → Q (reopen_of s o)
  unfolding reopen_of
  opening_accepted Q fresh = go (eqb (opening_refusal o) 0) refl
    where
      opens : Bool → Entered
      opens b = cond b (record { report = report_of o []; search = fresh_of o }) (record { report = Report.Refused (opening_refusal o) 0; search = s })

      go : (b : Bool) → eqb (opening_refusal o) 0 ≡ b → is_refusal (opens b).report ≡ false → Q (opens b)
      go true e t = fresh (record { accepted = eqb-true (opening_refusal o) 0 e })
      go false e t = never t

-- ---- an accepted answer

refusal_of_lem : (o : Opening) (p : Progress) → is_refused p ≡ true → is_refusal (report_at o p) ≡ true
unfolding report_at
refusal_of_lem o Progress.Begun e = never (sym e)
refusal_of_lem o (Progress.First v) e = never (sym e)
refusal_of_lem o (Progress.Bracketed k) e = never (sym e)
refusal_of_lem o (Progress.Refused n i) e = refl

-- it reports the search as it then stands
enter_told : (s : Search) (a : Answer) → is_refusal (enter_of s a.point a.value).report ≡ false
    → (enter_of s a.point a.value).report ≡ held_report (enter_of s a.point a.value).search
unfolding enter_of
enter_told s a = go (is_refused tried) refl
  where
    tried : Progress
    tried = tried_of s a.point a.value

    enters : Bool → Entered
    enters b =
        cond b (record { report = report_at s.opening tried; search = s })
        (record { report = held_report (with_value s a.value); search = with_value s a.value })

    go : (b : Bool) → is_refused tried ≡ b → is_refusal (enters b).report ≡ false → (enters b).report ≡ held_report (enters b).search
    go true e t = never (sym (refusal_of_lem s.opening tried e) ∙ t)
    go false e t = refl

-- so does every accepted call
lone_told : (s : Search) (c : Call) → is_refusal (lone_of s c).report ≡ false → (lone_of s c).report ≡ held_report (lone_of s c).search
unfolding held_report standing_of report_of
lone_told s (opening i o) t = opening_accepted s o (λ e. e.report ≡ held_report e.search) (λ a. refl) t
lone_told s (answer i a) t = enter_told s a t

pub call_told : (d : Dispatcher) → length d.searches ≡ dryers → (c : Call) → is_refusal (call_of d c).report ≡ false
    → (call_of d c).report ≡ dryer_report (call_of d c).dispatcher (dryer_of c)
call_told d six c =
    call_cases d (λ r. is_refusal r.report ≡ false → r.report ≡ dryer_report r.dispatcher (dryer_of c)) (λ r t f. never (sym t ∙ f)) c
    (λ due t f.
    let h = due_dryer d c due in
    lone_told (search_at d (dryer_of c)) c t
    ∙ sym (report_there (left_by d c (lone_at d c).search) (dryer_of c) h ∙ ap held_report (left_same d six c (lone_at d c).search h)))

-- ---- a search holds an opening and answers

pub record Booked (s : Search) (o : Opening) (answers : List Answer) : Type 0 where
  pub accepted : Accepted o
  pub made : Made o answers
  pub all : journal_after o [] answers ≡ answers
  pub search : s ≡ holding o answers

-- the journal's run with one answer more
after_more : (o : Opening) (journal offers : List Answer) (a : Answer)
    → journal_after o journal (offers ++ (a ∷ [])) ≡ journal_with o (journal_after o journal offers) a
unfolding journal_after
after_more o journal [] a = refl
after_more o journal (x ∷ offers) a = after_more o (journal_with o journal x) offers a

module _ (o : Opening) (answers : List Answer) (a : Answer) where
  -- what is told of it is no refusal, so it is taken
  takes_it : is_refusal (told_of o answers a) ≡ false → takes o answers a ≡ true
  unfolding told_of
  takes_it = go (takes o answers a)
    where
      go : (b : Bool) → is_refusal (cond b (journal_report o (answers ++ (a ∷ []))) (Report.Refused (refusal_of o answers a) (length answers))) ≡ false
          → b ≡ true
      go true t = refl
      go false t = never t

  booked_more : (s : Search) → Booked s o answers → is_refusal (enter_of s a.point a.value).report ≡ false
      → Booked (enter_of s a.point a.value).search o (answers ++ (a ∷ []))
  unfolding journal_with
  booked_more s b t =
      let is = ap (λ (h : Search). enter_of h a.point a.value) b.search ∙ call_answers o b.accepted answers b.made a in
      let taken = takes_it (sym (ap (λ (e : Entered). is_refusal e.report) is) ∙ t) in
      let with_it : journal_with o answers a ≡ answers ++ (a ∷ []) = simp taken in
      record {
        accepted = b.accepted;
        made = subst (Made o) with_it (kept_with o b.accepted answers b.made a);
        all = after_more o [] answers a ∙ ap (λ (j : List Answer). journal_with o j a) b.all ∙ with_it;
        search = ap (λ (e : Entered). e.search) is ∙ ap (holding o) with_it;
      }

-- N is what is known of a search for which no opening was accepted; an accepted answer does not undo it
module _ (N : Search → Type 0)
    (stays : (s : Search) (a : Answer) → N s → is_refusal (enter_of s a.point a.value).report ≡ false → N (enter_of s a.point a.value).search)
  where
    abbrev pub Holds : Search → History → Type 0
    Holds s none = N s
    Holds s (since o answers) = Booked s o answers

    holds_noted : (s : Search) (h : History) (c : Call) → Holds s h → is_refusal (lone_of s c).report ≡ false → Holds (lone_of s c).search (noted h c)
    unfolding journal_after
    holds_noted s h (opening i o) p t =
        opening_accepted s o (λ e. Booked e.search o []) (λ a. record { accepted = a; made = tt; all = refl; search = refl }) t
    holds_noted s none (answer i a) p t = stays s a p t
    holds_noted s (since o answers) (answer i a) p t = booked_more o answers a s p t

    history_more : (h : History) (cs : List Call) (c : Call) → history_of h (cs ++ (c ∷ [])) ≡ noted (history_of h cs) c
    history_more h [] c = refl
    history_more h (x ∷ cs) c = history_more (noted h x) cs c

    pub holds_calls : (d : Dispatcher) → length d.searches ≡ dryers → (i : ℕ) → N (search_at d i) → (calls : List Call)
        → Holds (search_at (dispatcher_after d calls) i) (history_of none (own_calls d i calls))
    holds_calls d six i n calls = own_run i (λ s cs. Holds s (history_of none cs)) one d six [] n calls
      where
        one : (d' : Dispatcher) (before : List Call) (c : Call) → dryer_of c ≡ i → Holds (search_at d' i) (history_of none before)
            → is_refusal (lone_at d' c).report ≡ false → Holds (lone_at d' c).search (history_of none (before ++ (c ∷ [])))
        one d' before c is q t =
            subst (Holds (lone_at d' c).search) (sym (history_more none before c))
            (holds_noted (search_at d' (dryer_of c)) (history_of none before) c
            (subst (λ (j : ℕ). Holds (search_at d' j) (history_of none before)) (sym is) q) t)

-- ---- the claim's words

offered_into : (answers : List Answer) → map offered (map into answers) ≡ answers
offered_into [] = refl
offered_into (a ∷ answers) = ap (λ (l : List Answer). a ∷ l) (offered_into answers)

pub booked_kept : (s : Search) (o : Opening) (answers : List Answer) → Booked s o answers → Kept s o answers
booked_kept s o answers b =
    record {
      accepted = b.accepted;
      booked = ap (journal_after o []) (offered_into answers) ∙ b.all;
      search = b.search;
      report = ap held_report b.search ∙ report_held o b.accepted answers b.made;
      run = run o b.accepted (map into answers);
    }

pub blank_stays : (s : Search) (a : Answer) → s ≡ blank → is_refusal (enter_of s a.point a.value).report ≡ false
    → (enter_of s a.point a.value).search ≡ blank
blank_stays s a e t =
    let is = ap (λ (h : Search). enter_of h a.point a.value) e ∙ blank_entry a.point a.value in
    never (sym (ap (λ (r : Entered). is_refusal r.report) is) ∙ t)
