-- The claims about the panel hold. One exchange has its laws; a run makes the calls that enter the accepted values, one for each request that
-- enters one; and of these calls the run theorem says the rest.
-- Assumes nothing.
use Rattle.std.specs.Prelude.{ℕ, ◌≤◌, ◌≡◌, Bool, cond, ℤ, pos, length, get_or}
use Rattle.std.proofs.Math.Path.{refl, ap, subst}
use Rattle.std.proofs.Common.{sym, ◌∙◌, arith}
use Rattle.std.proofs.Math.Bool.{true, false}
use mathlib.Core.List.{List, [], ◌∷◌, ◌++◌, map, append-nil, append_assoc}
use Rattle.std.proofs.lemmas.Bool.{eqb-false}
use Rattle.std.proofs.lemmas.List.{length-map, length-replicate}
use Rattle.std.proofs.Math.Seq.{take-length}
use Rattle.integers.proofs.SignsLaws.{never}
use Rattle.rules.specs.declared.Opening.{Opening}
use Rattle.rules.specs.declared.Answer.{Answer}
use Rattle.rules.specs.declared.Report.{Report}
use Rattle.rules.specs.Rules.{slots}
use Rattle.rules.specs.Refusals.{Accepted}
use Rattle.rules.specs.Search.{is_refusal, report_of, most_of}
use Rattle.held.specs.declared.Search.{Search}
use Rattle.held.specs.declared.Entered.{Entered}
use Rattle.held.specs.Held.{fresh_of, held_report, enter_of}
use Rattle.journal.specs.Answers.{answer_value, values}
use Rattle.journal.specs.Journal.{journal_report, refusal_of, takes, journal_with, told_of, journal_after, told_all}
use Rattle.journal.specs.Run.{Call, by_value, offered, reports_of, search_after, journal_of, Run}
use Rattle.journal.proofs.RunHolds.{run}
use Rattle.registers.specs.Registers.{point_register, registers_at, registers_of, called_for}
use Rattle.registers.specs.Exchange.{write_single, function_of, value_of, illegal_value, fault_of, exception_reply, Exchange, exchange_of}
use Rattle.registers.specs.Requests.{search_then, enters, accepted_in, answer_for, offers, offers_in, calls_for, calls_in}
use Rattle.registers.specs.Claims.{PanelExchange, AllExchanged, NoneRefused, EveryPanelRun, FreshPanelRun, EveryFreshPanelRun}
use Rattle.registers.proofs.PanelLaws.{top_bit, fault_small, when_excepted, reply_short, not_entered, reads_only, entry_made, entry_taken}
use Rattle.registers.proofs.PanelLaws.{reads_count, reads_back, entry_offered, offer_made, refused_leaves, entered_long}

-- ---- one exchange

module _ (s : Search) (request : List ℕ) where
  abbrev entry : Entered
  entry = enter_of s (pos (called_for s)) (value_of request)

  abbrev told : Bool → Exchange
  told b = cond b (record { reply = exception_reply write_single illegal_value; search = s }) (record { reply = request; search = entry.search })

  offered_search : length s.slots ≡ slots → offers s request ≡ true → (exchange_of s request).search ≡ entry.search
  offered_search long n = ap (λ (x : Exchange). x.search) (offer_made s request n) ∙ go (is_refusal entry.report) refl
    where
      go : (b : Bool) → is_refusal entry.report ≡ b → (told b).search ≡ entry.search
      go true e = sym (refused_leaves s (pos (called_for s)) (value_of request) long e)
      go false e = refl

  offered_reply : offers s request ≡ true
      → (exchange_of s request).reply ≡ cond (is_refusal entry.report) (exception_reply write_single illegal_value) request
  offered_reply n = ap (λ (x : Exchange). x.reply) (offer_made s request n) ∙ go (is_refusal entry.report)
    where
      go : (b : Bool) → (told b).reply ≡ cond b (exception_reply write_single illegal_value) request
      go true = refl
      go false = refl

pub exchanged : (s : Search) (request : List ℕ) → PanelExchange s request
unfolding registers_of
exchanged s request =
    record {
      short = reply_short s request;
      excepted = λ e. ap (λ (x : Exchange). x.reply) (when_excepted s request e);
      two_bytes = λ e. ap (λ (x : Exchange). length x.reply) (when_excepted s request e);
      marked = λ e. rw (when_excepted s request e) (top_bit (function_of request));
      numbered = λ e. let some = eqb-false (fault_of s request) 0 e.fault in
          rw (when_excepted s request e) (omega (arith, some), fault_small s request);
      unaltered = λ e. ap (λ (x : Exchange). x.search) (when_excepted s request e);
      counted = reads_count s request;
      read_back = reads_back s request;
      read_only = reads_only s request;
      entry_only = not_entered s request;
      offered = offered_search s request;
      answered = offered_reply s request;
      entered = entry_offered s request;
      accepted = entry_taken s request;
      called = λ point n e. ap (λ (r : Report). get_or (registers_at r) point_register 0) e;
    }

-- ---- a run

all_exchanged : (s : Search) (requests : List (List ℕ)) → AllExchanged s requests
all_exchanged s [] = tt
all_exchanged s (request ∷ requests) = (exchanged s request, all_exchanged (exchange_of s request).search requests)

-- a run that leaves `after` and accepts vs
abbrev Ends : Search → Search → List ℤ → Type 0
Ends s after vs = (after ≡ search_after s (calls_for s vs)) × NoneRefused (reports_of s (calls_for s vs))

-- one request more
module _ (s : Search) (request : List ℕ) (requests : List (List ℕ)) where
  abbrev next : Search
  next = (exchange_of s request).search

  one_more : Ends next (search_then next requests) (accepted_in next requests)
      → Ends s (search_then s (request ∷ requests)) (accepted_in s (request ∷ requests))
  unfolding search_then accepted_in calls_for search_after reports_of
  one_more r = go (enters s request) refl
    where
      go : (b : Bool) → enters s request ≡ b
          → Ends s (search_then next requests) (cond b (value_of request ∷ accepted_in next requests) (accepted_in next requests))
      go true e =
          let same = ap (λ (x : Exchange). x.search) (entry_made s request e) in (
            r.0 ∙ ap (λ (x : Search). search_after x (calls_for x (accepted_in next requests))) same,
            (entry_taken s request e, subst (λ (x : Search). NoneRefused (reports_of x (calls_for x (accepted_in next requests)))) same r.1),
          )
      go false e = subst (λ (x : Search). Ends x (search_then next requests) (accepted_in next requests)) (not_entered s request e) r

run_ends : (s : Search) (requests : List (List ℕ)) → Ends s (search_then s requests) (accepted_in s requests)
unfolding search_then accepted_in calls_for search_after reports_of
run_ends s [] = (refl, tt)
run_ends s (request ∷ requests) = one_more s request requests (run_ends (exchange_of s request).search requests)

-- the values offered
module _ (s : Search) (request : List ℕ) (requests : List (List ℕ)) (long : length s.slots ≡ slots) where
  next_long : length (exchange_of s request).search.slots ≡ slots
  next_long = go (enters s request) refl
    where
      go : (b : Bool) → enters s request ≡ b → length (exchange_of s request).search.slots ≡ slots
      go true e =
          rw (offered_search s request long (entry_offered s request e)) (entered_long s (pos (called_for s)) (value_of request) long)
      go false e = rw (not_entered s request e) long

  one_offered : search_then (next s request requests) requests ≡ search_after (next s request requests) (offers_in (next s request requests) requests)
      → search_then s (request ∷ requests) ≡ search_after s (offers_in s (request ∷ requests))
  unfolding search_then offers_in search_after
  one_offered r = go (offers s request) refl
    where
      rest : List Call
      rest = offers_in (next s request requests) requests

      -- what offers nothing enters nothing
      still : offers s request ≡ false → (exchange_of s request).search ≡ s
      still e = not_entered s request (none (enters s request) refl)
        where
          none : (b : Bool) → enters s request ≡ b → b ≡ false
          none true f = never (sym (entry_offered s request f) ∙ e)
          none false f = refl

      go : (b : Bool) → offers s request ≡ b
          → search_then (next s request requests) requests ≡ search_after s (cond b (by_value (answer_for s (value_of request)) ∷ rest) rest)
      go true e = r ∙ ap (λ (x : Search). search_after x rest) (offered_search s request long e)
      go false e = r ∙ ap (λ (x : Search). search_after x rest) (still e)

run_offered : (s : Search) (requests : List (List ℕ)) → length s.slots ≡ slots → search_then s requests ≡ search_after s (offers_in s requests)
unfolding search_then offers_in search_after
run_offered s [] long = refl
run_offered s (request ∷ requests) long =
    one_offered s request requests long (run_offered (exchange_of s request).search requests (next_long s request requests long))

pub panel_run : EveryPanelRun
panel_run s requests =
    record { each = all_exchanged s requests; offered = run_offered s requests; search = (run_ends s requests).0; accepted = (run_ends s requests).1 }

-- ---- a run from a fresh search

-- an answer that the journal does not refuse is put at its end
journal_more : (o : Opening) (journal : List Answer) (a : Answer) → is_refusal (told_of o journal a) ≡ false → journal_with o journal a ≡ journal ++ (a ∷ [])
unfolding journal_with told_of
journal_more o journal a = go (takes o journal a)
  where
    go : (b : Bool)
        → is_refusal (cond b (journal_report o (journal ++ (a ∷ []))) (Report.Refused (refusal_of o journal a) (length journal))) ≡ false
        → cond b (journal ++ (a ∷ [])) journal ≡ journal ++ (a ∷ [])
    go true h = refl
    go false h = never h

journal_grows : (o : Opening) (journal offers : List Answer) → NoneRefused (told_all o journal offers) → journal_after o journal offers ≡ journal ++ offers
unfolding journal_after told_all
journal_grows o journal [] h = sym (append-nil journal)
journal_grows o journal (a ∷ offers) h =
    journal_grows o (journal_with o journal a) offers h.1
    ∙ ap (λ (j : List Answer). j ++ offers) (journal_more o journal a h.0)
    ∙ append_assoc journal (a ∷ []) offers

-- the values that the calls offer
values_offered : (s : Search) (vs : List ℤ) → values (map offered (calls_for s vs)) ≡ vs
unfolding calls_for
values_offered s [] = refl
values_offered s (v ∷ vs) = ap (λ (ws : List ℤ). v ∷ ws) (values_offered (enter_of s (pos (called_for s)) v).search vs)

module _ (o : Opening) (accepted : Accepted o) (requests : List (List ℕ)) where
  abbrev calls : List Call
  calls = calls_in (fresh_of o) requests

  abbrev made : List ℤ
  made = accepted_in (fresh_of o) requests

  theorem : Run o calls
  theorem = run o accepted calls

  ends : search_then (fresh_of o) requests ≡ search_after (fresh_of o) calls
  ends = (run_ends (fresh_of o) requests).0

  are : values (journal_of o calls) ≡ made
  are =
      ap values (journal_grows o [] (map offered calls) (subst NoneRefused theorem.reports (run_ends (fresh_of o) requests).1))
      ∙ values_offered (fresh_of o) made

  -- the run theorem at the last place
  at_end : held_report (search_after (fresh_of o) calls) ≡ report_of o made
  at_end =
      let e = take-length calls in
      (rw e at (theorem.over_held (length calls))) ∙ sym (rw e at (theorem.over_list (length calls))) ∙ ap (report_of o) are

  few_made : length made ≤ most_of o
  few_made =
      let n : length (values (journal_of o calls)) ≡ length (journal_of o calls) = length-map (journal_of o calls) answer_value in
      subst (λ (vs : List ℤ). length vs ≤ most_of o) are (rw n (rw (take-length calls) at (theorem.at_most (length calls))))

  fresh_run : FreshPanelRun o requests
  unfolding registers_of
  fresh_run =
      let tried = run o accepted (offers_in (fresh_of o) requests) in
      record {
        offered = tried;
        journal = run_offered (fresh_of o) requests (length-replicate slots (pos 0)) ∙ tried.search;
        run = theorem;
        search = ends ∙ theorem.search;
        values_are = are;
        few = few_made;
        registers_are = ap registers_at (ap held_report ends ∙ at_end);
      }

pub fresh_panel_run : EveryFreshPanelRun
fresh_panel_run o accepted requests = fresh_run o accepted requests
