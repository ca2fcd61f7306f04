-- The laws of runs: what one call does to the one that goes on, to the mark and to a dryer's own search; and then a run, by induction. They
-- know nothing of the counts.
-- Assumes nothing.
use Rattle.std.specs.Prelude.{ℕ, zero, suc, ◌+◌, ◌≤◌, ◌<◌, ◌≡◌, refl, ◌≢◌, Bool, true, false, cond, not, ◌||◌, Some, eqb, length, take, drop}
use Rattle.std.proofs.Common.{sym, ap, ◌∙◌, arith, eqb-true, length-set, length-append, get_or-set_same, get_or-set_other}
use Rattle.std.proofs.Math.Path.{subst}
use mathlib.Core.List.{List, [], ◌∷◌, ◌++◌, append-nil, append_assoc}
use Rattle.std.proofs.lemmas.Bool.{eqb-false}
use Rattle.integers.proofs.SignsLaws.{never}
use Rattle.rules.specs.Search.{is_refusal}
use Rattle.held.specs.declared.Search.{Search}
use Rattle.held.specs.Held.{blank}
use Rattle.dispatching.specs.declared.Dispatcher.{Dispatcher}
use Rattle.dispatching.specs.declared.Dispatched.{Dispatched}
use Rattle.dispatching.specs.Dispatching.{dryers, search_at, turn_of}
use Rattle.dispatching.proofs.DispatchingLaws.{left_by, lone_at, call_cases, due_dryer, Queued, nearer, as_near}
use Rattle.dispatching.specs.Calls.{Call, opening, answer, call_of, dryer_of, dispatcher_after, serves, served_by, servings, among}
use Rattle.dispatching.specs.Calls.{own_by, own_calls, lone_after, Due}

-- ---- a run in two parts

pub after_append : (d : Dispatcher) (calls more : List Call) → dispatcher_after d (calls ++ more) ≡ dispatcher_after (dispatcher_after d calls) more
unfolding dispatcher_after
after_append d [] more = refl
after_append d (c ∷ calls) more = after_append (call_of d c).dispatcher calls more

pub take_more : (calls : List Call) (p n : ℕ) → take (p + n) calls ≡ take p calls ++ take n (drop p calls)
take_more calls zero n = let e : 0 + n ≡ n = omega arith in rw e
take_more [] (suc p) n = let e : suc p + n ≡ suc (p + n) = omega arith in rw e (none n)
  where
    none : (n : ℕ) → ◌≡◌ {A = List Call} [] (take n [])
    none zero = refl
    none (suc n) = refl
take_more (c ∷ calls) (suc p) n =
    let e : suc p + n ≡ suc (p + n) = omega arith in
    rw e (ap (λ (l : List Call). c ∷ l) (take_more calls p n))

-- ---- one call

-- there are six searches, before and after
pub six_call : (d : Dispatcher) (c : Call) → length d.searches ≡ dryers → length (call_of d c).dispatcher.searches ≡ dryers
six_call d c six = call_cases d (λ r. length r.dispatcher.searches ≡ dryers) (λ r t. six) c (λ due t. left c (lone_at d c).search)
  where
    left : (c : Call) (s : Search) → length (left_by d c s).searches ≡ dryers
    left (opening i o) s = length-set d.searches i s ∙ six
    left (answer i a) s = length-set d.searches i s ∙ six

pub six_calls : (d : Dispatcher) → length d.searches ≡ dryers → (calls : List Call) → length (dispatcher_after d calls).searches ≡ dryers
unfolding dispatcher_after
six_calls d six [] = six
six_calls d six (c ∷ calls) = six_calls (call_of d c).dispatcher (six_call d c six) calls

-- a refusal alters nothing
pub refusal_keeps : (d : Dispatcher) (c : Call) → is_refusal (call_of d c).report ≡ true → (call_of d c).dispatcher ≡ d
refusal_keeps d c = call_cases d (λ r. is_refusal r.report ≡ true → r.dispatcher ≡ d) (λ r t e. refl) c (λ due t e. never (sym e ∙ t))

-- whom a call serves, from its report
abbrev served_in : Call → Dispatched → List ℕ
served_in c r = cond (not (is_refusal r.report)) (serves c) []

-- P holds of whom a call serves and of what it leaves where it does so of nobody and the same dispatcher, and of the call accepted
module _ (d : Dispatcher) (c : Call) (P : List ℕ → Dispatcher → Type 0) (same : P [] d)
    (accepted : Due d c → P (serves c) (left_by d c (lone_at d c).search)) where
  pub served_cases : P (served_by d c) (call_of d c).dispatcher
  served_cases = call_cases d (λ r. P (served_in c r) r.dispatcher) (λ r t. rw t same) c (λ due t. rw t (accepted due))

nobody_served : {X : Type 0} {i : ℕ} → [] ≡ i ∷ [] → X
nobody_served e = let z : ◌≡◌ {A = ℕ} 0 1 = cc in absurd (omega arith)

one_served : {i j : ℕ} → j ∷ [] ≡ i ∷ [] → j ≡ i
one_served e = cc

-- whoever is served had the turn, and is then the last served
pub served_in_turn : (d : Dispatcher) (c : Call) (i : ℕ) → served_by d c ≡ i ∷ [] → (turn_of d ≡ Some i) × ((call_of d c).dispatcher.last ≡ i)
served_in_turn d c i =
    served_cases d c (λ js d'. js ≡ i ∷ [] → (turn_of d ≡ Some i) × (d'.last ≡ i)) nobody_served
    (λ due. accepted c due (lone_at d c).search)
  where
    accepted : (c : Call) → Due d c → (s : Search) → serves c ≡ i ∷ [] → (turn_of d ≡ Some i) × ((left_by d c s).last ≡ i)
    accepted (opening j o) due s e = nobody_served e
    accepted (answer j a) due s e = (due.1 ∙ ap Some (one_served e), one_served e)

-- where nobody is served, the mark stays
pub unserved_mark : (d : Dispatcher) (c : Call) → served_by d c ≡ [] → (call_of d c).dispatcher.last ≡ d.last
unserved_mark d c = served_cases d c (λ js d'. js ≡ [] → d'.last ≡ d.last) (λ e. refl) (λ due. accepted c (lone_at d c).search)
  where
    accepted : (c : Call) (s : Search) → serves c ≡ [] → (left_by d c s).last ≡ d.last
    accepted (opening j o) s e = refl
    accepted (answer j a) s e = nobody_served (sym e)

-- ---- the one that waits

or_again : (t a b c : Bool) → a ≡ b || c → t || a ≡ (t || b) || c
or_again true a b c e = refl
or_again false a b c e = e

among_append : (i : ℕ) (a b : List ℕ) → among i (a ++ b) ≡ among i a || among i b
among_append i [] b = refl
among_append i (j ∷ a) b = or_again (eqb j i) (among i (a ++ b)) (among i a) (among i b) (among_append i a b)

or_left : (a b : Bool) → a || b ≡ false → a ≡ false
or_left true b e = never e
or_left false b e = refl

or_right : (a b : Bool) → a || b ≡ false → b ≡ false
or_right true b e = never e
or_right false b e = e

-- where i is not among the served, it goes on still, and each of them brought it nearer
pub record Nearer (i k : ℕ) (served : List ℕ) (d : Dispatcher) : Type 0 where
  pub left : ℕ
  pub fewer : left + length served ≤ k
  pub queued : Queued d i left

pub after_call : (d : Dispatcher) (i k : ℕ) → Queued d i k → (c : Call) → among i (served_by d c) ≡ false → Nearer i k (served_by d c) (call_of d c).dispatcher
after_call d i k w c =
    served_cases d c (λ js d'. among i js ≡ false → Nearer i k js d') (λ m. record { left = k; fewer = omega arith; queued = w })
    (λ due. accepted c due (lone_at d c).search)
  where
    accepted : (c : Call) → Due d c → (s : Search) → among i (serves c) ≡ false → Nearer i k (serves c) (left_by d c s)
    accepted (opening j o) due s m = record { left = k; fewer = omega arith; queued = as_near d i k w j s due.1 }
    accepted (answer j a) due s m =
        let n = nearer d i k w j s due.0 due.1 (eqb-false j i (or_left (eqb j i) false m)) in
        record { left = n.0; fewer = omega (arith, n.1.0); queued = n.1.1 }

pub after_calls : (d : Dispatcher) (i k : ℕ) → Queued d i k → (calls : List Call) → among i (servings d calls) ≡ false
    → Nearer i k (servings d calls) (dispatcher_after d calls)
unfolding servings dispatcher_after
after_calls d i k w [] m = record { left = k; fewer = omega arith; queued = w }
after_calls d i k w (c ∷ calls) m =
    let next = (call_of d c).dispatcher in
    let both : among i (served_by d c) || among i (servings next calls) ≡ false = sym (among_append i (served_by d c) (servings next calls)) ∙ m in
    let n = after_call d i k w c (or_left (among i (served_by d c)) (among i (servings next calls)) both) in
    let ns = after_calls next i n.left n.queued calls (or_right (among i (served_by d c)) (among i (servings next calls)) both) in
    record { left = ns.left; fewer = simp length-append (omega (arith, n.fewer, ns.fewer)); queued = ns.queued }

-- ---- a dryer's own search

-- an accepted call puts the search at its dryer, and at no other
pub left_same : (d : Dispatcher) → length d.searches ≡ dryers → (c : Call) (s : Search) → dryer_of c < dryers → search_at (left_by d c s) (dryer_of c) ≡ s
left_same d six (opening i o) s h = get_or-set_same d.searches i s blank (omega (arith, six, h))
left_same d six (answer i a) s h = get_or-set_same d.searches i s blank (omega (arith, six, h))

left_other : (d : Dispatcher) (c : Call) (s : Search) (i : ℕ) → i ≢ dryer_of c → search_at (left_by d c s) i ≡ search_at d i
left_other d (opening j o) s i ne = get_or-set_other d.searches j i s blank ne
left_other d (answer j a) s i ne = get_or-set_other d.searches j i s blank ne

-- a call for one dryer changes no other dryer's search
pub others_keep : (d : Dispatcher) (c : Call) (i : ℕ) → i ≢ dryer_of c → search_at (call_of d c).dispatcher i ≡ search_at d i
others_keep d c i ne =
    call_cases d (λ r. search_at r.dispatcher i ≡ search_at d i) (λ r t. refl) c (λ due t. left_other d c (lone_at d c).search i ne)

-- what a call brings to dryer i: nothing, or where it is accepted and for i, itself
module _ (d : Dispatcher) (six : length d.searches ≡ dryers) (i : ℕ) (c : Call) (Q : Search → List Call → Type 0) (same : Q (search_at d i) [])
    (here : dryer_of c ≡ i → is_refusal (lone_at d c).report ≡ false → Q (lone_at d c).search (c ∷ [])) where
  pub own_cases : Q (search_at (call_of d c).dispatcher i) (own_by d i c)
  own_cases =
      call_cases d (λ r. Q (search_at r.dispatcher i) (cond (not (is_refusal r.report)) (cond (eqb (dryer_of c) i) (c ∷ []) []) []))
      (λ r t. rw t same) c (λ due t. rw t (go due t (eqb (dryer_of c) i) refl))
    where
      go : Due d c → is_refusal (lone_at d c).report ≡ false → (b : Bool) → eqb (dryer_of c) i ≡ b
          → Q (search_at (left_by d c (lone_at d c).search) i) (cond b (c ∷ []) [])
      go due t true e =
          let is = eqb-true (dryer_of c) i e in
          subst (λ (s : Search). Q s (c ∷ []))
          (sym (ap (search_at (left_by d c (lone_at d c).search)) (sym is) ∙ left_same d six c (lone_at d c).search (due_dryer d c due))) (here is t)
      go due t false e =
          subst (λ (s : Search). Q s []) (sym (left_other d c (lone_at d c).search i (λ m. eqb-false (dryer_of c) i e (sym m)))) same

-- a run, by induction: Q holds of a dryer's search and its own calls so far, and goes on holding with each accepted call for it
module _ (i : ℕ) (Q : Search → List Call → Type 0)
    (one : (d : Dispatcher) (before : List Call) (c : Call) → dryer_of c ≡ i → Q (search_at d i) before → is_refusal (lone_at d c).report ≡ false
    → Q (lone_at d c).search (before ++ (c ∷ []))) where
  pub own_run : (d : Dispatcher) → length d.searches ≡ dryers → (before : List Call) → Q (search_at d i) before → (calls : List Call)
      → Q (search_at (dispatcher_after d calls) i) (before ++ own_calls d i calls)
  unfolding dispatcher_after own_calls
  own_run d six before q [] = subst (Q (search_at d i)) (sym (append-nil before)) q
  own_run d six before q (c ∷ calls) =
      let next = (call_of d c).dispatcher in
      subst (Q (search_at (dispatcher_after next calls) i)) (append_assoc before (own_by d i c) (own_calls next i calls))
      (own_run next (six_call d c six) (before ++ own_by d i c)
      (own_cases d six i c (λ s cs. Q s (before ++ cs)) (subst (Q (search_at d i)) (sym (append-nil before)) q) (λ is t. one d before c is q t)) calls)

-- the search at a dryer is that of its own accepted calls alone
pub own_calls_lem : (d : Dispatcher) → length d.searches ≡ dryers → (i : ℕ) (calls : List Call)
    → search_at (dispatcher_after d calls) i ≡ lone_after (search_at d i) (own_calls d i calls)
own_calls_lem d six i calls = own_run i (λ s cs. s ≡ lone_after (search_at d i) cs) one d six [] refl calls
  where
    more : (s : Search) (cs : List Call) (c : Call) → lone_after s (cs ++ (c ∷ [])) ≡ lone_after (lone_after s cs) (c ∷ [])
    more s [] c = refl
    more s (x ∷ cs) c = more (lone_after s (x ∷ [])) cs c

    one : (d' : Dispatcher) (before : List Call) (c : Call) → dryer_of c ≡ i → search_at d' i ≡ lone_after (search_at d i) before
        → is_refusal (lone_at d' c).report ≡ false → (lone_at d' c).search ≡ lone_after (search_at d i) (before ++ (c ∷ []))
    one d' before c is q t =
        ap (λ (s : Search). lone_after s (c ∷ [])) (ap (search_at d') is ∙ q) ∙ sym (more (search_at d i) before c)
