-- The laws of the counts: what one call does to each of them, to their sum and to the old count; and then a run, by induction. Besides, that
-- they alter nothing else.
-- Assumes nothing.
use Rattle.std.specs.Prelude.{ℕ, zero, suc, ◌+◌, ◌≤◌, ◌<◌, min, ◌≡◌, ◌≢◌, Bool, true, false, cond}
use Rattle.std.specs.Prelude.{not, List, [], ◌∷◌, ◌++◌, ltb, eqb, length, get_or, set, replicate}
use Rattle.std.proofs.Math.Path.{refl}
use Rattle.std.proofs.Common.{sym, ap, ap₂, subst, ◌∙◌, arith, ltb-true, ltb-false, eqb-true}
use Rattle.std.proofs.Common.{eq-eqb, length-set, length-append, get_or-set_same, get_or-set_other}
use Rattle.std.proofs.lemmas.Bool.{eqb-false}
use Rattle.rules.specs.declared.Opening.{Opening}
use Rattle.rules.specs.declared.Report.{Report}
use Rattle.rules.specs.Search.{is_refusal}
use Rattle.held.specs.declared.Search.{Search}
use Rattle.dispatching.specs.declared.Dispatcher.{Dispatcher}
use Rattle.dispatching.specs.declared.Dispatched.{Dispatched}
use Rattle.dispatching.specs.Dispatching.{dryers, ceiling, no_such_dryer, fresh_dispatcher, search_at, count_at, unfinished, turn_of, is_dryer}
use Rattle.dispatching.specs.Dispatching.{told, refused_with, raised, settled_by, opening_at, answer_at}
use Rattle.dispatching.proofs.DispatchingLaws.{left_by, lone_at, call_cases}
use Rattle.dispatching.specs.Calls.{Call, opening, answer, call_of, dryer_of, dispatcher_after, reports_of, accepts, serves, served_by, servings, Due}
use Rattle.dispatching.specs.Calls.{how_often, count_after, sum_of, with_counts, old_count_by, old_count_after}
use Rattle.dispatching.specs.Run.{SameButCounts}
use Rattle.dispatching.proofs.RunLaws.{served_cases}

-- ---- numbers

raised_is : (c : ℕ) → raised c ≡ count_after c 1
unfolding raised
raised_is c = go (ltb c ceiling) refl
  where
    go : (b : Bool) → ltb c ceiling ≡ b → cond b (c + 1) c ≡ count_after c 1
    go true e = let h = ltb-true c ceiling e in omega arith
    go false e = let h = ltb-false c ceiling e in omega arith

count_none : (c : ℕ) → c ≡ count_after c 0
count_none c = omega arith

often_append : (i : ℕ) (a b : List ℕ) → how_often i (a ++ b) ≡ how_often i a + how_often i b
often_append i [] b = omega arith
often_append i (j ∷ a) b = omega (arith, often_append i a b)

-- another number in a list changes its sum by the difference
sum_set : (cs : List ℕ) (i n : ℕ) → i < length cs → sum_of (set cs i n) + get_or cs i 0 ≡ sum_of cs + n
sum_set [] i n h = absurd (omega arith)
sum_set (c ∷ cs) zero n h = omega arith
sum_set (c ∷ cs) (suc i) n h = omega (arith, sum_set cs i n (omega arith))

-- each is a part of it
part_of_sum : (cs : List ℕ) (i : ℕ) → get_or cs i 0 ≤ sum_of cs
part_of_sum [] i = omega arith
part_of_sum (c ∷ cs) zero = omega arith
part_of_sum (c ∷ cs) (suc i) = omega (arith, part_of_sum cs i)

-- with one count raised, the sum up to the ceiling has one more
sum_raised : (cs : List ℕ) (i : ℕ) → i < length cs
    → min (sum_of (set cs i (raised (get_or cs i 0)))) ceiling ≡ count_after (min (sum_of cs) ceiling) 1
sum_raised cs i h = omega (arith, sum_set cs i (raised (get_or cs i 0)) h, part_of_sum cs i, raised_is (get_or cs i 0))

-- ---- one call

-- an opening clears none
pub uncleared : (d : Dispatcher) (i : ℕ) (o : Opening) → (call_of d (opening i o)).dispatcher.counts ≡ d.counts
uncleared d i o = call_cases d (λ r. r.dispatcher.counts ≡ d.counts) (λ r t. refl) (opening i o) (λ due t. refl)

-- the old count, by whom a call serves
old_call : (d : Dispatcher) (n : ℕ) (c : Call) → old_count_by d n c ≡ count_after n (length (served_by d c))
old_call d n (opening i o) = go (accepts d (opening i o))
  where
    go : (b : Bool) → n ≡ count_after n (length (cond {A = List ℕ} b [] []))
    go true = count_none n
    go false = count_none n
old_call d n (answer i a) = go (accepts d (answer i a))
  where
    go : (b : Bool) → cond b (raised n) n ≡ count_after n (length (cond b (i ∷ []) []))
    go true = raised_is n
    go false = count_none n

module _ (d : Dispatcher) (six : length d.counts ≡ dryers) where
  -- the counts once one is raised
  abbrev raised_at : ℕ → List ℕ
  raised_at j = set d.counts j (raised (count_at d j))

  answer_count : (i j : ℕ) → j < dryers → get_or (raised_at j) i 0 ≡ count_after (count_at d i) (how_often i (j ∷ []))
  answer_count i j h = go (eqb j i) refl
    where
      go : (b : Bool) → eqb j i ≡ b → get_or (raised_at j) i 0 ≡ count_after (count_at d i) (cond b 1 0 + 0)
      go true e =
          let is : i ≡ j = sym (eqb-true j i e) in
          rw is (get_or-set_same d.counts j (raised (count_at d j)) 0 (omega (arith, six, h)) ∙ raised_is (count_at d j))
      go false e = get_or-set_other d.counts j i _ 0 (λ q. eqb-false j i e (sym q)) ∙ count_none (count_at d i)

  -- the count of a dryer, by whom a call serves
  count_call : (c : Call) (i : ℕ) → count_at (call_of d c).dispatcher i ≡ count_after (count_at d i) (how_often i (served_by d c))
  count_call c i =
      served_cases d c (λ js d'. count_at d' i ≡ count_after (count_at d i) (how_often i js)) (count_none (count_at d i))
      (λ due. accepted c due (lone_at d c).search)
    where
      accepted : (c : Call) → Due d c → (s : Search) → count_at (left_by d c s) i ≡ count_after (count_at d i) (how_often i (serves c))
      accepted (opening j o) due s = count_none (count_at d i)
      accepted (answer j a) due s = answer_count i j due.0

  -- whoever is served has one more
  pub one_more : (i : ℕ) (c : Call) → served_by d c ≡ i ∷ [] → count_at (call_of d c).dispatcher i ≡ raised (count_at d i)
  one_more i c e =
      let once : how_often i (i ∷ []) ≡ 1 = simp (eq-eqb i i refl) in
      count_call c i ∙ ap (λ (js : List ℕ). count_after (count_at d i) (how_often i js)) e
      ∙ ap (count_after (count_at d i)) once ∙ sym (raised_is (count_at d i))

  -- the sum of the six up to the ceiling, by whom a call serves
  sum_call : (c : Call) → min (sum_of (call_of d c).dispatcher.counts) ceiling ≡ count_after (min (sum_of d.counts) ceiling) (length (served_by d c))
  sum_call c =
      served_cases d c (λ js d'. min (sum_of d'.counts) ceiling ≡ count_after (min (sum_of d.counts) ceiling) (length js))
      (count_none (min (sum_of d.counts) ceiling)) (λ due. accepted c due (lone_at d c).search)
    where
      accepted : (c : Call) → Due d c → (s : Search)
          → min (sum_of (left_by d c s).counts) ceiling ≡ count_after (min (sum_of d.counts) ceiling) (length (serves c))
      accepted (opening i o) due s = count_none (min (sum_of d.counts) ceiling)
      accepted (answer i a) due s = sum_raised d.counts i (omega (arith, six, due.0))

-- no other dryer's count is moved
pub other_counts : (d : Dispatcher) (c : Call) (i : ℕ) → i ≢ dryer_of c → count_at (call_of d c).dispatcher i ≡ count_at d i
other_counts d c i ne = call_cases d (λ r. count_at r.dispatcher i ≡ count_at d i) (λ r t. refl) c (λ due t. left c (lone_at d c).search ne)
  where
    left : (c : Call) (s : Search) → i ≢ dryer_of c → count_at (left_by d c s) i ≡ count_at d i
    left (opening j o) s ne = refl
    left (answer j a) s ne = get_or-set_other d.counts j i _ 0 ne

-- there are six counts, before and after
six_counts : (d : Dispatcher) (c : Call) → length d.counts ≡ dryers → length (call_of d c).dispatcher.counts ≡ dryers
six_counts d c six = call_cases d (λ r. length r.dispatcher.counts ≡ dryers) (λ r t. six) c (λ due t. left c (lone_at d c).search)
  where
    left : (c : Call) (s : Search) → length (left_by d c s).counts ≡ dryers
    left (opening i o) s = six
    left (answer i a) s = length-set d.counts i _ ∙ six

-- ---- a run

pub six_counts_after : (d : Dispatcher) → length d.counts ≡ dryers → (calls : List Call) → length (dispatcher_after d calls).counts ≡ dryers
unfolding dispatcher_after
six_counts_after d six [] = six
six_counts_after d six (c ∷ calls) = six_counts_after (call_of d c).dispatcher (six_counts d c six) calls

-- what goes by some of the served, and then by the rest, goes by all of them
grows_on : (number : List ℕ → ℕ) → ((a b : List ℕ) → number (a ++ b) ≡ number a + number b) → (first then last : ℕ) (a b : List ℕ)
    → then ≡ count_after first (number a) → last ≡ count_after then (number b) → last ≡ count_after first (number (a ++ b))
grows_on number append first then last a b e f = omega (arith, append a b)

pub count_calls : (d : Dispatcher) → length d.counts ≡ dryers → (i : ℕ) (calls : List Call)
    → count_at (dispatcher_after d calls) i ≡ count_after (count_at d i) (how_often i (servings d calls))
unfolding servings dispatcher_after
count_calls d six i [] = count_none (count_at d i)
count_calls d six i (c ∷ calls) =
    grows_on (how_often i) (often_append i) _ _ _ (served_by d c) _ (count_call d six c i) (count_calls (call_of d c).dispatcher (six_counts d c six) i calls)

pub old_calls : (d : Dispatcher) (n : ℕ) (calls : List Call) → old_count_after d n calls ≡ count_after n (length (servings d calls))
unfolding old_count_after servings
old_calls d n [] = count_none n
old_calls d n (c ∷ calls) =
    grows_on length length-append _ _ _ (served_by d c) _ (old_call d n c) (old_calls (call_of d c).dispatcher (old_count_by d n c) calls)

sum_calls : (d : Dispatcher) → length d.counts ≡ dryers → (calls : List Call)
    → min (sum_of (dispatcher_after d calls).counts) ceiling ≡ count_after (min (sum_of d.counts) ceiling) (length (servings d calls))
unfolding servings dispatcher_after
sum_calls d six [] = count_none (min (sum_of d.counts) ceiling)
sum_calls d six (c ∷ calls) =
    grows_on length length-append _ _ _ (served_by d c) _ (sum_call d six c) (sum_calls (call_of d c).dispatcher (six_counts d c six) calls)

-- the old count and the sum go by the same number
pub old_is_sum : (d : Dispatcher) → length d.counts ≡ dryers → (calls : List Call)
    → old_count_after d (min (sum_of d.counts) ceiling) calls ≡ min (sum_of (dispatcher_after d calls).counts) ceiling
old_is_sum d six calls = old_calls d (min (sum_of d.counts) ceiling) calls ∙ sym (sum_calls d six calls)

-- ---- the counts alter nothing else

-- two answers of calls differ in the counts at most
abbrev Alike : Dispatched → Dispatched → Type 0
Alike r r' = r' ≡ told r.report (with_counts r.dispatcher r'.dispatcher.counts)

-- what a call answers, by its three tests: the dispatcher's own two, and that of the search
abbrev answered : Bool → Bool → Bool → ℕ → Report → Dispatcher → Dispatcher → Dispatched
answered nowhere early refused n r d next =
    cond nowhere (refused_with no_such_dryer d) (cond early (refused_with n d) (cond refused (told r d) (told r next)))

module _ (d : Dispatcher) (cs : List ℕ) where
  alike_answered : (nowhere early refused : Bool) (n : ℕ) (r : Report) (next next' : Dispatcher) → next' ≡ with_counts next next'.counts
      → Alike (answered nowhere early refused n r d next) (answered nowhere early refused n r (with_counts d cs) next')
  alike_answered true early refused n r next next' e = refl
  alike_answered false true refused n r next next' e = refl
  alike_answered false false true n r next next' e = refl
  alike_answered false false false n r next next' e = ap (told r) e

  alike_call : (c : Call) → Alike (call_of d c) (call_of (with_counts d cs) c)
  unfolding opening_at answer_at settled_by turn_of
  alike_call (opening i o) =
      alike_answered (not (ltb i dryers)) (unfinished (search_at d i)) (is_refusal (lone_at d (opening i o)).report) _ _ _ _ refl
  alike_call (answer i a) =
      alike_answered (not (ltb i dryers)) (not (is_dryer (turn_of d) i)) (is_refusal (lone_at d (answer i a)).report) _ _ _ _ refl

pub alike_reports : (d : Dispatcher) (cs : List ℕ) (calls : List Call) → reports_of (with_counts d cs) calls ≡ reports_of d calls
unfolding reports_of
alike_reports d cs [] = refl
alike_reports d cs (c ∷ calls) =
    let next = (call_of d c).dispatcher in
    let with-others = (call_of (with_counts d cs) c).dispatcher in
    let e = alike_call d cs c in
    ap₂ ◌∷◌ (ap (λ (r : Dispatched). r.report) e)
    (ap (λ (r : Dispatched). reports_of r.dispatcher calls) e ∙ alike_reports next with-others.counts calls)

pub alike_calls : (d : Dispatcher) (cs : List ℕ) (calls : List Call)
    → SameButCounts (dispatcher_after (with_counts d cs) calls) (dispatcher_after d calls)
unfolding dispatcher_after
alike_calls d cs [] = record { searches = refl; last = refl }
alike_calls d cs (c ∷ calls) =
    let next = (call_of d c).dispatcher in
    let with-others = (call_of (with_counts d cs) c).dispatcher in
    subst (λ (r : Dispatched). SameButCounts (dispatcher_after r.dispatcher calls) (dispatcher_after next calls)) (sym (alike_call d cs c))
    (alike_calls next with-others.counts calls)

-- ---- from counts of 0

no_count : (n i : ℕ) → ◌≡◌ {A = ℕ} (get_or (replicate n 0) i 0) 0
no_count zero i = refl
no_count (suc n) zero = refl
no_count (suc n) (suc i) = no_count n i

module _ (d : Dispatcher) (six : length d.counts ≡ dryers) (zeros : d.counts ≡ fresh_dispatcher.counts) (calls : List Call) where
  pub count_from_zero : (i : ℕ) → count_at (dispatcher_after d calls) i < ceiling → count_at (dispatcher_after d calls) i ≡ how_often i (servings d calls)
  count_from_zero i h =
      let began : count_at d i ≡ 0 = ap (λ (cs : List ℕ). get_or cs i 0) zeros ∙ no_count dryers i in
      omega (arith, count_calls d six i calls)

  pub sum_from_zero : sum_of (dispatcher_after d calls).counts < ceiling → sum_of (dispatcher_after d calls).counts ≡ old_count_after d 0 calls
  sum_from_zero h =
      let began : min (sum_of d.counts) ceiling ≡ 0 = ap (λ (cs : List ℕ). min (sum_of cs) ceiling) zeros in
      let ended : sum_of (dispatcher_after d calls).counts ≡ min (sum_of (dispatcher_after d calls).counts) ceiling = omega arith in
      ended ∙ sym (old_is_sum d six calls) ∙ ap (λ (n : ℕ). old_count_after d n calls) began
