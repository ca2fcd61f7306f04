-- The laws of the dispatcher: an element of the list of searches, each call by its cases, and how the turn is counted out.
-- Assumes nothing.
use Prim.Native.Nat.{ℕ, zero, suc, ◌+◌, ◌-◌, ◌%◌, ◌≤◌, ◌<◌}
use Rattle.std.specs.Prelude.{◌≡◌, ◌≢◌, Bool, cond, not, List, [], ◌∷◌, Option, Some, None, map, ltb, eqb, length, get_or}
use Rattle.std.specs.Option.{option_eq}
use Rattle.std.proofs.Math.Path.{refl, ap}
use Rattle.std.proofs.Common.{sym, subst, ◌∙◌, ltb-true, ltb-false, eqb-true, lt-ltb, le-ltb, eq-eqb, get_or-set_other}
use Rattle.std.proofs.Math.Bool.{true, false}
use native.Mathlib.Omega.{arith}
use Rattle.std.proofs.lemmas.List.{length-map}
use Rattle.std.proofs.lemmas.Option.{cond_some}
use Rattle.integers.proofs.SignsLaws.{never}
use Rattle.rules.specs.declared.Opening.{Opening}
use Rattle.rules.specs.declared.Answer.{Answer}
use Rattle.rules.specs.declared.Report.{Report}
use Rattle.rules.specs.Search.{is_refusal}
use Rattle.held.specs.declared.Search.{Search}
use Rattle.held.specs.declared.Entered.{Entered}
use Rattle.held.specs.Held.{blank, reopen_of, held_report, enter_of}
use Rattle.dispatching.specs.declared.Dispatcher.{Dispatcher}
use Rattle.dispatching.specs.declared.Dispatched.{Dispatched}
use Rattle.dispatching.specs.Dispatching.{dryers, no_such_dryer, not_its_turn, still_searching, search_at, found_at, unfinished, start_after, first_from, turn_of}
use Rattle.dispatching.specs.Dispatching.{is_dryer, told, refused_with, with_search, served_at, settled_by, opening_at, answer_at, dryer_report}
use Rattle.dispatching.specs.Calls.{Call, opening, answer, call_of, dryer_of, lone_of, Due}
use Rattle.dispatching.specs.Run.{First}

-- ---- lists

-- inside a list, what stands for an element outside does not matter
pub inside : (l : List Search) (i : ℕ) (a b : Search) → i < length l → get_or l i a ≡ get_or l i b
inside [] i a b h = absurd (omega arith)
inside (s ∷ l) zero a b h = refl
inside (s ∷ l) (suc i) a b h = inside l i a b (omega arith)

-- what owning an array of structs tells is the length of a mapped list
pub length_mapped : (X Y : Type 0) (f : X → Y) (l : List X) (n : ℕ) → length (map f l) ≡ n → length l ≡ n
length_mapped X Y f l n e = sym (length-map l f) ∙ e

-- what is found at a number
module _ (d : Dispatcher) (i : ℕ) where
  pub nowhere : None ≡ found_at d i → dryers ≤ i
  nowhere = go (ltb i dryers) refl
    where
      go : (b : Bool) → ltb i dryers ≡ b → None ≡ cond b (Some (search_at d i)) None → dryers ≤ i
      go true e f = cc
      go false e f = ltb-false i dryers e

  pub there : (s : Search) → Some s ≡ found_at d i → (i < dryers) × (s ≡ search_at d i)
  there s f = let h = cond_some (ltb i dryers) (search_at d i) s (sym f) in (ltb-true i dryers h.0, sym h.1)

-- ---- the calls, case by case

not_not : (b : Bool) → not b ≡ false → b ≡ true
not_not true e = refl
not_not false e = never e

is_not : (b : Bool) → not b ≡ true → b ≡ false
is_not true e = never (sym e)
is_not false e = refl

pub turn_is : (t : Option ℕ) (i : ℕ) → is_dryer t i ≡ true → t ≡ Some i
turn_is (Some j) i e = ap Some (eqb-true j i e)
turn_is None i e = never (sym e)

-- as Rust compares them
turn_equals : (t : Option ℕ) (i : ℕ) → option_eq eqb t (Some i) ≡ is_dryer t i
turn_equals (Some j) i = refl
turn_equals None i = refl

module _ (d : Dispatcher) (i : ℕ) {t : Option ℕ} {b : Bool} (told : t ≡ turn_of d) (differs : b ≡ not (option_eq eqb t (Some i))) where
  tells : not (is_dryer (turn_of d) i) ≡ b
  tells = sym (differs ∙ ap not (ap (λ (u : Option ℕ). option_eq eqb u (Some i)) told ∙ turn_equals (turn_of d) i))

  pub has_turn : b ≡ false → is_dryer (turn_of d) i ≡ true
  has_turn e = not_not (is_dryer (turn_of d) i) (tells ∙ e)

  pub has_no_turn : b ≡ true → is_dryer (turn_of d) i ≡ false
  has_no_turn e = is_not (is_dryer (turn_of d) i) (tells ∙ e)

module _ (d : Dispatcher) (e : Entered) (next : Dispatcher) where
  pub settled_refused : is_refusal e.report ≡ true → settled_by d e next ≡ told e.report d
  unfolding settled_by
  settled_refused t = simp t

  pub settled_accepted : is_refusal e.report ≡ false → settled_by d e next ≡ told e.report next
  unfolding settled_by
  settled_accepted t = simp t

  -- either way the report is the search's own
  settled_report : (settled_by d e next).report ≡ e.report
  unfolding settled_by
  settled_report = go (is_refusal e.report)
    where
      go : (b : Bool) → (cond b (told e.report d) (told e.report next)).report ≡ e.report
      go true = refl
      go false = refl

module _ (d : Dispatcher) (i : ℕ) where
  pub report_nowhere : dryers ≤ i → dryer_report d i ≡ Report.Refused no_such_dryer 0
  unfolding dryer_report
  report_nowhere h = simp (le-ltb i dryers h)

  pub report_there : i < dryers → dryer_report d i ≡ held_report (search_at d i)
  unfolding dryer_report
  report_there h = simp (lt-ltb i dryers h)

  module _ (o : Opening) where
    pub opening_nowhere : dryers ≤ i → opening_at d i o ≡ refused_with no_such_dryer d
    unfolding opening_at
    opening_nowhere h = simp (le-ltb i dryers h)

    pub opening_early : i < dryers → unfinished (search_at d i) ≡ true → opening_at d i o ≡ refused_with still_searching d
    unfolding opening_at
    opening_early h w = simp (lt-ltb i dryers h, w)

    pub opening_due : i < dryers → unfinished (search_at d i) ≡ false
        → opening_at d i o ≡ settled_by d (reopen_of (search_at d i) o) (with_search d i (reopen_of (search_at d i) o).search)
    unfolding opening_at
    opening_due h w = simp (lt-ltb i dryers h, w)

  module _ (a : Answer) where
    pub answer_nowhere : dryers ≤ i → answer_at d i a ≡ refused_with no_such_dryer d
    unfolding answer_at
    answer_nowhere h = simp (le-ltb i dryers h)

    pub answer_early : i < dryers → is_dryer (turn_of d) i ≡ false → answer_at d i a ≡ refused_with not_its_turn d
    unfolding answer_at
    answer_early h t = simp (lt-ltb i dryers h, t)

    pub answer_due : i < dryers → is_dryer (turn_of d) i ≡ true
        → let e = enter_of (search_at d i) a.point a.value in
        answer_at d i a ≡ settled_by d e (served_at d i e.search)
    unfolding answer_at
    answer_due h t = simp (lt-ltb i dryers h, t)

-- ---- a call, by its two outcomes

-- what an accepted call leaves
abbrev pub left_by : Dispatcher → Call → Search → Dispatcher
left_by d (opening i o) s = with_search d i s
left_by d (answer i a) s = served_at d i s

-- what the held search alone answers
abbrev pub lone_at : Dispatcher → Call → Entered
lone_at d c = lone_of (search_at d (dryer_of c)) c

-- P holds of what a call answers where it does so of every refusal, which alters nothing, and of the call accepted
module _ (d : Dispatcher) (P : Dispatched → Type 0) (kept : (r : Report) → is_refusal r ≡ true → P (told r d)) where
  -- the two checks of the dispatcher
  checked : (i n : ℕ) (bar : Bool) (r : Dispatched) → (i < dryers → bar ≡ false → P r)
      → P (cond (not (ltb i dryers)) (refused_with no_such_dryer d) (cond bar (refused_with n d) r))
  checked i n bar r due = go (ltb i dryers) refl bar refl
    where
      go : (b : Bool) → ltb i dryers ≡ b → (c : Bool) → bar ≡ c → P (cond (not b) (refused_with no_such_dryer d) (cond c (refused_with n d) r))
      go false e c f = kept (Report.Refused no_such_dryer 0) refl
      go true e true f = kept (Report.Refused n 0) refl
      go true e false f = due (ltb-true i dryers e) f

  -- then what the held search alone answers, and what is left where it accepts
  settled : (e : Entered) (next : Dispatcher) → (is_refusal e.report ≡ false → P (told e.report next)) → P (settled_by d e next)
  settled e next accepted = go (is_refusal e.report) refl
    where
      go : (b : Bool) → is_refusal e.report ≡ b → P (settled_by d e next)
      go true t = subst P (sym (settled_refused d e next t)) (kept e.report t)
      go false t = subst P (sym (settled_accepted d e next t)) (accepted t)

  pub call_cases : (c : Call)
      → (Due d c → is_refusal (lone_at d c).report ≡ false → P (told (lone_at d c).report (left_by d c (lone_at d c).search)))
      → P (call_of d c)
  unfolding opening_at answer_at
  call_cases (opening i o) accepted =
      checked i still_searching (unfinished (search_at d i)) _ (λ h w. settled (lone_at d (opening i o)) _ (accepted (h, w)))
  call_cases (answer i a) accepted =
      checked i not_its_turn (not (is_dryer (turn_of d) i)) _ (λ h w.
      settled (lone_at d (answer i a)) _ (accepted (h, turn_is (turn_of d) i (not_not (is_dryer (turn_of d) i) w))))

-- where neither 14 nor 15 nor 16 applies, what is reported is what the held search alone reports
pub due_report : (d : Dispatcher) (c : Call) → Due d c → (call_of d c).report ≡ (lone_at d c).report
due_report d (opening i o) due =
    ap (λ (r : Dispatched). r.report) (opening_due d i o due.0 due.1) ∙ settled_report d (lone_at d (opening i o)) _
due_report d (answer i a) due =
    let turn : is_dryer (turn_of d) i ≡ true = ap (λ (t : Option ℕ). is_dryer t i) due.1 ∙ eq-eqb i i refl in
    ap (λ (r : Dispatched). r.report) (answer_due d i a due.0 turn) ∙ settled_report d (lone_at d (answer i a)) _

pub due_dryer : (d : Dispatcher) (c : Call) → Due d c → dryer_of c < dryers
due_dryer d (opening i o) due = due.0
due_dryer d (answer i a) due = due.0

-- ---- the turn, counted out

pub start_bound : (last : ℕ) → start_after last ≤ dryers
start_bound last = go (ltb last dryers) refl
  where
    go : (b : Bool) → ltb last dryers ≡ b → start_after last ≤ dryers
    go true e = simp e (omega (arith, ltb-true last dryers e))
    go false e = simp e (omega arith)

-- i dryers have been asked, from `first` on: the turn goes to the first that goes on among the others
pub record Asking (d : Dispatcher) (first i : ℕ) : Type 0 where
  pub turn : turn_of d ≡ first_from d.searches (first + i) (dryers - i)
  pub bound : first ≤ dryers

pub ask_all : (d : Dispatcher) (first : ℕ) → first ≡ start_after d.last → Asking d first 0
unfolding turn_of
ask_all d first e =
    let z : first + 0 ≡ start_after d.last = omega arith in
    record { turn = rw z; bound = omega (arith, start_bound d.last) }

module _ (d : Dispatcher) (first i : ℕ) (a : Asking d first i) where
  pub ask_none : dryers ≤ i → turn_of d ≡ None
  unfolding first_from
  ask_none h = let e : dryers - i ≡ 0 = omega arith in a.turn ∙ rw e

  pub ask_here : i < dryers → unfinished (search_at d ((first + i) % dryers)) ≡ true → turn_of d ≡ Some ((first + i) % dryers)
  unfolding first_from
  ask_here h w = let e : dryers - i ≡ suc (dryers - (i + 1)) = omega arith in a.turn ∙ rw e (simp w)

  pub ask_next : i < dryers → unfinished (search_at d ((first + i) % dryers)) ≡ false → Asking d first (i + 1)
  unfolding first_from
  ask_next h w =
      let e : dryers - i ≡ suc (dryers - (i + 1)) = omega arith in
      let next : first + (i + 1) ≡ (first + i) + 1 = omega arith in
      record { turn = a.turn ∙ rw (e, next) (simp w); bound = a.bound }

-- ---- the one that goes on, and how many are asked before it

-- where one of the next n goes on, the first that does stands no later
pub record Found (ss : List Search) (at n k : ℕ) : Type 0 where
  pub place : ℕ
  pub early : place ≤ k
  pub turn : first_from ss at n ≡ Some ((at + place) % dryers)

module _ (ss : List Search) (at n : ℕ)
    (rest : (k : ℕ) → k < n → unfinished (get_or ss (((at + 1) + k) % dryers) blank) ≡ true → Found ss (at + 1) n k) where
  finds_by : (b : Bool) → unfinished (get_or ss (at % dryers) blank) ≡ b → (k : ℕ) → k < suc n
      → unfinished (get_or ss ((at + k) % dryers) blank) ≡ true → Found ss at (suc n) k
  unfolding first_from
  finds_by true e k h w =
      let z : at ≡ at + 0 = omega arith in
      record { place = 0; early = omega arith; turn = simp e (ap (λ (m : ℕ). Some (m % dryers)) z) }
  finds_by false e zero h w =
      let z : at + 0 ≡ at = omega arith in
      never (sym (rw z at w) ∙ e)
  finds_by false e (suc k) h w =
      let shift : at + suc k ≡ (at + 1) + k = omega arith in
      let f = rest k (omega arith) (rw shift at w) in
      let back : (at + 1) + f.place ≡ at + suc f.place = omega arith in
      record {
        place = suc f.place;
        early = omega (arith, f.early);
        turn = simp e (f.turn ∙ ap (λ (m : ℕ). Some (m % dryers)) back);
      }

pub finds : (ss : List Search) (at n k : ℕ) → k < n → unfinished (get_or ss ((at + k) % dryers) blank) ≡ true → Found ss at n k
finds ss at zero k h w = absurd (omega arith)
finds ss at (suc n) k h w = finds_by ss at n (finds ss (at + 1) n) (unfinished (get_or ss (at % dryers) blank)) refl k h w

-- dryer i goes on, and k dryers are asked before it: the distance round from the last served
pub record Queued (d : Dispatcher) (i k : ℕ) : Type 0 where
  pub near : k < dryers
  pub place : (start_after d.last + k) % dryers ≡ i
  pub goes_on : unfinished (search_at d i) ≡ true

-- some number of them
pub queued_somewhere : (d : Dispatcher) (i : ℕ) → i < dryers → unfinished (search_at d i) ≡ true → (k : ℕ) × Queued d i k
queued_somewhere d i h w =
    let s = start_after d.last in
    let b : s ≤ dryers = start_bound d.last in
    ((i + 12 - s) % dryers, record { near = omega arith; place = omega arith; goes_on = w })

module _ (d : Dispatcher) (i k : ℕ) (w : Queued d i k) where
  pub found : Found d.searches (start_after d.last) dryers k
  found =
      finds d.searches (start_after d.last) dryers k w.near (subst (λ (j : ℕ). unfinished (search_at d j) ≡ true) (sym w.place) w.goes_on)

  -- with none before it, it has the turn
  pub next_turn : k ≡ 0 → turn_of d ≡ Some i
  unfolding turn_of
  next_turn z =
      let e : found.place ≡ k = omega (arith, found.early) in
      found.turn ∙ ap (λ (j : ℕ). Some ((start_after d.last + j) % dryers)) e ∙ ap Some w.place

  -- where another is served, fewer are before it
  pub nearer : (j : ℕ) (s : Search) → j < dryers → turn_of d ≡ Some j → (j ≡ i → ⊥) → (k' : ℕ) × ((k' + 1 ≤ k) × Queued (served_at d j s) i k')
  unfolding turn_of
  nearer j s h t other =
      let p = found.place in
      let a = start_after d.last in
      let e : j ≡ (a + p) % dryers = number (sym t ∙ found.turn) in
      let le : p ≤ k = found.early in
      let at_k : (a + k) % dryers ≡ i = w.place in
      let ne : p ≢ k = λ q. other (e ∙ ap (λ (m : ℕ). (a + m) % dryers) q ∙ at_k) in
      let near = w.near in (
        k - p - 1,
        (
          omega arith,
          record {
            near = omega arith;
            place = ap (λ (m : ℕ). (m + (k - p - 1)) % dryers) (after_dryer j h) ∙ omega arith;
            goes_on = ap unfinished (get_or-set_other d.searches j i s blank (λ q. other (sym q))) ∙ w.goes_on;
          },
        ),
      )
    where
      number : {a b : ℕ} → Some a ≡ Some b → a ≡ b
      number q = cc

      after_dryer : (j : ℕ) → j < dryers → start_after j ≡ j + 1
      after_dryer j h = simp (lt-ltb j dryers h)

  -- where another's search is put in place, it is as near as it was
  pub as_near : (j : ℕ) (s : Search) → unfinished (search_at d j) ≡ false → Queued (with_search d j s) i k
  as_near j s f =
      record {
        near = w.near;
        place = w.place;
        goes_on =
            ap unfinished (get_or-set_other d.searches j i s blank (λ q. never (sym w.goes_on ∙ ap (λ (m : ℕ). unfinished (search_at d m)) q ∙ f)))
            ∙ w.goes_on;
      }

-- ---- the turn, said without counting

module _ (ss : List Search) (at n i : ℕ) (rest : first_from ss (at + 1) n ≡ Some i → First ss (at + 1) n i) where
  passed_on : (f : First ss (at + 1) n i) → unfinished (get_or ss (at % dryers) blank) ≡ false
      → (j : ℕ) → j < suc f.place → unfinished (get_or ss ((at + j) % dryers) blank) ≡ false
  passed_on f e zero h = let z : at + 0 ≡ at = omega arith in rw z e
  passed_on f e (suc j) h = let z : at + suc j ≡ (at + 1) + j = omega arith in rw z (f.passed j (omega arith))

  first_by : (b : Bool) → unfinished (get_or ss (at % dryers) blank) ≡ b → cond b (Some (at % dryers)) (first_from ss (at + 1) n) ≡ Some i
      → First ss at (suc n) i
  first_by true e t =
      let q : at % dryers ≡ i = cc in
      let z : (at + 0) % dryers ≡ at % dryers = omega arith in
      record { place = 0; near = omega arith; dryer = z ∙ q; goes_on = rw q at e; passed = λ j h. absurd (omega arith) }
  first_by false e t =
      let f = rest t in
      let back : at + suc f.place ≡ (at + 1) + f.place = omega arith in
      record { place = suc f.place; near = omega (arith, f.near); dryer = rw back f.dryer; goes_on = f.goes_on; passed = passed_on f e }

first_of : (ss : List Search) (at n i : ℕ) → first_from ss at n ≡ Some i → First ss at n i
unfolding first_from
first_of ss at zero i t = let z : ◌≡◌ {A = ℕ} 0 1 = cc in absurd (omega arith)
first_of ss at (suc n) i t = first_by ss at n i (first_of ss (at + 1) n i) (unfinished (get_or ss (at % dryers) blank)) refl t

pub turn_first : (d : Dispatcher) (i : ℕ) → turn_of d ≡ Some i → First d.searches (start_after d.last) dryers i
unfolding turn_of
turn_first d i t = first_of d.searches (start_after d.last) dryers i t

pub turn_none : (d : Dispatcher) → turn_of d ≡ None → (i : ℕ) → i < dryers → unfinished (search_at d i) ≡ false
unfolding turn_of
turn_none d t i h = go (unfinished (search_at d i)) refl
  where
    go : (b : Bool) → unfinished (search_at d i) ≡ b → b ≡ false
    go false e = refl
    go true e =
        let w = queued_somewhere d i h e in
        let f = (found d i w.0 w.1).turn in
        let z : ◌≡◌ {A = ℕ} 0 1 = cc in
        absurd (omega arith)
