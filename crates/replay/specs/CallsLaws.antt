-- The laws of a run written down in lists: its calls one by one, and what the loop keeps, which is what `RowsLaws` of crate `rules` keeps of
-- any run.
-- Assumes nothing.
use Rattle.std.specs.Prelude.{ℕ, zero, suc, ◌+◌, ◌*◌, ◌/◌, ◌≤◌, ◌<◌, min, ◌≡◌, refl, Bool, true, false, cond, List, [], ◌∷◌, eqb, ℤ, pos, length, drop, get_or}
use Rattle.std.proofs.Common.{sym, ◌∙◌, arith}
use Rattle.std.proofs.Math.Path.{ap}
use Rattle.std.proofs.Math.Seq.{sets}
use Rattle.rules.specs.declared.Answer.{Answer}
use Rattle.rules.specs.Rows.{row_of, row_numbers, numbers_each}
use Rattle.rules.proofs.RowsLaws.{InTurn}
use Rattle.rules.proofs.RowsLaws as Rows
use Rattle.held.specs.declared.Search.{Search}
use Rattle.held.specs.declared.Entered.{Entered}
use Rattle.held.specs.Held.{enter_of}
use Rattle.journal.specs.Run.{Call, by_value, into, call_of, reports_of, search_after}
use Rattle.runs.specs.Listed.{shortest, Before, entered_at, CallMade}
use Rattle.replay.specs.Replay.{call_with, calls_up_to, calls_in}
use Rattle.replay.specs.Calls.{call_at, CallsMade}

-- ---- the calls one by one

-- a call does the same by either kind
call_either : (k : ℕ) (s : Search) (a : Answer) → call_of s (call_with k a) ≡ enter_of s a.point a.value
call_either k s a = go (eqb k 0)
  where
    go : (b : Bool) → call_of s (cond b (by_value a) (into a)) ≡ enter_of s a.point a.value
    go true = refl
    go false = refl

-- so the answer entered at a place is the call there
call_at_lem : (s : Search) (ks : List ℕ) (xs vs : List ℤ) (i : ℕ) → entered_at s xs vs i ≡ call_of s (call_at ks xs vs i)
call_at_lem s ks xs vs i = sym (call_either (get_or ks i 0) s (record { point = get_or xs i (pos 0); value = get_or vs i (pos 0) }))

-- how many they are
calls_number : (n : ℕ) (ks : List ℕ) (xs vs : List ℤ) → length (calls_up_to n ks xs vs) ≡ min (min n (length ks)) (min (length xs) (length vs))
unfolding calls_up_to
calls_number zero ks xs vs = omega arith
calls_number (suc n) [] xs vs = omega arith
calls_number (suc n) (k ∷ ks) [] vs = omega arith
calls_number (suc n) (k ∷ ks) (x ∷ xs) [] = omega arith
calls_number (suc n) (k ∷ ks) (x ∷ xs) (v ∷ vs) = omega (arith, calls_number n ks xs vs)

-- the one at a place
calls_drop : (n : ℕ) (ks : List ℕ) (xs vs : List ℤ) (i : ℕ) → i < min (min n (length ks)) (min (length xs) (length vs))
    → drop i (calls_up_to n ks xs vs) ≡ call_at ks xs vs i ∷ drop (i + 1) (calls_up_to n ks xs vs)
unfolding calls_up_to
calls_drop zero ks xs vs i h = absurd (omega arith)
calls_drop (suc n) [] xs vs i h = absurd (omega arith)
calls_drop (suc n) (k ∷ ks) [] vs i h = absurd (omega arith)
calls_drop (suc n) (k ∷ ks) (x ∷ xs) [] i h = absurd (omega arith)
calls_drop (suc n) (k ∷ ks) (x ∷ xs) (v ∷ vs) zero h = refl
calls_drop (suc n) (k ∷ ks) (x ∷ xs) (v ∷ vs) (suc i) h =
    let e : suc i + 1 ≡ suc (i + 1) = omega arith in
    rw e (calls_drop n ks xs vs i (omega arith))

-- ---- the run so far

-- calls made in turn to a search
pub searches : InTurn Search Call
unfolding search_after reports_of
searches =
    record {
      told = λ s c. (call_of s c).report;
      next = λ s c. (call_of s c).search;
      after = search_after;
      reports = reports_of;
      after_none = λ s. refl;
      after_one = λ s c calls. refl;
      reports_none = λ s. refl;
      reports_one = λ s c calls. refl;
    }

-- i of the calls, of the lists and from s₀ on, have led to the search s and the list `after`
abbrev pub Made : Search → List ℕ → List ℤ → List ℤ → List ℕ → ℕ → Search → List ℕ → Type 0
Made s₀ ks xs vs before = Rows.Made searches s₀ (calls_in ks xs vs before) before

module _ (s₀ : Search) (ks : List ℕ) (xs vs : List ℤ) (before : List ℕ) where
  abbrev calls : List Call
  calls = calls_in ks xs vs before

  pub made_none : Made s₀ ks xs vs before 0 s₀ before
  made_none = Rows.made_none searches s₀ calls before

  -- of m calls, which are all
  module _ {i m : ℕ} {s : Search} {list : List ℕ} (made : Made s₀ ks xs vs before i s list) (number : m ≡ shortest ks xs vs before) where
    pub one_before : i < m → Before i ks xs vs list
    one_before h = record { kind = omega arith; point = omega arith; value = omega arith; room = omega (arith, made.same) }

    pub made_more : i < m → {r : Search} {after : List ℕ} → CallMade i s xs vs list r after → Made s₀ ks xs vs before (i + 1) r after
    unfolding searches
    made_more h one =
        let same = call_at_lem s ks xs vs i in
        Rows.made_more searches s₀ calls before made (call_at ks xs vs i) (calls_drop (length before / numbers_each) ks xs vs i (omega arith))
        (one.left ∙ ap (λ (e : Entered). e.search) same)
        (one.written ∙ ap (λ (e : Entered). sets list (numbers_each * i) (row_numbers (row_of e.report))) same)

    pub made_all : m ≤ i → CallsMade s₀ ks xs vs before s list
    unfolding searches
    made_all h =
        let count = calls_number (length before / numbers_each) ks xs vs in
        let all = Rows.made_all searches s₀ calls before made (omega (arith, count)) (omega (arith, count)) in
        record {
          left = all.0;
          written = all.1;
        }
