-- Calls to a dispatcher written down in lists: the call at a place, and how many there are; and the contract of the step that makes one.
-- Assumes nothing.
use Rattle.std.specs.Prelude.{ℕ, ◌+◌, ◌*◌, ◌/◌, ◌≤◌, ◌<◌, min, ◌≡◌, cond, List, eqb, ℤ, pos, length, get_or}
use Rattle.std.proofs.lemmas.List.Edits.{sets}
use Rattle.rules.specs.declared.Opening.{Opening}
use Rattle.rules.specs.declared.Answer.{Answer}
use Rattle.rules.specs.Rows.{row_of, row_numbers, numbers_each}
use Rattle.dispatching.specs.declared.Dispatcher.{Dispatcher}
use Rattle.dispatching.specs.Calls.{Call, opening, answer, call_of}

-- ---- the calls

-- kind 0 is an opening, any other an answer
abbrev pub call_with : ℕ → ℕ → Opening → Answer → Call
call_with kind dryer o a = cond (eqb kind 0) (opening dryer o) (answer dryer a)

-- the numbers of a call: an opening's method, ends, tolerance and share, or an answer's point and value and three that are not read
abbrev pub call_numbers : ℕ
call_numbers = 5

-- the opening, and the answer, whose numbers stand from a place on
abbrev pub opening_at : List ℤ → ℕ → Opening
opening_at xs at =
    record {
      method = get_or xs at (pos 0);
      first = get_or xs (at + 1) (pos 0);
      second = get_or xs (at + 2) (pos 0);
      tolerance = get_or xs (at + 3) (pos 0);
      share = get_or xs (at + 4) (pos 0);
    }

abbrev pub answer_at : List ℤ → ℕ → Answer
answer_at xs at = record { point = get_or xs at (pos 0); value = get_or xs (at + 1) (pos 0) }

-- the call at place i of the lists
abbrev pub call_at : List ℕ → List ℕ → List ℤ → ℕ → Call
call_at ks ds xs i = call_with (get_or ks i 0) (get_or ds i 0) (opening_at xs (call_numbers * i)) (answer_at xs (call_numbers * i))

-- as far as all three lists go, and as the lent list has room for their reports, each written as the numbers of its row
abbrev pub how_many : List ℕ → List ℕ → List ℤ → List ℕ → ℕ
how_many ks ds xs list = min (min (length list / numbers_each) (length ks)) (min (length ds) (length xs / call_numbers))

-- ---- one of them made

-- there is a call at a place, and room for its report
pub record Before (i : ℕ) (ks ds : List ℕ) (xs : List ℤ) (list : List ℕ) : Type 0 where
  pub kind : i < length ks
  pub dryer : i < length ds
  pub numbers : call_numbers * i + call_numbers ≤ length xs
  pub room : numbers_each * i + numbers_each ≤ length list

-- the call at a place leaves the dispatcher r, and its report in its place in the list
pub record CallMade (i : ℕ) (d : Dispatcher) (ks ds : List ℕ) (xs : List ℤ) (before : List ℕ) (r : Dispatcher) (after : List ℕ) : Type 0 where
  pub left : r ≡ (call_of d (call_at ks ds xs i)).dispatcher
  pub written : after ≡ sets before (numbers_each * i) (row_numbers (row_of (call_of d (call_at ks ds xs i)).report))
