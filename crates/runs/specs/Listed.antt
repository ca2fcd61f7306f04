-- The contracts of the steps that a run written down in lists is made of: how many calls there are, and one of them.
-- Assumes nothing.
use Rattle.std.specs.Prelude.{ℕ, ◌+◌, ◌*◌, ◌/◌, ◌≤◌, ◌<◌, min, ◌≡◌, List, ℤ, pos, length, get_or}
use Rattle.std.proofs.lemmas.List.Edits.{sets}
use Rattle.rules.specs.Rows.{row_of, row_numbers, numbers_each}
use Rattle.held.specs.declared.Search.{Search}
use Rattle.held.specs.declared.Entered.{Entered}
use Rattle.held.specs.Held.{enter_of}

-- how many calls there are
abbrev pub shortest : List ℕ → List ℤ → List ℤ → List ℕ → ℕ
shortest ks xs vs list = min (min (length list / numbers_each) (length ks)) (min (length xs) (length vs))

-- there is a call at a place, and room for its report
pub record Before (i : ℕ) (ks : List ℕ) (xs vs : List ℤ) (list : List ℕ) : Type 0 where
  pub kind : i < length ks
  pub point : i < length xs
  pub value : i < length vs
  pub room : numbers_each * i + numbers_each ≤ length list

-- the answer at a place, entered into the search s: both kinds of call do that
abbrev pub entered_at : Search → List ℤ → List ℤ → ℕ → Entered
entered_at s xs vs i = enter_of s (get_or xs i (pos 0)) (get_or vs i (pos 0))

-- the call at a place, made to the search s, leaves the search r, and its report in its place in the list
pub record CallMade (i : ℕ) (s : Search) (xs vs : List ℤ) (before : List ℕ) (r : Search) (after : List ℕ) : Type 0 where
  pub left : r ≡ (entered_at s xs vs i).search
  pub written : after ≡ sets before (numbers_each * i) (row_numbers (row_of (entered_at s xs vs i).report))
