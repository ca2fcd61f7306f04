-- The answers that one loop walks: first values that come with no point, then answers, each with its point.
-- Assumes nothing.
use Rattle.std.specs.Prelude.{ℕ, ◌+◌, ◌-◌, ◌≤◌, ◌≡◌, Bool, false, cond, not, ltb, ℤ, pos, length, get_or, take, drop}
use mathlib.Core.List.{List, ◌++◌, foldl}
use Rattle.integers.specs.Signs.{eq_z}
use Rattle.rules.specs.declared.Opening.{Opening}
use Rattle.rules.specs.declared.Progress.{Progress}
use Rattle.rules.specs.Search.{is_refused, other_at, take_of, progress_of, answers_of}
use Rattle.rules.proofs.SearchLaws.{SoundAt}

-- the value of answer i: one of vs, and then of ts
unfoldable pub value_at : List ℤ → List ℤ → ℕ → ℤ
value_at vs ts i = cond (ltb i (length vs)) (get_or vs i (pos 0)) (get_or ts (i - length vs) (pos 0))

-- whether answer i names another point than `call`: the first n name none
unfoldable pub other_than : ℕ → List ℤ → ℕ → ℕ → Bool
other_than n xs i call = cond (ltb i n) false (not (eq_z (get_or xs (i - n) (pos 0)) (pos call)))

-- whether answer i names another point than the one called for at p
unfoldable pub other_from : Opening → ℕ → List ℤ → ℕ → Progress → Bool
other_from o n xs i p = cond (ltb i n) false (other_at o p (get_or xs (i - n) (pos 0)))

-- where the answers from i on lead from p
abbrev pub onward_of : Opening → (values points tail : List ℤ) → ℕ → Progress → Progress
onward_of o vs xs ts i p = answers_of o (foldl (take_of o) p (drop i vs)) (drop (i - length vs) xs) (drop (i - length vs) ts)

-- the first i answers have led to p: it is where the search over their values stands, unless one was refused; and where all of them lead
-- is where the others lead from p
pub record Led (o : Opening) (values points tail : List ℤ) (i : ℕ) (p : Progress) : Type 0 where
  pub sound : SoundAt o p
  pub reached : is_refused p ≡ false → progress_of o (take i (values ++ tail)) ≡ p
  pub onward : answers_of o (progress_of o values) points tail ≡ onward_of o values points tail i p

-- a search that has neither a bracket nor a refusal after the first two of n answers has had them all
abbrev pub Ended : ℕ → Progress → Type 0
Ended n Progress.Begun = n ≤ 2
Ended n (Progress.First v) = n ≤ 2
Ended n (Progress.Bracketed k) = Unit {0}
Ended n (Progress.Refused m i) = Unit {0}

-- where the first two answers lead, or as many as there are
pub record Begins (o : Opening) (values points tail : List ℤ) (p : Progress) : Type 0 where
  pub led : Led o values points tail 2 p
  pub ended : Ended (length values + length tail) p
