-- Rule 7's s as document 01 says it, by looking back: "the number of steps since the last halving step, or since the second answer". It is
-- counted anew over the widths of the brackets so far, the first of them after the second answer; no number is carried along.
-- Assumes nothing.
use Rattle.std.specs.Prelude.{ℕ, ◌+◌, Bool, true, false}
use mathlib.Core.List.{List, [], ◌∷◌, tail, reverse, zip_with}
use Rattle.rules.specs.Rules.{halves}

-- each step in turn, from one width to the next: whether it halves
abbrev pub halved_of : List ℕ → List Bool
halved_of widths = zip_with halves widths (tail widths)

-- of such steps, the latest first: how many come before one that halves, or how many there are
abbrev pub since_halving : List Bool → ℕ
since_halving [] = 0
since_halving (true ∷ earlier) = 0
since_halving (false ∷ earlier) = since_halving earlier + 1

-- s
unfoldable pub streak_over : List ℕ → ℕ
streak_over widths = since_halving (reverse (halved_of widths))
