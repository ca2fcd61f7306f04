-- Whether the first record of a text is an opening, by the form of the text. An inner function's contract cites it; it need not be believed.
-- Assumes nothing.
use Rattle.std.specs.Prelude.{Bool, true, ltb, Result, Ok, Err}
use Rattle.rules.specs.declared.Refusal.{Refusal}

-- a text that is refused at place 0, for its length, or 1, for its first record, has none
abbrev pub has_opening : Result (Unit {0}) Refusal → Bool
has_opening (Ok u) = true
has_opening (Err r) = ltb 1 r.place
