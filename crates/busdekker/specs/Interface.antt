-- What the interface for C tells beside reports, quotes and searches as plain numbers (`row_of` and `quotation_of` of crate `rules`,
-- `answered_of` of crate `numbered`): its version.
-- Assumes nothing.
use Rattle.std.specs.Prelude.{ℕ}

-- of the interface: it changes with the functions, the structs and their meaning
abbrev pub version : ℕ
version = 11
