-- What a contract sees of bytes put one after the other.
-- Assumes nothing.
use Rattle.std.specs.Prelude.{ℕ, List}

-- those put, in order, and those in the room that is left, of which no clause says anything
pub record Put : Type 0 where
  pub items : List ℕ
  pub spare : List ℕ
