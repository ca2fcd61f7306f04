-- What a bracket must be for one more answer to be counted in 32 bits.
-- Assumes nothing.
use Rattle.std.specs.Prelude.{◌<◌}
use Rattle.rules.specs.declared.Bracket.{Bracket}

pub record Countable (k : Bracket) : Type 0 where
  pub taken : k.taken < 4294967295
  pub streak : k.streak < 4294967295
