-- What the functions of a step ask: a bracket that answers have led to, and whose search goes on.
-- Assumes nothing.
use Rattle.std.specs.Prelude.{◌≤◌, ◌≡◌, false}
use Rattle.rules.specs.declared.Opening.{Opening}
use Rattle.rules.specs.declared.Bracket.{Bracket}
use Rattle.interpolation.specs.Ranges.{widest, Measured}
use Rattle.rules.specs.Rules.{stopped_of, width_of}
use Rattle.rules.proofs.RefusalsLaws.{Opened}
use Rattle.rules.proofs.SearchLaws.{Sound}

-- its points and values are in the range of the estimates
pub record Surveyed (k : Bracket) : Type 0 where
  pub better : Measured k.better
  pub previous : Measured k.previous
  pub third : Measured k.third
  pub width : width_of k ≤ widest

pub record Ready (o : Opening) (k : Bracket) : Type 0 where
  pub opened : Opened o
  pub sound : Sound o k
  pub going : stopped_of o k ≡ false
