-- `load::drawn_point` meets its contract: the remainder.
-- Assumes nothing.
use Rattle.std.proofs.Common.{rules}
use Rattle.loading.specs.Loading.{drawn_point}
use Rattle.load.proofs.drawn_point.Goals as goal

pub returns : goal.returns
unfolding drawn_point
returns c = search rules
