-- `load::next_draw` meets its contract: in 64 bits the product fits.
-- Assumes nothing.
use Rattle.std.proofs.Common.{rules}
use Rattle.loading.specs.Loading.{next_draw}
use Rattle.load.proofs.next_draw.Goals as goal

pub returns : goal.returns
unfolding next_draw
returns c = search rules
