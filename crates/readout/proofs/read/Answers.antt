-- `readout::read` meets its contract: a read without a fault is there to be read.
-- Assumes nothing.
use Rattle.std.proofs.Common.{refl}
use Rattle.registers.proofs.ExchangeLaws.{readable}
use Rattle.readout.proofs.read.Goals as goal

pub read_words-requires : goal.read_words-requires
read_words-requires c = readable _ (c.in-Ok.ensures.ok.0 refl)
