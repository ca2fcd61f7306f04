-- `held::unanswered` meets its contract: what it returns is the definition's, slot by slot.
-- Assumes nothing.
use mathlib.Core.Path.{refl}
use Rattle.held.proofs.unanswered.Statement.{statement}
use Rattle.held.proofs.unanswered.Tie as tie

returns : tie.Need-returns
returns c = refl

pub unanswered_spec : {M : Type 1} → statement M
unanswered_spec = tie.close (tie.spec returns)
