-- `settled::refuse` meets its contract: what stands beside the refusal is the blank.
-- Assumes nothing.
use borrow.Author.Rules.{rules}
use Rattle.settled.proofs.refuse.Statement.{statement}
use Rattle.settled.proofs.refuse.Tie as tie

blank-requires : tie.Need-blank-requires
blank-requires c κs = search rules

returns : tie.Need-returns
returns c = rw c.blank.ensures

pub refuse_spec : {M : Type 1} → statement M
refuse_spec = tie.close (tie.spec blank-requires returns)
