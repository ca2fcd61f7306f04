-- `printing::place_text` meets its contract: the definition's test is the code's.
-- Assumes nothing.
use Rattle.std.proofs.Common.{refl, le-leb}
use Rattle.std.proofs.lemmas.Bool.{lt-leb}
use Rattle.printing.specs.Printed.{placed, placed_length}
use Rattle.printing.proofs.place_text.Goals as goal

pub returns-then-out-text : goal.returns-then-out-text
unfolding placed placed_length
returns-then-out-text c = simp (lt-leb _ _ c.if-out-text.true) (record { value = refl; out_after = refl })

pub returns : goal.returns
unfolding placed placed_length
returns c = simp (le-leb _ _ c.if-out-text.false, c.copy_from_slice.ensures.after) (record { value = refl; out_after = refl })
