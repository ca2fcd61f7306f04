-- `brackets::streak_after` meets its contract: in 64 bits twice the new width fits.
-- Assumes nothing.
use Rattle.std.proofs.Common.{arith}
use Rattle.std.proofs.lemmas.Bool.Decides.{nat_tests}
use Rattle.rules.specs.Rules.{streak_of}
use Rattle.brackets.proofs.streak_after.Goals as goal

pub returns-then-from : goal.returns-then-from
unfolding streak_of
returns-then-from c = grind (arith, nat_tests)

pub returns-else-from : goal.returns-else-from
unfolding streak_of
returns-else-from c = grind (arith, nat_tests)
