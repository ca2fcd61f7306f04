-- `brackets::renewed` meets its contract: each field is the definition's.
-- Assumes nothing.
use Rattle.rules.specs.Rules.{renewed_of}
use Rattle.brackets.proofs.renewed.Goals as goal

pub returns : goal.returns
unfolding renewed_of
returns c = cc
