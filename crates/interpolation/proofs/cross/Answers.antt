-- `interpolation::cross` meets its contract, by its formula: every product and difference on the way fits 64 bits.
-- Assumes nothing.
use Rattle.integers.proofs.Formulas.{Formula, sub, mul, asks, reads, reads_within}
use Rattle.rules.specs.declared.Sample.{Sample}
use Rattle.rules.specs.Rules.{cross_of}
use Rattle.interpolation.specs.Ranges.{Measured}
use Rattle.interpolation.proofs.Parts.{F, gap}
use Rattle.interpolation.proofs.cross.Goals as goal

-- F(p)(F(q) − F(d)), and the whole
abbrev xy : {p q d : Sample} → Measured p × Measured q × Measured d → Formula
xy m = mul (F m.0) (sub (F m.1) (F m.2))

abbrev xyz : {p q d : Sample} → Measured p × Measured q × Measured d → Formula
xyz m = mul (xy m) (gap m.0.near m.2.near)

pub overflow_mul-result : goal.overflow_mul-result
overflow_mul-result c = asks (xy c.requires) tt

pub overflow_mul-result-2 : goal.overflow_mul-result-2
overflow_mul-result-2 c = asks (xyz c.requires) tt

pub returns : goal.returns
unfolding cross_of
returns c = record { value = reads (xyz c.requires) tt; within = reads_within (xyz c.requires) tt }
