-- What is known of a bracket that answers have led to brings its numbers into the ranges that the functions ask.
-- Assumes nothing.
use Rattle.std.proofs.Common.{arith}
use Rattle.interpolation.specs.Ranges.{Measured}
use Rattle.rules.specs.declared.Opening.{Opening}
use Rattle.rules.specs.declared.Sample.{Sample}
use Rattle.rules.specs.declared.Bracket.{Bracket}
use Rattle.rules.proofs.SearchLaws.{Limited, Sound}
use Rattle.steps.specs.Ready.{Surveyed}

measured : {s : Sample} → Limited s → Measured s
measured l = record { near = omega (arith, l.point); small = record { abs_le = l.value } }

pub surveyed : {o : Opening} {k : Bracket} → Sound o k → Surveyed k
surveyed s =
    let l = s.limits in
    record {
      better = measured l.better;
      previous = measured l.previous;
      third = measured l.third;
      width = omega (arith, l.better.point, l.other.point);
    }
