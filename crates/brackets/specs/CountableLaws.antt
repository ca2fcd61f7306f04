-- A bracket that answers have led to is countable: no accepted opening needs more of them than there are slots.
-- Assumes nothing.
use Rattle.std.proofs.Common.{arith}
use Rattle.rules.specs.declared.Opening.{Opening}
use Rattle.rules.specs.declared.Bracket.{Bracket}
use Rattle.rules.proofs.RefusalsLaws.{Opened}
use Rattle.rules.proofs.SearchLaws.{Sound, most_slots}
use Rattle.brackets.specs.Countable.{Countable}

pub countable : {o : Opening} {k : Bracket} → Opened o → Sound o k → Countable k
countable {o} {k} op s =
    record {
      taken = omega (arith, s.bound.most, most_slots o op);
      streak = omega (arith, s.counted, s.bound.most, most_slots o op);
    }
