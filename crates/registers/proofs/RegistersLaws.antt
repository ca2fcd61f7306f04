-- The law of the registers: there are seven.
-- Assumes nothing.
use Rattle.std.specs.Prelude.{◌≡◌, refl, length}
use Rattle.rules.specs.declared.Report.{Report}
use Rattle.held.specs.declared.Search.{Search}
use Rattle.held.specs.Held.{held_report}
use Rattle.registers.specs.Registers.{registers_at, registers_of, register_count}

seven_at : (r : Report) → length (registers_at r) ≡ register_count
seven_at (Report.Next p n) = refl
seven_at (Report.Stop a b c n) = refl
seven_at (Report.Refused n i) = refl

pub seven : (s : Search) → length (registers_of s) ≡ register_count
unfolding registers_of
seven s = seven_at (held_report s)
