-- The registers of a held search, request 2026-09, in its order: flags, point called for, lower, upper, better, answers taken, value entry.
-- Assumes nothing.
use Rattle.std.specs.Prelude.{ℕ, List, [], ◌∷◌, get_or}
use Rattle.rules.specs.declared.Report.{Report}
use Rattle.held.specs.declared.Search.{Search}
use Rattle.held.specs.Held.{held_report}

-- the flags: bit 0, a value is awaited; bit 1, stopped
abbrev pub awaited : ℕ
awaited = 1

abbrev pub stopped : ℕ
stopped = 2

-- register 1 is 0 after the stop, and 2 to 4 are 0 before it; register 6 reads as 0. Those of a search that is itself refused are never read
abbrev pub registers_at : Report → List ℕ
registers_at (Report.Next point taken) = awaited ∷ point ∷ 0 ∷ 0 ∷ 0 ∷ taken ∷ 0 ∷ []
registers_at (Report.Stop lower upper better taken) = stopped ∷ 0 ∷ lower ∷ upper ∷ better ∷ taken ∷ 0 ∷ []
registers_at (Report.Refused number place) = 0 ∷ 0 ∷ 0 ∷ 0 ∷ 0 ∷ 0 ∷ 0 ∷ []

unfoldable pub registers_of : Search → List ℕ
registers_of s = registers_at (held_report s)

-- how many they are
abbrev pub register_count : ℕ
register_count = 7

-- where the point called for is read, and where a value is entered
abbrev pub point_register : ℕ
point_register = 1

abbrev pub entry_register : ℕ
entry_register = 6

-- the point called for, as register 1 shows it. After the stop none is, and 0 stands there
abbrev pub called_for : Search → ℕ
called_for s = get_or (registers_of s) point_register 0
