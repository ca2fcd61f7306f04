-- A line in the making.
-- Assumes nothing.
use Rattle.std.specs.Prelude.{ℕ}

-- the bytes that it has room for
abbrev pub longest_line : ℕ
longest_line = 50
