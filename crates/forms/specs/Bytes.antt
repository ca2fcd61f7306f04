-- The bytes that stand in a sheet beside digits. A text is the list of its bytes.
-- Assumes nothing.
use Rattle.std.specs.Prelude.{ℕ}

-- CR LF ends a record
abbrev pub cr : ℕ
cr = 13

abbrev pub lf : ℕ
lf = 10

-- between fields
abbrev pub comma : ℕ
comma = 44

abbrev pub minus : ℕ
minus = 45

-- a field may stand between two of them
abbrev pub double_quote : ℕ
double_quote = 34
