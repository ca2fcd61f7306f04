-- What is known of an input from what was read of it.
-- Assumes nothing.
use Rattle.std.specs.Prelude.{ℕ, ◌<◌, List, length, take, Option}
use Rattle.std.specs.Io.KnownBytes.{Consumes, IsAtEnd}
use Rattle.input.specs.declared.Filled.{Filled}

-- an input that ended did so before the buffer was full
abbrev pub Within : Filled → List ℕ → Type 0
Within Filled.Full buffer = Unit {0}
Within (Filled.Ended n) buffer = n < length buffer
Within Filled.Failed buffer = Unit {0}

-- what the reader had left, `before` and `after`, where that is known: the buffer holds what it gave, in order and with nothing left
-- out. That is the whole buffer; or so many bytes, and then none were left; or, where a read failed, some of the first
abbrev pub Took : Filled → List ℕ → Option (List ℕ) → Option (List ℕ) → Type 0
Took Filled.Full buffer before after = Consumes before after buffer
Took (Filled.Ended n) buffer before after = Consumes before after (take n buffer) × IsAtEnd after
Took Filled.Failed buffer before after = (n : ℕ) × Consumes before after (take n buffer)
