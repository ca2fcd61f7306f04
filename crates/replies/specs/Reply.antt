-- What is replied to an input, from what was read of it.
-- Assumes nothing.
use Rattle.std.specs.Prelude.{ℕ, ◌≡◌, List, ◌++◌, take}
use Rattle.printing.specs.Printed.{record_of, placed, placed_length}
use Rattle.outcomes.specs.Sheet.{sheet_of}
use Rattle.clean_sheets.specs.Clean.{rewritten_of}
use Rattle.changeover.specs.Changeover.{changed_sheet}
use Rattle.input.specs.declared.Filled.{Filled}
use Rattle.replies.specs.declared.Reply.{Reply}

-- the reply to a text: the record of its report, the sheet cleaned, or the old sheet changed over
abbrev pub reply_of : Reply → List ℕ → List ℕ
reply_of Reply.Record text = record_of (sheet_of text).report
reply_of Reply.CleanSheet text = rewritten_of text
reply_of Reply.ChangedSheet text = changed_sheet text

-- the reply to an input, written into what was `before` and is `after`, and its length
pub record Replied (reply : Reply) (input before : List ℕ) (n : ℕ) (after : List ℕ) : Type 0 where
  pub long : n ≡ placed_length (reply_of reply input) before
  pub text : after ≡ placed (reply_of reply input) before

-- an input that ended is what was read; one that filled the buffer begins with it, and may go on in any way. Where a read failed
-- nothing is written
abbrev pub Answers : Reply → Filled → List ℕ → List ℕ → ℕ → List ℕ → Type 0
Answers reply Filled.Full buffer before n after = (rest : List ℕ) → Replied reply (buffer ++ rest) before n after
Answers reply (Filled.Ended k) buffer before n after = Replied reply (take k buffer) before n after
Answers reply Filled.Failed buffer before n after = (n ≡ 0) × (after ≡ before)
