-- What a program's buffer holds once it has run, and what it wrote.
-- Assumes nothing.
use Rattle.std.specs.Prelude.{ℕ, ◌≡◌, List, Option, IfSome}
use Rattle.std.specs.Io.KnownBytes.{Appends, Keeps}
use Rattle.printing.specs.Printed.{placed}
use Rattle.input.specs.declared.Filled.{Filled}
use Rattle.input.specs.Input.{Within}
use Rattle.replies.specs.declared.Reply.{Reply}
use Rattle.replies.specs.Reply.{Answers, reply_of}
use Rattle.programs.specs.declared.Ending.{Ending}

-- the reply to an input of which so much was read. What was read this leaves open: see `Made` and `Told`
pub record Ran (reply : Reply) (before after : List ℕ) : Type 0 where
  pub filled : Filled
  pub text : List ℕ
  pub within : Within filled text
  pub length : ℕ
  pub answers : Answers reply filled text before length after

-- unless the input could not be read, the buffer holds the reply to all that the input had left, of any length, where that is known
abbrev pub Made : Ending → Reply → Option (List ℕ) → List ℕ → List ℕ → Type 0
Made Ending.Replied reply input before after = IfSome input (λ text. after ≡ placed (reply_of reply text) before)
Made Ending.Unreadable reply input before after = Unit {0}
Made Ending.Unwritable reply input before after = IfSome input (λ text. after ≡ placed (reply_of reply text) before)

-- what was written: a run that replied added that reply to what the output held, nothing more; one whose input could not be read wrote
-- nothing. When the one or the other comes no contract can say, since none says when a read or a write fails; and of standard input and
-- output the bytes are not known. So that the programs read the one and write the other is only tested
abbrev pub Told : Ending → Reply → Option (List ℕ) → Option (List ℕ) → Option (List ℕ) → Type 0
Told Ending.Replied reply input before after = IfSome input (λ text. Appends before after (reply_of reply text))
Told Ending.Unreadable reply input before after = Keeps before after
Told Ending.Unwritable reply input before after = Unit {0}
