-- The loop's invariant of `readout::put_words`: the bytes of the words still to come make of the reply what it is to hold.
-- Assumes nothing.
use Rattle.std.proofs.Common.{◌≡◌, ◌++◌, drop}
use Rattle.registers.specs.Exchange.{word_bytes}
use Rattle.readout.proofs.put_words.Given as goal

abbrev pub invariant-loop-word : goal.invariant-loop-word
invariant-loop-word l = l.reply.items ++ word_bytes (drop l.word-index l.words) ≡ l.initial.reply.items ++ word_bytes l.words
