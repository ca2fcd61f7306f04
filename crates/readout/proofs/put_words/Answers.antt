-- `readout::put_words` meets its contract: the bytes of the next word are the first of those still to come, and there is room for
-- all of these.
-- Assumes nothing.
use Rattle.std.proofs.Common.{ℕ, ◌≡◌, ◌+◌, ◌/◌, ◌%◌, ◌<◌, ap, ◌∙◌, sym, arith, List, [], ◌∷◌, ◌++◌, append_assoc, append-nil}
use Rattle.std.proofs.Common.{add-one, length, get_or, drop, drop-cons, length-append, drop_of_length-le}
use Rattle.registers.specs.Exchange.{word_bytes}
use Rattle.registers.proofs.ExchangeLaws.{word_bytes_length}
use Rattle.readout.proofs.put_words.Goals as goal

-- the two bytes of a word
abbrev be_bytes : ℕ → List ℕ
be_bytes word = word / 256 % 256 ∷ word % 256 ∷ []

next_word : (words : List ℕ) (i : ℕ) → i < length words → get_or words i 0 < 65536
    → be_bytes (get_or words i 0) ++ word_bytes (drop (i + 1) words) ≡ word_bytes (drop i words)
unfolding word_bytes
next_word words i h k =
    let high : get_or words i 0 / 256 % 256 ≡ get_or words i 0 / 256 = omega arith in
    rw (high, add-one i, drop-cons words i 0 h, word_bytes)

one_more : (reply bytes words whole : List ℕ) (i : ℕ) → i < length words → get_or words i 0 < 65536 → bytes ≡ be_bytes (get_or words i 0)
    → reply ++ word_bytes (drop i words) ≡ whole → (reply ++ bytes) ++ word_bytes (drop (i + 1) words) ≡ whole
one_more reply bytes words whole i h k b e =
    let n = next_word words i h k in
    rw (append_assoc, b) (ap (λ (l : List ℕ). reply ++ l) n ∙ e)

pub put_text-requires : goal.put_text-requires
put_text-requires c =
    let at = c.loop-word in
    let words = c.args.words.now in
    let e = one_more at.reply.items c.to_be_bytes.result words _ at.word-index (omega arith) (omega (arith, c.type_inv.words at.word-index))
    c.to_be_bytes.ensures at.invariant in
    omega (arith, simp length-append at (ap length e), word_bytes_length words)

pub loop-word-preserved : goal.loop-word-preserved
loop-word-preserved c =
    let at = c.loop-word in
    rw c.put_text.ensures
    (one_more at.reply.items c.to_be_bytes.result c.args.words.now _ at.word-index (omega arith) (omega (arith, c.type_inv.words at.word-index))
    c.to_be_bytes.ensures at.invariant)

pub returns : goal.returns
unfolding word_bytes
returns c =
    let none : drop c.loop-word.word-index c.args.words.now ≡ [] = drop_of_length-le c.args.words.now (omega arith) in
    sym (append-nil _) ∙ (rw none at c.loop-word.invariant)
