-- An input that begins with more bytes than the longest text is answered alike, whatever follows; and what is written lies within the
-- buffer.
-- Assumes nothing.
use Rattle.std.specs.Prelude.{ℕ, ◌≤◌, ◌<◌, ◌≡◌, List, [], ◌++◌, length}
use Rattle.std.proofs.Common.{ap, ◌∙◌, arith, lt-ltb, length-append}
use Rattle.forms.specs.Entries.{longest_text, whole_text, too_long, refused, entries_of}
use Rattle.printing.specs.Printed.{placed, placed_length}
use Rattle.printing.specs.PrintedLaws.{written_within}
use Rattle.outcomes.specs.Sheet.{sheet_of}
use Rattle.changeover.specs.Changeover.{sheet_under}
use Rattle.input.specs.declared.Filled.{Filled}
use Rattle.replies.specs.declared.Reply.{Reply}
use Rattle.replies.specs.Reply.{reply_of, Replied, Answers}

entries_long : (text : List ℕ) → longest_text < length text → entries_of text ≡ refused too_long whole_text
unfolding entries_of
entries_long text h = rw (lt-ltb longest_text (length text) h)

-- two texts that are too long have one reply
reply_long : (reply : Reply) (s t : List ℕ) → longest_text < length s → longest_text < length t → reply_of reply s ≡ reply_of reply t
unfolding sheet_of sheet_under
reply_long Reply.Record s t h k = rw (entries_long s h, entries_long t k)
reply_long Reply.CleanSheet s t h k = rw (entries_long s h, entries_long t k)
reply_long Reply.ChangedSheet s t h k = rw (entries_long s h, entries_long t k)

pub goes_on : {reply : Reply} {buffer before : List ℕ} {n : ℕ} {after : List ℕ} → longest_text < length buffer → Replied reply buffer before n after
    → (rest : List ℕ) → Replied reply (buffer ++ rest) before n after
goes_on {reply} {buffer} {before} h r rest =
    let same = reply_long reply buffer (buffer ++ rest) h (omega (arith, length-append buffer rest)) in
    record {
      long = r.long ∙ ap (λ (t : List ℕ). placed_length t before) same;
      text = r.text ∙ ap (λ (t : List ℕ). placed t before) same;
    }

pub answers_within : (reply : Reply) (filled : Filled) (buffer before : List ℕ) (n : ℕ) (after : List ℕ) → Answers reply filled buffer before n after
    → n ≤ length after
answers_within reply Filled.Full buffer before n after a = let r = a [] in written_within _ _ _ _ r.long r.text
answers_within reply (Filled.Ended k) buffer before n after r = written_within _ _ _ _ r.long r.text
answers_within reply Filled.Failed buffer before n after r = omega arith
