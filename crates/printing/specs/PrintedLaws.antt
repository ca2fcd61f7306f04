-- Laws of printed records: no record of 32-bit numbers is longer than the longest, and what is written into a buffer lies within it.
-- Assumes nothing.
use Rattle.std.specs.Prelude.{ℕ, ◌+◌, ◌*◌, ◌^◌, ◌≤◌, ◌<◌, ◌≡◌, refl, Bool, true, false, cond, List, ◌++◌, leb, length, drop}
use Rattle.std.proofs.Common.{arith, length-append, length-drop, leb-true}
use Rattle.lines.specs.Decimal.{number_fields}
use Rattle.lines.proofs.DecimalLaws.{Each, fields_length}
use Rattle.printing.specs.Printed.{record_with, longest_record, placed, placed_length}

-- ---- records

pub record_parts : (word numbers : List ℕ) → length (record_with word numbers) ≡ length word + length (number_fields numbers) + 2
unfolding record_with
record_parts word numbers = rw (length-append, length-append)

pub record_short : (word numbers : List ℕ) → Each (λ n. n < 2 ^ 32) numbers → length word + 11 * length numbers ≤ 48
    → length (record_with word numbers) ≤ longest_record
record_short word numbers h k = omega (arith, record_parts word numbers, fields_length numbers h)

-- ---- a text in a buffer

pub placed_within : (text buffer : List ℕ) → placed_length text buffer ≤ length buffer
unfolding placed_length
placed_within text buffer = go (leb (length text) (length buffer)) refl
  where
    go : (b : Bool) → leb (length text) (length buffer) ≡ b → placed_length text buffer ≤ length buffer
    go true e = rw e (omega (arith, leb-true (length text) (length buffer) e))
    go false e = rw e (omega arith)

-- what was written lies within the buffer as it then is
length_placed : (text buffer : List ℕ) → length (placed text buffer) ≡ length buffer
unfolding placed
length_placed text buffer = go (leb (length text) (length buffer)) refl
  where
    go : (b : Bool) → leb (length text) (length buffer) ≡ b → length (cond b (text ++ drop (length text) buffer) buffer) ≡ length buffer
    go true e = simp (length-append, length-drop) (omega (arith, leb-true (length text) (length buffer) e))
    go false e = refl

pub written_within : (text buffer after : List ℕ) (n : ℕ) → n ≡ placed_length text buffer → after ≡ placed text buffer → n ≤ length after
written_within text buffer after n e f = rw (e, f) (omega (arith, placed_within text buffer, length_placed text buffer))
