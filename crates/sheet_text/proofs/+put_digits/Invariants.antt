-- The measure of `sheet_text::put_digits`, which calls itself with the tenth part, is the number.
-- Assumes nothing.
use Rattle.sheet_text.proofs.+put_digits.Given as goal

abbrev pub decreases-put_digits : goal.decreases-put_digits
decreases-put_digits l = l.n
