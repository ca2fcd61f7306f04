-- The measure of `lines::put_number`, which calls itself with the tenth part, is the number.
-- Assumes nothing.
use Rattle.lines.proofs.+put_number.Given as goal

abbrev pub decreases-put_number : goal.decreases-put_number
decreases-put_number l = l.n
