-- What the contract of an inner function cites beside the definitions: what is said of a survey before a pair is looked for. Nothing here need be believed.
-- Assumes nothing.
use Rattle.std.specs.Prelude.{cond, List, ltb, ℤ, length, Result, Ok, Err}
use Rattle.rules.specs.declared.Refusal.{Refusal}
use Rattle.rules.specs.Refusals.{refusal, value_out_of_range}
use Rattle.surveying.specs.Survey.{misplaced_survey, is_misplaced, large_at}

-- 21, or else 7 with the first position of a value out of range
abbrev pub checked_of : (lowest pitch : ℤ) (values : List ℤ) → Result (Unit {0}) Refusal
checked_of lowest pitch vs =
    cond (is_misplaced lowest pitch (length vs)) (Err (refusal misplaced_survey 0))
    (cond (ltb (large_at vs) (length vs)) (Err (refusal value_out_of_range (large_at vs))) (Ok tt))
