-- Worked examples, each by computation. The texts are those of document 01 where it has one.
-- Assumes nothing.
use Rattle.std.specs.Prelude.{◌≡◌, refl, [], ◌∷◌, length}
use Rattle.rules.specs.declared.Report.{Report}
use Rattle.lines.specs.Decimal.{decimal_within, decimal_of, number_fields}
use Rattle.printing.specs.Printed.{record_with, record_of, longest_record, placed, placed_length}

-- `next,33,2` CR LF
next : record_of (Report.Next 33 2) ≡ 110 ∷ 101 ∷ 120 ∷ 116 ∷ 44 ∷ 51 ∷ 51 ∷ 44 ∷ 50 ∷ 13 ∷ 10 ∷ []
unfolding record_of record_with number_fields decimal_of decimal_within
next = refl

-- `stop,41,43,43,5` CR LF
stop : record_of (Report.Stop 41 43 43 5) ≡ 115 ∷ 116 ∷ 111 ∷ 112 ∷ 44 ∷ 52 ∷ 49 ∷ 44 ∷ 52 ∷ 51 ∷ 44 ∷ 52 ∷ 51 ∷ 44 ∷ 53 ∷ 13 ∷ 10 ∷ []
unfolding record_of record_with number_fields decimal_of decimal_within
stop = refl

-- `stop,0,2,2,2` CR LF
stop_at_zero : record_of (Report.Stop 0 2 2 2) ≡ 115 ∷ 116 ∷ 111 ∷ 112 ∷ 44 ∷ 48 ∷ 44 ∷ 50 ∷ 44 ∷ 50 ∷ 44 ∷ 50 ∷ 13 ∷ 10 ∷ []
unfolding record_of record_with number_fields decimal_of decimal_within
stop_at_zero = refl

-- `refuse,6,6` CR LF
refuse : record_of (Report.Refused 6 6) ≡ 114 ∷ 101 ∷ 102 ∷ 117 ∷ 115 ∷ 101 ∷ 44 ∷ 54 ∷ 44 ∷ 54 ∷ 13 ∷ 10 ∷ []
unfolding record_of record_with number_fields decimal_of decimal_within
refuse = refl

-- the bound is reached
longest_record_lem : length (record_of (Report.Stop 4294967295 4294967295 4294967295 4294967295)) ≡ longest_record
unfolding record_of record_with number_fields decimal_of decimal_within
longest_record_lem = refl

-- a text of two bytes in a buffer of three, of two and of one
with_room : placed (7 ∷ 8 ∷ []) (1 ∷ 2 ∷ 3 ∷ []) ≡ 7 ∷ 8 ∷ 3 ∷ []
unfolding placed
with_room = refl

just_fits : placed_length (7 ∷ 8 ∷ []) (1 ∷ 2 ∷ []) ≡ 2
unfolding placed_length
just_fits = refl

too_short : placed (7 ∷ 8 ∷ []) (1 ∷ []) ≡ 1 ∷ []
unfolding placed
too_short = refl

none_written : placed_length (7 ∷ 8 ∷ []) (1 ∷ []) ≡ 0
unfolding placed_length
none_written = refl
