-- Worked examples, each by computation.
-- Assumes nothing.
use Rattle.std.specs.Prelude.{◌≡◌, refl, [], ◌∷◌}
use Rattle.lines.specs.Decimal.{decimal_within, decimal_of, number_fields}

-- `0`
zero_number : decimal_of 0 ≡ 48 ∷ []
unfolding decimal_of decimal_within
zero_number = refl

-- `10`
two_digits : decimal_of 10 ≡ 49 ∷ 48 ∷ []
unfolding decimal_of decimal_within
two_digits = refl

-- `4294967295`
largest : decimal_of 4294967295 ≡ 52 ∷ 50 ∷ 57 ∷ 52 ∷ 57 ∷ 54 ∷ 55 ∷ 50 ∷ 57 ∷ 53 ∷ []
unfolding decimal_of decimal_within
largest = refl

-- `,41,0`
two_fields : number_fields (41 ∷ 0 ∷ []) ≡ 44 ∷ 52 ∷ 49 ∷ 44 ∷ 48 ∷ []
unfolding number_fields decimal_of decimal_within
two_fields = refl
