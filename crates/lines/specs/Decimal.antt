-- Numbers as they are printed, in decimal. A text is the list of its bytes.
-- Assumes nothing.
use Rattle.std.specs.Prelude.{ℕ, zero, suc, ◌+◌, ◌/◌, ◌%◌, true, false, List, [], ◌∷◌, ◌++◌, ltb}

-- the byte of a digit from 0 to 9
abbrev pub digit_byte : ℕ → ℕ
digit_byte d = 48 + d

-- the decimal digits of n, the most significant first, where there are at most f of them
unfoldable pub decimal_within : ℕ → ℕ → List ℕ
decimal_within zero n = []
decimal_within (suc f) n =
    elim (ltb n 10) [ true ↦ digit_byte n ∷ [] | false ↦ decimal_within f (n / 10) ++ (digit_byte (n % 10) ∷ []) ]

-- the decimal digits of n, of which there are at most n + 1; 0 has one
unfoldable pub decimal_of : ℕ → List ℕ
decimal_of n = decimal_within (suc n) n

-- a comma and its digits, for each number
unfoldable pub number_fields : List ℕ → List ℕ
number_fields [] = []
number_fields (n ∷ ns) = 44 ∷ decimal_of n ++ number_fields ns
