-- The spelling of a trial sheet, as document 01 says it under "Held searches and sheets", with line ends and quotes as request 2026-01
-- has them, and the fifth field of the first record as request 2026-07 has it: which bytes spell which numbers. Then the clean spelling of
-- requests 2026-02 and 2026-07, one of them. Both are relations of their own between bytes and numbers, and know nothing of how a sheet is
-- read or written. A text is the list of its bytes.
-- Assumes nothing.
use Rattle.std.specs.Prelude.{ℕ, ◌+◌, ◌*◌, ◌≤◌, ◌<◌, ◌≡◌, ◌⊎◌, List, [], ◌∷◌, ◌++◌, length, get_or, ℤ, pos, neg_ℤ}
use Rattle.rules.specs.declared.Opening.{Opening}
use Rattle.rules.specs.declared.Answer.{Answer}
use Rattle.forms.specs.Bytes.{cr, lf, comma, minus, double_quote}

-- ---- numbers

-- the bytes of the digits 0 to 9 are 48 to 57
abbrev pub digit : ℕ → ℕ
digit d = 48 + d

-- a row of one or more digits, and the number that it makes: one digit, or one digit more at the end
pub data Digits : List ℕ → ℕ → Type 0 where
  one : (d : ℕ) → d ≤ 9 → Digits (digit d ∷ []) d
  more : {s : List ℕ} {n : ℕ} → Digits s n → (d : ℕ) → d ≤ 9 → Digits (s ++ digit d ∷ []) (n * 10 + d)

abbrev pub most_digits : ℕ
most_digits = 5

-- A number is an optional minus and 1 to 5 digits; leading zeros and −0 are taken.
pub data Numeral : List ℕ → ℤ → Type 0 where
  plain : {s : List ℕ} {n : ℕ} → Digits s n → length s ≤ most_digits → Numeral s (pos n)
  negated : {s : List ℕ} {n : ℕ} → Digits s n → length s ≤ most_digits → Numeral (minus ∷ s) (neg_ℤ (pos n))

-- A field is a number, or stands between two double quotes, with only a number between them.
pub data Field : List ℕ → ℤ → Type 0 where
  bare : {s : List ℕ} {z : ℤ} → Numeral s z → Field s z
  enclosed : {s : List ℕ} {z : ℤ} → Numeral s z → Field (double_quote ∷ s ++ double_quote ∷ []) z

-- ---- records

-- Each later record is point,value, and stands after the CR LF of the one before. The last record's CR LF is optional.
pub data AnswersText : List ℕ → List Answer → Type 0 where
  unended : AnswersText [] []
  ended : AnswersText (cr ∷ lf ∷ []) []
  next : {f g t : List ℕ} {a : Answer} {answers : List Answer} → Field f a.point → Field g a.value → AnswersText t answers
      → AnswersText (cr ∷ lf ∷ f ++ comma ∷ g ++ t) (a ∷ answers)

-- A fifth field for p, after a comma; or none, and p is 0.
pub data ShareText : List ℕ → ℤ → Type 0 where
  absent : ShareText [] (pos 0)
  present : {f : List ℕ} {p : ℤ} → Field f p → ShareText (comma ∷ f) p

-- The first record is method,x0,x1,τ or method,x0,x1,τ,p. There is no header.
pub data SheetText : List ℕ → Opening → List Answer → Type 0 where
  sheet : {f g h k s t : List ℕ} {o : Opening} {answers : List Answer}
      → Field f o.method → Field g o.first → Field h o.second → Field k o.tolerance → ShareText s o.share
      → AnswersText t answers
      → SheetText (f ++ comma ∷ g ++ comma ∷ h ++ comma ∷ k ++ s ++ t) o answers

-- ---- clean sheets: no quotes, no leading zeros, no −0, no fifth field where p is 0, CR LF after every record

-- there is one digit, or the first is no 0
abbrev pub NoLeadingZero : List ℕ → Type 0
NoLeadingZero s = (length s ≡ 1) ⊎ (digit 0 < get_or s 0 0)

-- A clean number is one with no leading zero, and no −0.
pub data CleanNumeral : List ℕ → ℤ → Type 0 where
  plain : {s : List ℕ} {n : ℕ} → Digits s n → length s ≤ most_digits → NoLeadingZero s → CleanNumeral s (pos n)
  negated : {s : List ℕ} {n : ℕ} → Digits s n → length s ≤ most_digits → NoLeadingZero s → 0 < n → CleanNumeral (minus ∷ s) (neg_ℤ (pos n))

-- Each later record is point,value and CR LF.
pub data CleanAnswers : List ℕ → List Answer → Type 0 where
  none : CleanAnswers [] []
  next : {f g t : List ℕ} {a : Answer} {answers : List Answer}
      → CleanNumeral f a.point → CleanNumeral g a.value → CleanAnswers t answers
      → CleanAnswers (f ++ comma ∷ g ++ cr ∷ lf ∷ t) (a ∷ answers)

-- No fifth field where p is 0, and one where it is not.
pub data CleanShare : List ℕ → ℤ → Type 0 where
  absent : CleanShare [] (pos 0)
  present : {f : List ℕ} {p : ℤ} → CleanNumeral f p → (p ≡ pos 0 → ⊥) → CleanShare (comma ∷ f) p

-- The first record is method,x0,x1,τ or method,x0,x1,τ,p, and CR LF.
pub data CleanText : List ℕ → Opening → List Answer → Type 0 where
  sheet : {f g h k s t : List ℕ} {o : Opening} {answers : List Answer}
      → CleanNumeral f o.method → CleanNumeral g o.first → CleanNumeral h o.second → CleanNumeral k o.tolerance
      → CleanShare s o.share → CleanAnswers t answers
      → CleanText (f ++ comma ∷ g ++ comma ∷ h ++ comma ∷ k ++ s ++ cr ∷ lf ∷ t) o answers

-- a text is clean if it is so for some opening and answers
abbrev pub Clean : List ℕ → Type 0
Clean text = (o : Opening) × (answers : List Answer) × CleanText text o answers
