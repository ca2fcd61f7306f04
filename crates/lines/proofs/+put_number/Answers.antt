-- `lines::put_number`, which calls itself, meets its contract: behind the digits of its tenth part, of which a number below 10 has
-- none, stands the last.
-- Assumes nothing.
use Rattle.std.proofs.Common.{ℕ, ◌≡◌, ◌/◌, ◌%◌, ◌≤◌, ◌<◌, ap, ◌∙◌, arith, List, [], ◌∷◌, ◌++◌, append_assoc, length, length-append}
use Rattle.lines.specs.Decimal.{decimal_of, digit_byte}
use Rattle.lines.proofs.DecimalLaws.{decimal_one, decimal_more}
use Rattle.lines.proofs.+put_number.Goals as goal
use Rattle.lines.proofs.+put_number.Goals.{then-n-ge10, else-n-ge10}

module _ (n : ℕ) (old line : List ℕ) where
  last_of_more : 10 ≤ n → line ≡ old ++ decimal_of (n / 10) → line ++ digit_byte (n % 10) ∷ [] ≡ old ++ decimal_of n
  last_of_more h e = rw (e, decimal_more n h, append_assoc)

  last_of_one : n < 10 → line ≡ old → line ++ digit_byte (n % 10) ∷ [] ≡ old ++ decimal_of n
  last_of_one h e = let d : n % 10 ≡ n = omega arith in rw (e, d, decimal_one n h)

pub put_number-requires : goal.put_number-requires
put_number-requires t c =
    (omega arith, omega (arith, simp length-append at (ap length (decimal_more c.args.n (omega arith)))))

pub put_byte-requires : goal.put_byte-requires
put_byte-requires t c =
    let old = c.args.line.now.items in
    let joined = c.if-n-ge10 in
    elim joined.branch [
      | then-n-ge10 w ↦ omega (arith, simp length-append at (ap length (last_of_more c.args.n old joined.line.items (omega arith) (cc))))
      | else-n-ge10 w ↦ omega (arith, simp length-append at (ap length (last_of_one c.args.n old joined.line.items (omega arith) (cc))))
    ]

pub returns : goal.returns
returns t c =
    elim c.if-n-ge10.branch [
      | then-n-ge10 w ↦ c.put_byte.ensures ∙ last_of_more _ _ _ (omega arith) (cc)
      | else-n-ge10 w ↦ c.put_byte.ensures ∙ last_of_one _ _ _ (omega arith) (cc)
    ]
