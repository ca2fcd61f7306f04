-- No clean sheet of an accepted opening with answers whose numbers have five digits at most is longer than the bound.
-- Assumes nothing.
use Rattle.std.specs.Prelude.{ℕ, suc, ◌+◌, ◌*◌, ◌^◌, ◌≤◌, ◌<◌, ◌≡◌, Bool, true, false, cond, List, [], ◌∷◌, ℤ, pos, negsuc, nat_abs, length}
use Rattle.std.proofs.Common.{arith, length-append}
use Rattle.integers.specs.Signs.{eq_z}
use Rattle.rules.specs.declared.Opening.{Opening}
use Rattle.rules.specs.declared.Answer.{Answer}
use Rattle.rules.specs.declared.Progress.{Progress}
use Rattle.rules.specs.Rules.{largest_share}
use Rattle.rules.proofs.RefusalsLaws.{Ranged, Opened}
use Rattle.rules.specs.Search.{take_of}
use Rattle.forms.specs.Bytes.{comma}
use Rattle.lines.proofs.DecimalLaws.{decimal_length}
use Rattle.journal.proofs.SpellingLaws.{Spellable, SpellableAnswers}
use Rattle.clean_sheets.specs.Clean.{called_at, with_points, number_text, answers_text, share_text, sheet_text}

-- ---- numbers

length_natural : (n k : ℕ) → n < 10 ^ suc k → length (number_text (pos n)) ≤ suc k
unfolding number_text
length_natural n k h = decimal_length n k h

length_ranged : {low high : ℕ} {z : ℤ} (k : ℕ) → Ranged low high z → high < 10 ^ suc k → length (number_text z) ≤ suc k
length_ranged {z = z} k r h = rw r.whole (length_natural (nat_abs z) k (omega (arith, r.most)))

length_integer : (z : ℤ) → Spellable z → length (number_text z) ≤ 6
unfolding number_text
length_integer (pos n) h = omega (arith, decimal_length n 4 (omega arith))
length_integer (negsuc n) h = omega (arith, decimal_length (suc n) 4 (omega arith))

-- ---- records

answer_length : (a : Answer) (answers : List Answer)
    → length (answers_text (a ∷ answers)) ≡ length (number_text a.point) + length (number_text a.value) + 3 + length (answers_text answers)
unfolding answers_text
answer_length a answers = rw (length-append, length-append) (omega arith)

-- a point called for has no minus: 14 bytes for each answer
pub answers_short : (o : Opening) (p : Progress) (vs : List ℤ) → SpellableAnswers (with_points o p vs)
    → length (answers_text (with_points o p vs)) ≤ 14 * length vs
unfolding with_points answers_text
answers_short o p [] h = omega arith
answers_short o p (v ∷ vs) h =
    let x = called_at o p in
    let rest = with_points o (take_of o p v) vs in
    let e : length (answers_text (with_points o p (v ∷ vs))) ≡ length (number_text (pos x)) + length (number_text v) + 3 + length (answers_text rest) =
    answer_length (record { point = pos x; value = v }) rest in
    omega (arith, e, length_natural x 4 (omega (arith, h.0)), length_integer v h.1, answers_short o (take_of o p v) vs h.2)

sheet_length : (o : Opening) (answers : List Answer)
    → length (sheet_text o answers)
    ≡ length (number_text o.method) + length (number_text o.first) + length (number_text o.second) + length (number_text o.tolerance) + 5
    + length (share_text o.share) + length (answers_text answers)
unfolding sheet_text
sheet_length o answers = rw (length-append, length-append, length-append, length-append, length-append) (omega arith)

-- a comma and three digits, or nothing
share_length : {p : ℤ} → Ranged 0 largest_share p → length (share_text p) ≤ 4
share_length {p} r = go (eq_z p (pos 0))
  where
    go : (b : Bool) → length (cond b [] (comma ∷ number_text p)) ≤ 4
    go true = omega arith
    go false = omega (arith, length_ranged 2 r (omega arith))

-- 24 bytes for the opening
pub sheet_short : (o : Opening) (answers : List Answer) → Opened o → length (sheet_text o answers) ≤ 24 + length (answers_text answers)
sheet_short o answers op =
    omega (
      arith,
      sheet_length o answers,
      share_length op.share,
      length_ranged 0 op.method (omega arith),
      length_ranged 4 op.first (omega arith),
      length_ranged 4 op.second (omega arith),
      length_ranged 3 op.tolerance (omega arith),
    )
