-- The text of an opening and answers is clean, where the numbers have five digits at most.
-- Assumes nothing.
use Rattle.std.specs.Prelude.{ℕ, zero, suc, ◌/◌, ◌%◌, ◌≤◌, ◌≡◌, refl, Bool, true, false, cond, List, [], ◌∷◌, ℤ, pos, negsuc, length}
use Rattle.std.proofs.Common.{sym, ap, subst, subst₂, ◌∙◌, inl, inr, div-add-mod', arith}
use Rattle.integers.specs.Signs.{eq_z}
use Rattle.integers.proofs.SignsLaws.{never, eq_z_true, eq_eq_z}
use Rattle.rules.specs.declared.Opening.{Opening}
use Rattle.rules.specs.declared.Answer.{Answer}
use Rattle.lines.specs.Decimal.{decimal_of}
use Rattle.lines.proofs.DecimalLaws.{by_digits, decimal_one, decimal_more, decimal_prints, decimal_length}
use Rattle.forms.specs.Bytes.{comma}
use Rattle.journal.specs.Spelling.{Digits, most_digits, NoLeadingZero, CleanNumeral, CleanAnswers, CleanShare, CleanText}
use Rattle.journal.proofs.SpellingLaws.{Spellable, SpellableOpening, SpellableAnswers}
use Rattle.clean_sheets.specs.Clean.{number_text, answers_text, share_text, sheet_text}

decimal_digits : (n : ℕ) → Digits (decimal_of n) n
decimal_digits = by_digits (λ n. Digits (decimal_of n) n) (λ n h. rw (decimal_one n h) (Digits.one n (omega arith))) more
  where
    more : (n : ℕ) → 10 ≤ n → Digits (decimal_of (n / 10)) (n / 10) → Digits (decimal_of n) n
    more n h e = subst₂ Digits (sym (decimal_more n h)) (div-add-mod' n 10) (Digits.more e (n % 10) (omega arith))

no_leading_zero : (n : ℕ) → NoLeadingZero (decimal_of n)
no_leading_zero zero = inl (ap length (decimal_one 0 (omega arith)))
no_leading_zero (suc n) = inr ((decimal_prints (suc n)).first (omega arith))

five_digits : (n : ℕ) → n ≤ 99999 → length (decimal_of n) ≤ most_digits
five_digits n h = decimal_length n 4 (omega arith)

number_clean : (z : ℤ) → Spellable z → CleanNumeral (number_text z) z
unfolding number_text
number_clean (pos n) h = CleanNumeral.plain (decimal_digits n) (five_digits n h) (no_leading_zero n)
number_clean (negsuc n) h = CleanNumeral.negated (decimal_digits (suc n)) (five_digits (suc n) h) (no_leading_zero (suc n)) (omega arith)

answers_clean : (answers : List Answer) → SpellableAnswers answers → CleanAnswers (answers_text answers) answers
unfolding answers_text
answers_clean [] h = CleanAnswers.none
answers_clean (a ∷ answers) h = CleanAnswers.next (number_clean a.point h.0) (number_clean a.value h.1) (answers_clean answers h.2)

share_clean : (p : ℤ) → Spellable p → CleanShare (share_text p) p
share_clean p h = go (eq_z p (pos 0)) refl
  where
    go : (b : Bool) → eq_z p (pos 0) ≡ b → CleanShare (cond b [] (comma ∷ number_text p)) p
    go true e = subst (CleanShare []) (sym (eq_z_true p (pos 0) e)) CleanShare.absent
    go false e = CleanShare.present (number_clean p h) (λ z. never (sym (eq_eq_z p (pos 0) z) ∙ e))

pub text_clean : (o : Opening) (answers : List Answer) → SpellableOpening o → SpellableAnswers answers → CleanText (sheet_text o answers) o answers
unfolding sheet_text
text_clean o answers h k =
    CleanText.sheet (number_clean o.method h.method) (number_clean o.first h.first) (number_clean o.second h.second)
    (number_clean o.tolerance h.tolerance) (share_clean o.share h.share) (answers_clean answers k)
