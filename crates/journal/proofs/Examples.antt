-- A run and sheets, worked by hand: what the journal tells, what the calls answer and what the search holds in the end hold by
-- computation; each sheet is spelled byte by byte, clean ones too.
-- Assumes nothing.
use Rattle.std.specs.Prelude.{ℕ, ◌≤◌, ◌<◌, ◌≡◌, refl, Some, ℤ, pos, nat_abs, length, take}
use Rattle.std.proofs.Common.{sym, ap, subst, ◌∙◌, inl, inr, arith}
use mathlib.Core.List.{List, [], ◌∷◌, ◌++◌, map, zip_with}
use Rattle.integers.specs.Digits.{digits, halvings}
use Rattle.rules.specs.declared.Opening.{Opening}
use Rattle.rules.specs.declared.Answer.{Answer}
use Rattle.rules.specs.declared.Bracket.{Bracket}
use Rattle.rules.specs.declared.Report.{Report}
use Rattle.rules.specs.declared.Report.TheVariants.{Next, Stop, Refused}
use Rattle.rules.specs.Rules.{padded, method_of, tolerance_at, start_of, lower_of, upper_of}
use Rattle.rules.specs.Rules.{width_of, stopped_of, forward_of, displacement_of, linear_of, cross_of}
use Rattle.rules.specs.Rules.{rational_of, doubled_of, opposed, partner_of, streak_of, renewed_of, advance_of, step_of, reach_of, offset_of, next_of}
use Rattle.rules.specs.Refusals.{opening_refusal, answer_refusal, same_side}
use Rattle.rules.specs.Search.{turns_of, most_of, begin_of, offer_of, take_of, progress_of, bracket_report, report_at}
use Rattle.rules.specs.Streak.{streak_over}
use Rattle.held.specs.Held.{fresh_of, standing_of, held_report, enter_of}
use Rattle.forms.specs.Number.{all_digits, value_from, signed_of, number_of}
use Rattle.forms.specs.Entries.{integer_of, field_of}
use Rattle.forms.specs.Bytes.{cr, lf}
use Rattle.forms.proofs.Examples.{bytes, up_to100_with, up_to100, negative}
use Rattle.journal.specs.Spelling.{digit, Digits, Numeral, Field, AnswersText, ShareText, SheetText}
use Rattle.journal.specs.Spelling.{CleanNumeral, CleanAnswers, CleanShare, CleanText, Clean}
use Rattle.journal.proofs.SpellingLaws.{field_read}
use Rattle.journal.proofs.CleanLaws.{clean_field, one_numeral, one_text, clean_spells}
use Rattle.journal.specs.Journal.{stop_of, point_called, journal_report, refusal_of, journal_with, told_of, journal_after, told_all, brackets_of}
use Rattle.journal.specs.Run.{Call, by_value, into, offered, reports_of, search_after, journal_of}

abbrev answer : ℤ → ℤ → Answer
answer p v = record { point = p; value = v }

-- from the lower end to the upper
record Ends : Type 0 where
  lower : ℕ
  upper : ℕ

abbrev between : ℕ → ℕ → Ends
between lower upper = record { lower = lower; upper = upper }

abbrev ends_of : Bracket → Ends
ends_of k = between (lower_of k) (upper_of k)

-- ---- a run by M from 0 to 100 with τ 1, by value and into the host's own search in a mixture

abbrev calls : List Call
calls =
    by_value (answer (pos 0) (negative 50))
    -- 100 is called for
    ∷ into (answer (pos 33) (pos 5))
    -- a value out of range
    ∷ by_value (answer (pos 100) (pos 10001))
    -- both below target
    ∷ into (answer (pos 100) (negative 3))
    ∷ into (answer (pos 100) (pos 100))
    ∷ by_value (answer (pos 33) (negative 10))
    ∷ into (answer (pos 41) (negative 2))
    ∷ by_value (answer (pos 43) (pos 1))
    -- the search had stopped
    ∷ into (answer (pos 43) (pos 1))
    ∷ []

abbrev reports : List Report
reports =
    Next 100 1 ∷ Refused 6 1 ∷ Refused 7 1 ∷ Refused 8 1 ∷ Next 33 2 ∷ Next 41 3 ∷ Next 43 4 ∷ Stop 41 43 43 5 ∷ Refused 5 5 ∷ []

abbrev entries : List Answer
entries =
    answer (pos 0) (negative 50) ∷ answer (pos 100) (pos 100) ∷ answer (pos 33) (negative 10) ∷ answer (pos 41) (negative 2) ∷ answer (pos 43) (pos 1) ∷ []

-- the ends of the journal's brackets after each entry, from the second on
abbrev ends : List Ends
ends = between 0 100 ∷ between 33 100 ∷ between 41 100 ∷ between 41 43 ∷ []

record WorkedRun : Type 0 where
  -- what the journal tells, what it holds in the end, and its brackets
  told : told_all up_to100 [] (map offered calls) ≡ reports
  journal : journal_of up_to100 calls ≡ entries
  brackets : map ends_of (brackets_of entries) ≡ ends
  -- the running number after each of them, and s by looking back from each of them
  running : map (λ (k : Bracket). k.streak) (brackets_of entries) ≡ 0 ∷ 1 ∷ 2 ∷ 0 ∷ []
  back : map (λ (n : ℕ). streak_over (map width_of (brackets_of (take n entries)))) (2 ∷ 3 ∷ 4 ∷ 5 ∷ []) ≡ 0 ∷ 1 ∷ 2 ∷ 0 ∷ []
  -- what the calls answer, the search's own report after the three refusals, and what the search holds in the end
  answered : reports_of (fresh_of up_to100) calls ≡ reports
  own : held_report (search_after (fresh_of up_to100) (take 4 calls)) ≡ Next 100 1
  search : search_after (fresh_of up_to100) calls
      ≡ record {
        opening = up_to100;
        count = 5;
        slots = padded (negative 50 ∷ pos 100 ∷ negative 10 ∷ negative 2 ∷ pos 1 ∷ []);
      }

worked_run : WorkedRun
unfolding stop_of point_called journal_report refusal_of journal_with told_of journal_after told_all brackets_of reports_of search_after
    standing_of held_report enter_of
    method_of tolerance_at start_of stopped_of forward_of displacement_of linear_of cross_of rational_of doubled_of opposed partner_of streak_of renewed_of
    advance_of step_of reach_of offset_of next_of opening_refusal answer_refusal same_side
    begin_of offer_of take_of progress_of bracket_report report_at streak_over zip_with
worked_run = record { told = refl; journal = refl; brackets = refl; running = refl; back = refl; answered = refl; own = refl; search = refl }

-- ---- the bound is reached: by M from 0 to 2 with τ 1, t is 0, two answers may be needed, and with the second the search stops

abbrev up_to2 : Opening
up_to2 = record { method = pos 1; first = pos 0; second = pos 2; tolerance = pos 1; share = pos 0 }

abbrev two_calls : List Call
two_calls = by_value (answer (pos 0) (negative 1)) ∷ into (answer (pos 2) (pos 1)) ∷ []

bound_reached : length (journal_of up_to2 two_calls) ≡ most_of up_to2
unfolding stop_of point_called refusal_of journal_with journal_after same_side method_of turns_of digits halvings
bound_reached = refl

-- ---- numbers and their bytes

digits_of_42 : Digits (bytes "00042") 42
digits_of_42 =
    Digits.more (Digits.more (Digits.more (Digits.more (Digits.one 0 (omega arith)) 0 (omega arith)) 0 (omega arith)) 4 (omega arith)) 2 (omega arith)

leading_zeros : Numeral (bytes "00042") (pos 42)
leading_zeros = Numeral.plain digits_of_42 (omega arith)

negated_42 : Numeral (bytes "-00042") (negative 42)
negated_42 = Numeral.negated digits_of_42 (omega arith)

minus_zero : Numeral (bytes "-0") (pos 0)
minus_zero = Numeral.negated (Digits.one 0 (omega arith)) (omega arith)

-- of one digit
one_digit : (d : ℕ) → d ≤ 9 → Numeral (digit d ∷ []) (pos d)
one_digit d h = Numeral.plain (Digits.one d h) (omega arith)

hundred : Numeral (bytes "100") (pos 100)
hundred = Numeral.plain (Digits.more (Digits.more (Digits.one 1 (omega arith)) 0 (omega arith)) 0 (omega arith)) (omega arith)

minus_fifty : Numeral (bytes "-50") (negative 50)
minus_fifty = Numeral.negated (Digits.more (Digits.one 5 (omega arith)) 0 (omega arith)) (omega arith)

-- ---- fields and their bytes

enclosed_fifty : Field (bytes "\"-50\"") (negative 50)
enclosed_fifty = Field.enclosed minus_fifty

-- ---- sheets and their bytes

-- an opening, its fifth field or none, and what follows
up_to_100 : {s t : List ℕ} {p : ℤ} {answers : List Answer} → ShareText s p → AnswersText t answers
    → SheetText (bytes "1,0,100,1" ++ s ++ t) (up_to100_with p) answers
up_to_100 =
    SheetText.sheet (Field.bare (one_digit 1 (omega arith))) (Field.bare (one_digit 0 (omega arith))) (Field.bare hundred)
    (Field.bare (one_digit 1 (omega arith)))

-- alone, with its line end and without
opening_ended : SheetText (bytes "1,0,100,1\r\n") up_to100 []
opening_ended = up_to_100 ShareText.absent AnswersText.ended

opening_unended : SheetText (bytes "1,0,100,1") up_to100 []
opening_unended = up_to_100 ShareText.absent AnswersText.unended

-- with a fifth field, for p
largest_share : SheetText (bytes "1,0,100,1,\"100\"\r\n") (up_to100_with (pos 100)) []
largest_share = up_to_100 (ShareText.present (Field.enclosed hundred)) AnswersText.ended

-- a fifth field of 0 is the same opening as none
zero_share : SheetText (bytes "1,0,100,1,0\r\n") up_to100 []
zero_share = up_to_100 (ShareText.present (Field.bare (one_digit 0 (omega arith)))) AnswersText.ended

minus_zero_share : SheetText (bytes "1,0,100,1,-0\r\n") up_to100 []
minus_zero_share = up_to_100 (ShareText.present (Field.bare minus_zero)) AnswersText.ended

-- with −0, with leading zeros, and with some fields between double quotes; the last line end is absent
two_answers : SheetText (bytes "1,-0,\"100\",1\r\n-0,\"-50\"\r\n100,00042") up_to100 (answer (pos 0) (negative 50) ∷ answer (pos 100) (pos 42) ∷ [])
two_answers =
    SheetText.sheet (Field.bare (one_digit 1 (omega arith))) (Field.bare minus_zero) (Field.enclosed hundred) (Field.bare (one_digit 1 (omega arith)))
    ShareText.absent
    (AnswersText.next (Field.bare minus_zero) enclosed_fifty
    (AnswersText.next (Field.bare hundred) (Field.bare leading_zeros) AnswersText.unended))

-- ---- clean numbers, and a clean sheet

clean_digit : (d : ℕ) → d ≤ 9 → CleanNumeral (digit d ∷ []) (pos d)
clean_digit d h = CleanNumeral.plain (Digits.one d h) (omega arith) (inl refl)

clean_hundred : CleanNumeral (bytes "100") (pos 100)
clean_hundred =
    CleanNumeral.plain (Digits.more (Digits.more (Digits.one 1 (omega arith)) 0 (omega arith)) 0 (omega arith)) (omega arith) (inr (omega arith))

clean_minus_fifty : CleanNumeral (bytes "-50") (negative 50)
clean_minus_fifty = CleanNumeral.negated (Digits.more (Digits.one 5 (omega arith)) 0 (omega arith)) (omega arith) (inr (omega arith)) (omega arith)

clean_up_to_100 : {s t : List ℕ} {p : ℤ} {answers : List Answer} → CleanShare s p → CleanAnswers t answers
    → CleanText (bytes "1,0,100,1" ++ s ++ cr ∷ lf ∷ t) (up_to100_with p) answers
clean_up_to_100 = CleanText.sheet (clean_digit 1 (omega arith)) (clean_digit 0 (omega arith)) clean_hundred (clean_digit 1 (omega arith))

one_clean_answer : CleanText (bytes "1,0,100,1\r\n0,-50\r\n") up_to100 (answer (pos 0) (negative 50) ∷ [])
one_clean_answer = clean_up_to_100 CleanShare.absent (CleanAnswers.next (clean_digit 0 (omega arith)) clean_minus_fifty CleanAnswers.none)

-- four fields where p is 0, five where it is not
clean_without_share : CleanText (bytes "1,0,100,1\r\n") up_to100 []
clean_without_share = clean_up_to_100 CleanShare.absent CleanAnswers.none

clean_with_share : CleanText (bytes "1,0,100,1,100\r\n") (up_to100_with (pos 100)) []
clean_with_share =
    let not_zero : pos 100 ≡ pos 0 → ⊥ = λ e. let n : ◌≡◌ {A = ℕ} 100 0 = ap nat_abs e in omega arith in
    clean_up_to_100 (CleanShare.present clean_hundred not_zero) CleanAnswers.none

-- a fifth field of 0 is taken, but not clean
zero_share_unclean : Clean (bytes "1,0,100,1,0\r\n") → ⊥
zero_share_unclean c =
    let one = one_text (clean_spells c zero_share (omega arith)) clean_without_share in
    absurd (omega (arith, ap length one))

-- a field that is read as d is clean only if it is that digit's byte
unclean : (f : List ℕ) (d : ℕ) → d ≤ 9 → field_of f ≡ Some (pos d) → 1 < length f → (z : ℤ) → CleanNumeral f z → ⊥
unclean f d h e long z c =
    let same : z ≡ pos d = ap integer_of (sym (field_read (clean_field c)) ∙ e) in
    let one = one_numeral (subst (CleanNumeral f) same c) (clean_digit d h) in
    absurd (omega (arith, ap length one))

-- 01, −0, and a 5 between double quotes
no_leading_zero : (z : ℤ) → CleanNumeral (bytes "01") z → ⊥
unfolding field_of number_of signed_of all_digits value_from
no_leading_zero = unclean (bytes "01") 1 (omega arith) refl (omega arith)

no_minus_zero : (z : ℤ) → CleanNumeral (bytes "-0") z → ⊥
unfolding field_of number_of signed_of all_digits value_from
no_minus_zero = unclean (bytes "-0") 0 (omega arith) refl (omega arith)

no_quotes : (z : ℤ) → CleanNumeral (bytes "\"5\"") z → ⊥
unfolding field_of number_of signed_of all_digits value_from
no_quotes = unclean (bytes "\"5\"") 5 (omega arith) refl (omega arith)
