-- Laws of the clean spelling: a clean text is one that the reader takes; an opening and a list of answers have one clean text at most; and
-- a clean text that spells them is that one.
-- Assumes nothing.
use Rattle.std.specs.Prelude.{ℕ, zero, suc, ◌+◌, ◌≤◌, ◌<◌, ◌≡◌, refl, cond, List, [], ◌∷◌, ◌++◌, eqb, ℤ, pos, neg_ℤ, nat_abs, length, get_or}
use Rattle.std.proofs.Common.{sym, ap, subst₂, ◌∙◌, inl, inr, zero-add, arith, le-leb, ne_eqb, length-append}
use Rattle.std.proofs.Math.ListN.{get_or-append}
use Rattle.std.specs.Int.Signed.{le_z}
use Rattle.integers.proofs.SignsLaws.{never}
use Rattle.rules.specs.declared.Opening.{Opening}
use Rattle.rules.specs.declared.Answer.{Answer}
use Rattle.rules.specs.Rules.{slots}
use Rattle.forms.specs.Bytes.{cr, lf, comma, minus, double_quote}
use Rattle.journal.specs.Spelling.{digit, Digits, Numeral, Field, AnswersText, ShareText, SheetText}
use Rattle.journal.specs.Spelling.{NoLeadingZero, CleanNumeral, CleanAnswers, CleanShare, CleanText, Clean}
use Rattle.journal.proofs.SpellingLaws.{some_digit, spelled_read, reading}

-- ---- a clean text is one that the reader takes

pub clean_field : {f : List ℕ} {z : ℤ} → CleanNumeral f z → Field f z
clean_field (CleanNumeral.plain r h l) = Field.bare (Numeral.plain r h)
clean_field (CleanNumeral.negated r h l p) = Field.bare (Numeral.negated r h)

-- each record's CR LF stands before what follows it
clean_answers : {t : List ℕ} {answers : List Answer} → CleanAnswers t answers → AnswersText (cr ∷ lf ∷ t) answers
clean_answers CleanAnswers.none = AnswersText.ended
clean_answers (CleanAnswers.next p v r) = AnswersText.next (clean_field p) (clean_field v) (clean_answers r)

clean_share : {s : List ℕ} {p : ℤ} → CleanShare s p → ShareText s p
clean_share CleanShare.absent = ShareText.absent
clean_share (CleanShare.present p n) = ShareText.present (clean_field p)

pub clean_sheet : {t : List ℕ} {o : Opening} {answers : List Answer} → CleanText t o answers → SheetText t o answers
clean_sheet (CleanText.sheet m x y w p r) =
    SheetText.sheet (clean_field m) (clean_field x) (clean_field y) (clean_field w) (clean_share p) (clean_answers r)

-- ---- digits with no leading zero are those of one number only

same_first : (s : List ℕ) (d : ℕ) → 1 ≤ length s → get_or (s ++ digit d ∷ []) 0 0 ≡ get_or s 0 0
same_first s d h = get_or-append s (digit d ∷ []) 0 0 h

-- a first digit that is no 0 makes a number that is no 0
first_some : {s : List ℕ} {n : ℕ} → Digits s n → digit 0 < get_or s 0 0 → 1 ≤ n
first_some (Digits.one d h) e = omega arith
first_some (Digits.more {s} {n} r d h) e =
    let k : 1 ≤ n = first_some r (rw (same_first s d (some_digit r)) at e) in
    omega arith

-- of two digits or more the first is no 0
leads : {s : List ℕ} {n : ℕ} (d : ℕ) → Digits s n → NoLeadingZero (s ++ digit d ∷ []) → digit 0 < get_or s 0 0
leads {s} d r (inl e) = absurd (omega (arith, some_digit r, length-append s (digit d ∷ [])))
leads {s} d r (inr e) = rw (same_first s d (some_digit r)) at e

digits_once : {s t : List ℕ} {n m : ℕ} → Digits s n → Digits t m → n ≡ m → NoLeadingZero s → NoLeadingZero t → s ≡ t
digits_once (Digits.one d h) (Digits.one e i) q k l = ap (λ (x : ℕ). digit x ∷ []) q
digits_once (Digits.one d h) (Digits.more {n = m} r e i) q k l =
    let p : 1 ≤ m = first_some r (leads e r l) in
    absurd (omega arith)
digits_once (Digits.more {n = n} r d h) (Digits.one e i) q k l =
    let p : 1 ≤ n = first_some r (leads d r k) in
    absurd (omega arith)
digits_once (Digits.more {n = n} r d h) (Digits.more {n = m} u e i) q k l =
    let front = digits_once r u (omega arith) (inr (leads d r k)) (inr (leads e u l)) in
    let last : d ≡ e = omega arith in
    λ j. front j ++ digit (last j) ∷ []

-- ---- a number has one clean numeral at most

-- z is below 0, by as much as n
below : (n : ℕ) → 0 < n → nat_abs (neg_ℤ (pos n)) ≡ n
below zero h = absurd (omega arith)
below (suc n) h = refl

not_below : (n m : ℕ) → 0 < m → pos n ≡ neg_ℤ (pos m) → ⊥
not_below n zero h e = absurd (omega arith)
not_below n (suc m) h e = never (sym (le-leb 0 n (omega arith)) ∙ ap (le_z (pos 0)) e)

same_numeral : {f g : List ℕ} {z w : ℤ} → CleanNumeral f z → CleanNumeral g w → z ≡ w → f ≡ g
same_numeral (CleanNumeral.plain r h l) (CleanNumeral.plain u i k) e = digits_once r u (ap nat_abs e) l k
same_numeral (CleanNumeral.plain {n = n} r h l) (CleanNumeral.negated {n = m} u i k p) e = absurd (not_below n m p e)
same_numeral (CleanNumeral.negated {n = n} r h l p) (CleanNumeral.plain {n = m} u i k) e = absurd (not_below m n p (sym e))
same_numeral (CleanNumeral.negated {n = n} r h l p) (CleanNumeral.negated {n = m} u i k q) e =
    ap (λ (s : List ℕ). minus ∷ s) (digits_once r u (sym (below n p) ∙ ap nat_abs e ∙ below m q) l k)

pub one_numeral : {f g : List ℕ} {z : ℤ} → CleanNumeral f z → CleanNumeral g z → f ≡ g
one_numeral a b = same_numeral a b refl

-- ---- so an opening and a list of answers have one clean text at most

one_answers : {t u : List ℕ} {answers : List Answer} → CleanAnswers t answers → CleanAnswers u answers → t ≡ u
one_answers CleanAnswers.none CleanAnswers.none = refl
one_answers (CleanAnswers.next p v r) (CleanAnswers.next q w s) =
    λ i. one_numeral p q i ++ comma ∷ one_numeral v w i ++ cr ∷ lf ∷ one_answers r s i

one_share : {s t : List ℕ} {p : ℤ} → CleanShare s p → CleanShare t p → s ≡ t
one_share CleanShare.absent CleanShare.absent = refl
one_share CleanShare.absent (CleanShare.present q m) = absurd (m refl)
one_share (CleanShare.present p n) CleanShare.absent = absurd (n refl)
one_share (CleanShare.present p n) (CleanShare.present q m) = ap (λ (f : List ℕ). comma ∷ f) (one_numeral p q)

pub one_text : {t u : List ℕ} {o : Opening} {answers : List Answer} → CleanText t o answers → CleanText u o answers → t ≡ u
one_text (CleanText.sheet a b c d p r) (CleanText.sheet e f g h q s) =
    λ i. one_numeral a e i ++ comma ∷ one_numeral b f i ++ comma ∷ one_numeral c g i ++ comma ∷ one_numeral d h i ++ one_share p q i
    ++ cr ∷ lf ∷ one_answers r s i

-- ---- a clean text has one LF for each record, and a text that spells n answers has no more than n + 1

unfoldable line_feeds : List ℕ → ℕ
line_feeds [] = 0
line_feeds (b ∷ s) = cond (eqb b lf) 1 0 + line_feeds s

feeds_append : (s t : List ℕ) → line_feeds (s ++ t) ≡ line_feeds s + line_feeds t
unfolding line_feeds
feeds_append [] t = sym (zero-add (line_feeds t))
feeds_append (b ∷ s) t = omega (arith, feeds_append s t)

-- a byte that is no LF
other_byte : (b : ℕ) (s : List ℕ) → (b ≡ lf → ⊥) → line_feeds (b ∷ s) ≡ line_feeds s
unfolding line_feeds
other_byte b s h = simp (ne_eqb b lf h) (zero-add (line_feeds s))

digits_feeds : {s : List ℕ} {n : ℕ} → Digits s n → line_feeds s ≡ 0
unfolding line_feeds
digits_feeds (Digits.one d h) = other_byte (digit d) [] (λ e. absurd (omega arith))
digits_feeds (Digits.more {s} r d h) =
    omega (arith, feeds_append s (digit d ∷ []), digits_feeds r, other_byte (digit d) [] (λ e. absurd (omega arith)))

numeral_feeds : {f : List ℕ} {z : ℤ} → Numeral f z → line_feeds f ≡ 0
unfolding line_feeds
numeral_feeds (Numeral.plain r h) = digits_feeds r
numeral_feeds (Numeral.negated {s} r h) = omega (arith, digits_feeds r)

field_feeds : {f : List ℕ} {z : ℤ} → Field f z → line_feeds f ≡ 0
unfolding line_feeds
field_feeds (Field.bare n) = numeral_feeds n
field_feeds (Field.enclosed {s} n) = omega (arith, feeds_append s (double_quote ∷ []), numeral_feeds n)

-- one field more, after a comma
more_feeds : (s : List ℕ) {f : List ℕ} {z : ℤ} → line_feeds s ≡ 0 → Field f z → line_feeds (s ++ comma ∷ f) ≡ 0
unfolding line_feeds
more_feeds s {f} e h = omega (arith, feeds_append s (comma ∷ f), field_feeds h)

share_feeds : {s : List ℕ} {p : ℤ} → ShareText s p → line_feeds s ≡ 0
unfolding line_feeds
share_feeds ShareText.absent = refl
share_feeds (ShareText.present {f} h) = more_feeds [] refl h

-- the first record has none
opening_feeds : {f g h k s : List ℕ} {m x y w p : ℤ} → Field f m → Field g x → Field h y → Field k w → ShareText s p
    → (t : List ℕ) → line_feeds (f ++ comma ∷ g ++ comma ∷ h ++ comma ∷ k ++ s ++ t) ≡ line_feeds t
opening_feeds {f} {g} {h} {k} {s} m x y w p t =
    let three = more_feeds (f ++ comma ∷ g) (more_feeds f (field_feeds m) x) y in
    let four = f ++ comma ∷ g ++ comma ∷ h ++ comma ∷ k in
    omega (arith, feeds_append (four ++ s) t, feeds_append four s, more_feeds (f ++ comma ∷ g ++ comma ∷ h) three w, share_feeds p)

answers_feeds : {t : List ℕ} {answers : List Answer} → AnswersText t answers → line_feeds t ≤ 1 + length answers
unfolding line_feeds
answers_feeds AnswersText.unended = omega arith
answers_feeds AnswersText.ended = omega arith
answers_feeds (AnswersText.next {f} {g} {t} p v r) =
    omega (arith, feeds_append (f ++ comma ∷ g) t, more_feeds f (field_feeds p) v, answers_feeds r)

sheet_feeds : {text : List ℕ} {o : Opening} {answers : List Answer} → SheetText text o answers → line_feeds text ≤ 1 + length answers
sheet_feeds (SheetText.sheet {t = t} m x y w p a) = omega (arith, opening_feeds m x y w p t, answers_feeds a)

clean_answers_feeds : {t : List ℕ} {answers : List Answer} → CleanAnswers t answers → line_feeds t ≡ length answers
unfolding line_feeds
clean_answers_feeds CleanAnswers.none = refl
clean_answers_feeds (CleanAnswers.next {f} {g} {t} p v r) =
    let row = more_feeds f (field_feeds (clean_field p)) (clean_field v) in
    omega (arith, feeds_append (f ++ comma ∷ g) (cr ∷ lf ∷ t), row, clean_answers_feeds r)

clean_sheet_feeds : {text : List ℕ} {o : Opening} {answers : List Answer} → CleanText text o answers → line_feeds text ≡ 1 + length answers
unfolding line_feeds
clean_sheet_feeds (CleanText.sheet {t = t} m x y w p a) =
    let head = opening_feeds (clean_field m) (clean_field x) (clean_field y) (clean_field w) (clean_share p) (cr ∷ lf ∷ t) in
    omega (arith, head, clean_answers_feeds a)

-- ---- so a clean text that spells an opening and no more answers than a search holds is their clean text

pub clean_spells : {text : List ℕ} {o : Opening} {answers : List Answer} → Clean text → SheetText text o answers → length answers ≤ slots
    → CleanText text o answers
clean_spells {text} {o} {answers} c s few =
    let fewer : length c.1 ≤ length answers = omega (arith, sheet_feeds s, clean_sheet_feeds c.2) in
    let e = (reading text).once c.0 o c.1 answers (spelled_read (clean_sheet c.2) (omega arith)) (spelled_read s few) in
    subst₂ (CleanText text) e.0 e.1 c.2
