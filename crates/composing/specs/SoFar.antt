-- The loop that writes the answers: what it has written so far, and what is left; and the sheet as the opening's record with the answers
-- behind it. No callable function's contract cites this.
-- Assumes nothing.
use Rattle.std.specs.Prelude.{ℕ, ◌+◌, ◌≤◌, ◌<◌, ◌≡◌, refl, false, ℤ, pos, length, take, drop, get_or}
use Rattle.std.proofs.Common.{sym, ◌∙◌, add-one, arith, length-append, drop_of_length-le, take-suc, drop-cons}
use Rattle.std.proofs.Math.Path.{ap}
use mathlib.Core.List.{List, [], ◌∷◌, ◌++◌, append-nil, append_assoc}
use Rattle.rules.specs.declared.Opening.{Opening}
use Rattle.rules.specs.declared.Progress.{Progress}
use Rattle.rules.specs.declared.Report.{Report}
use Rattle.rules.specs.Search.{is_refused, begin_of, take_of, progress_of, report_of}
use Rattle.rules.proofs.SearchLaws.{progress_more}
use Rattle.clean_sheets.specs.Clean.{called_at, with_points, answers_text, sheet_text}
use Rattle.clean_sheets.proofs.AnswersLaws.{report_before}
use Rattle.sheet_text.specs.Pieces.{opening_text, answer_text, Puts}
use Rattle.sheet_text.specs.PiecesLaws.{sheet_records, answer_record, same_size, puts_none, puts_more, in_words}

-- ---- the answers

-- the point that a report calls for; of a stop and of a refusal none is asked
abbrev pub called_by : Report → ℕ
called_by (Report.Next point taken) = point
called_by (Report.Stop lower upper better taken) = 0
called_by (Report.Refused number place) = 0

-- where the search stands after the first i values, and what is then left to write
abbrev standing : Opening → List ℤ → ℕ → Progress
standing o vs i = progress_of o (take i vs)

abbrev left_of : Opening → List ℤ → ℕ → List ℕ
left_of o vs i = answers_text (with_points o (standing o vs i) (drop i vs))

-- of all the values, from scratch
abbrev pub all_answers : Opening → List ℤ → List ℕ
all_answers o vs = answers_text (with_points o (begin_of o) vs)

-- i answers have been written behind `at`, and the next goes to `end`
pub record SoFar (o : Opening) (vs : List ℤ) (before : List ℕ) (at : ℕ) (after : List ℕ) (end i : ℕ) : Type 0 where
  pub within : i ≤ length vs
  pub done : List ℕ
  pub puts : Puts before at done after end
  pub whole : done ++ left_of o vs i ≡ all_answers o vs

pub none_yet : (o : Opening) (vs : List ℤ) (out : List ℕ) (at : ℕ) → at ≤ length out → SoFar o vs out at out at 0
unfolding progress_of
none_yet o vs out at room = record { within = omega arith; done = []; puts = puts_none out at room; whole = refl }

module _ {o : Opening} {vs : List ℤ} {before : List ℕ} {at : ℕ} {after : List ℕ} {end i : ℕ} (f : SoFar o vs before at after end i)
    (h : i < length vs) where
  abbrev next_value : ℤ
  next_value = get_or vs i (pos 0)

  left_is : drop i vs ≡ next_value ∷ drop (i + 1) vs
  left_is = drop-cons vs i (pos 0) h ∙ ap (λ (n : ℕ). next_value ∷ drop n vs) (sym (add-one i))

  -- one value more
  stands_next : take_of o (standing o vs i) next_value ≡ standing o vs (i + 1)
  stands_next =
      sym (progress_more o (take i vs) next_value)
      ∙ ap (progress_of o) (sym (take-suc vs i (pos 0) h) ∙ ap (λ (n : ℕ). take n vs) (sym (add-one i)))

  -- the next record, and what is left after it
  abbrev pub record_next : List ℕ
  record_next = answer_text (called_at o (standing o vs i)) next_value

  cut : left_of o vs i ≡ record_next ++ left_of o vs (i + 1)
  unfolding with_points
  cut =
      ap (λ (l : List ℤ). answers_text (with_points o (standing o vs i) l)) left_is
      ∙ answer_record (called_at o (standing o vs i)) next_value (with_points o (take_of o (standing o vs i) next_value) (drop (i + 1) vs))
      ∙ ap (λ (p : Progress). record_next ++ answers_text (with_points o p (drop (i + 1) vs))) stands_next

  joined : (f.done ++ record_next) ++ left_of o vs (i + 1) ≡ all_answers o vs
  joined = append_assoc f.done record_next (left_of o vs (i + 1)) ∙ ap (λ (l : List ℕ). f.done ++ l) (sym cut) ∙ f.whole

  pub next_fits : at + length (all_answers o vs) ≤ length before → end + length record_next ≤ length after
  next_fits room =
      omega (
        arith,
        room,
        f.puts.ends,
        same_size f.puts,
        ap length joined,
        length-append (f.done ++ record_next) (left_of o vs (i + 1)),
        length-append f.done record_next,
      )

  pub one_more : {last : List ℕ} {stop : ℕ} → Puts after end record_next last stop → SoFar o vs before at last stop (i + 1)
  one_more q = record { within = omega arith; done = f.done ++ record_next; puts = puts_more f.puts q; whole = joined }

-- the report on the first i values calls for its point
pub called_next : (o : Opening) (vs : List ℤ) (i : ℕ) → is_refused (progress_of o vs) ≡ false → i < length vs
    → called_by (report_of o (take i vs)) ≡ called_at o (standing o vs i)
called_next o vs i fine h = ap called_by (report_before o vs fine i h)

pub all_written : {o : Opening} {vs : List ℤ} {before : List ℕ} {at : ℕ} {after : List ℕ} {end i : ℕ}
    → SoFar o vs before at after end i → length vs ≤ i → Puts before at (all_answers o vs) after end
unfolding with_points answers_text
all_written {o} {vs} {i = i} f h =
    in_words f.puts
    (sym (append-nil f.done)
    ∙ ap (λ (l : List ℤ). f.done ++ answers_text (with_points o (standing o vs i) l)) (sym (drop_of_length-le vs h))
    ∙ f.whole)
    refl refl

-- ---- the whole sheet: the opening's record, and then the answers'

abbrev pub whole_sheet : Opening → List ℤ → List ℕ
whole_sheet o vs = sheet_text o (with_points o (begin_of o) vs)

module _ (o : Opening) (vs : List ℤ) where
  pub whole_text : whole_sheet o vs ≡ opening_text o ++ all_answers o vs
  whole_text = sheet_records o (with_points o (begin_of o) vs)

  pub whole_length : length (whole_sheet o vs) ≡ length (opening_text o) + length (all_answers o vs)
  whole_length = ap length whole_text ∙ length-append (opening_text o) (all_answers o vs)
