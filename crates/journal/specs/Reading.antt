-- The claim about the reader, for every text: it takes the spelling, and nothing less and nothing more.
-- Assumes nothing.
use Rattle.std.specs.Prelude.{ℕ, ◌≤◌, ◌≡◌, ◌↔◌, List, length, Ok}
use Rattle.rules.specs.declared.Opening.{Opening}
use Rattle.rules.specs.declared.Answer.{Answer}
use Rattle.rules.specs.Rules.{slots}
use Rattle.forms.specs.Entries.{filled, entries_of}
use Rattle.journal.specs.Answers.{points, values}
use Rattle.journal.specs.Spelling.{SheetText}

-- the reader takes a text as this opening and these answers
abbrev pub ReadAs : List ℕ → Opening → List Answer → Type 0
ReadAs text o answers = entries_of text ≡ filled o (points answers) (values answers)

pub record Reading (text : List ℕ) : Type 0 where
  -- it is read as an opening and answers exactly when it spells them, and the answers are no more than the slots. No bound on its
  -- length is asked: a text that spells no more answers than the slots is never too long
  pub exactly : (o : Opening) (answers : List Answer) → ReadAs text o answers ↔ (SheetText text o answers × (length answers ≤ slots))
  -- every other text is refused
  pub taken : (entries_of text).form ≡ Ok tt → (o : Opening) × (answers : List Answer) × ReadAs text o answers
  -- it is read as one opening and one list of answers only
  pub once : (o u : Opening) (xs ys : List Answer) → ReadAs text o xs → ReadAs text u ys → (o ≡ u) × (xs ≡ ys)
