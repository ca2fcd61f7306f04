-- The pieces that a clean sheet is written in: its fields and records, and a text put into a buffer. A text is the list of its bytes.
-- Assumes nothing.
use Rattle.std.specs.Prelude.{ℕ, ◌+◌, ◌≤◌, ◌≡◌, cond, List, [], ◌∷◌, ◌++◌, ℤ, pos, length, take, drop}
use Rattle.integers.specs.Signs.{eq_z}
use Rattle.rules.specs.declared.Opening.{Opening}
use Rattle.forms.specs.Bytes.{cr, lf, comma}
use Rattle.clean_sheets.specs.Clean.{number_text}

-- ---- fields and records

-- a number and the byte that ends its field
abbrev pub field_text : ℤ → ℕ → List ℕ
field_text z end = number_text z ++ end ∷ []

-- the last number of a record, and CR LF
abbrev pub last_text : ℤ → List ℕ
last_text z = field_text z cr ++ lf ∷ []

-- τ, and p where it is not 0, and CR LF
unfoldable pub tail_text : ℤ → ℤ → List ℕ
tail_text t p = cond (eq_z p (pos 0)) (last_text t) (field_text t comma ++ last_text p)

-- method,x0,x1,τ or method,x0,x1,τ,p and CR LF
unfoldable pub opening_text : Opening → List ℕ
opening_text o =
    field_text o.method comma ++ field_text o.first comma ++ field_text o.second comma ++ tail_text o.tolerance o.share

-- point,value and CR LF
unfoldable pub answer_text : ℕ → ℤ → List ℕ
answer_text x v = field_text (pos x) comma ++ last_text v

-- ---- a text put into a buffer

-- the text from the place `at` on, and the buffer's own bytes before it and behind it
abbrev pub spliced : List ℕ → ℕ → List ℕ → List ℕ
spliced buffer at text = take at buffer ++ text ++ drop (at + length text) buffer

-- the buffer was `before` and is `after`: the text, for which there was room, stands in it from `at` to `end`
pub record Puts (before : List ℕ) (at : ℕ) (text after : List ℕ) (end : ℕ) : Type 0 where
  pub room : at + length text ≤ length before
  pub bytes : after ≡ spliced before at text
  pub ends : end ≡ at + length text
