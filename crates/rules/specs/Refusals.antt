-- The table "Refused, by place of check" of document 01: the numbers 1 to 9, and the rows of the opening and of each answer, in the order
-- written; with number 17 of request 2026-07 among them. A refusal is its number, and 0 stands for none.
-- Assumes nothing.
use Rattle.std.specs.Prelude.{ℕ, zero, suc, ◌≡◌, Option, None, Some, Bool, cond, ◌&&◌, ◌||◌, List, [], ◌∷◌, ltb, ℤ, pos, nat_abs}
use Rattle.std.specs.Int.Signed.{lt_z}
use Rattle.integers.specs.Signs.{eq_z}
use Rattle.rules.specs.declared.Opening.{Opening}
use Rattle.rules.specs.declared.Refusal.{Refusal}
use Rattle.rules.specs.Rules.{highest, largest_tolerance, largest_share, largest_value}

-- ---- the numbers, in the papers' words

-- method not 0, 1 or 2
abbrev pub unknown_method : ℕ
unknown_method = 1

-- an end out of range
abbrev pub end_out_of_range : ℕ
end_out_of_range = 2

-- ends equal
abbrev pub ends_equal : ℕ
ends_equal = 3

-- τ out of range
abbrev pub tolerance_out_of_range : ℕ
tolerance_out_of_range = 4

-- p outside 0 to 100
abbrev pub share_out_of_range : ℕ
share_out_of_range = 17

-- the search had stopped
abbrev pub had_stopped : ℕ
had_stopped = 5

-- its point, where one is given, is not the one called for
abbrev pub not_called_for : ℕ
not_called_for = 6

-- value out of range
abbrev pub value_out_of_range : ℕ
value_out_of_range = 7

-- second answer, and the first two values are both positive or both negative
abbrev pub same_sign : ℕ
same_sign = 8

-- a held search whose count is above the slots
abbrev pub count_above : ℕ
count_above = 9

-- ---- with its place

abbrev pub refusal : (number place : ℕ) → Refusal
refusal number place = record { number = number; place = place }

-- ---- the first that applies

pub record Check : Type 0 where
  pub applies : Bool
  pub number : ℕ

abbrev pub check : Bool → ℕ → Check
check b n = record { applies = b; number = n }

abbrev pub first_applying : List Check → ℕ
first_applying [] = 0
first_applying (c ∷ cs) = cond c.applies c.number (first_applying cs)

-- the number, if there is a refusal: code has no 0 for none
abbrev pub if_any : ℕ → Option ℕ
if_any zero = None
if_any (suc n) = Some (suc n)

-- ---- the causes

-- z is not from `low` to `high`
abbrev pub outside : ℕ → ℕ → ℤ → Bool
outside low high z = lt_z z (pos low) || lt_z (pos high) z

-- z is not from −10,000 to 10,000
abbrev pub too_large : ℤ → Bool
too_large v = ltb largest_value (nat_abs v)

-- both positive or both negative
unfoldable pub same_side : ℤ → ℤ → Bool
same_side v w = (lt_z (pos 0) v && lt_z (pos 0) w) || (lt_z v (pos 0) && lt_z w (pos 0))

-- ---- the rows

-- Opening
unfoldable pub opening_refusal : Opening → ℕ
opening_refusal o =
    first_applying
    (check (outside 0 2 o.method) unknown_method
    ∷ check (outside 0 highest o.first || outside 0 highest o.second) end_out_of_range
    ∷ check (eq_z o.first o.second) ends_equal
    ∷ check (outside 1 largest_tolerance o.tolerance) tolerance_out_of_range
    ∷ check (outside 0 largest_share o.share) share_out_of_range
    ∷ [])

-- Each answer: whether the search had stopped, whether the point is another than the one called for (false where none is given),
-- whether the value is out of range, and whether it is a second answer on the first one's side
unfoldable pub answer_refusal : (stopped other large same : Bool) → ℕ
answer_refusal stopped other large same =
    first_applying
    (check stopped had_stopped
    ∷ check other not_called_for
    ∷ check large value_out_of_range
    ∷ check same same_sign
    ∷ [])

-- an opening that no refusal meets
pub record Accepted (o : Opening) : Type 0 where
  pub accepted : opening_refusal o ≡ 0
