-- `calls::put_row` meets its contract: a part of a list overwritten whole is its numbers stored one after the other.
-- Assumes nothing.
use Rattle.std.proofs.Common.{◌≡◌, ℕ, ◌+◌, ◌-◌, ◌≤◌, List, ◌++◌, length, drop, take, refl, sym, ap, ◌∙◌, arith}
use Rattle.std.proofs.Math.Seq.{take-length}
use Rattle.std.proofs.lemmas.List.Edits.{sets, sets-eq}
use Rattle.std.proofs.lemmas.Slice.{put_mid-paste}
use borrow.Rule.Slice.PartMut.{put_mid}
use Rattle.rules.specs.Rows.{row_numbers}
use Rattle.calls.proofs.put_row.Goals as goal

overwritten : (l vs : List ℕ) (at k : ℕ) → length vs ≡ k → at + length vs ≤ length l → put_mid at k l vs ≡ sets l at vs
overwritten l vs at k same h =
    put_mid-paste at k l vs vs (length vs) refl same refl
    ∙ ap (λ (part : List ℕ). take at l ++ part ++ drop (at + length vs) l) (take-length vs)
    ∙ sym (sets-eq vs l at h)

pub returns : goal.returns
returns c =
    let x = c.args in
    let eight : length (row_numbers x.row) ≡ x.at + 8 - x.at = omega arith in
    ap (put_mid x.at (x.at + 8 - x.at) x.rows.now) c.copy_from_slice.ensures.after
    ∙ overwritten x.rows.now (row_numbers x.row) x.at _ eight c.requires
