-- `busdekker::busdekker_entered` meets its contract: the slot that is written lies within the slots, and what is stored there is what the
-- verdict tells.
-- Assumes nothing.
use Rattle.std.proofs.Common.{rules, FitsSigned, w32, ◌≡◌, length, to_z-of_z, ap, ap₂, ◌∙◌}
use Rattle.rules.specs.declared.Row.{Row}
use Rattle.rules.specs.Rules.{slots}
use Rattle.rules.specs.Rows.{row_of}
use Rattle.held.specs.declared.Search.{Search}
use Rattle.held.proofs.HeldLaws.{stores}
use Rattle.busdekker.proofs.busdekker_entered.Goals as goal

pub bounds-search-at : goal.bounds-search-at
bounds-search-at c =
    let long : length c.args.held.slots ≡ slots = search rules in
    (stores c.args.held _ _ _ long (rw (to_z-of_z c.ranges.point, to_z-of_z c.ranges.value) at c.judge_parts-v.ensures)).room

pub offset_bounds-search-at : goal.offset_bounds-search-at
offset_bounds-search-at c =
    let long : length c.args.held.slots ≡ slots = search rules in
    let room = (stores c.args.held _ _ _ long (rw (to_z-of_z c.ranges.point, to_z-of_z c.ranges.value) at c.judge_parts-v.ensures)).room in
    search rules

pub returns : goal.returns
returns c =
    let long : length c.args.held.slots ≡ slots = search rules in
    let s = stores c.args.held _ _ _ long (rw (to_z-of_z c.ranges.point, to_z-of_z c.ranges.value) at c.judge_parts-v.ensures) in
    let fits : FitsSigned w32 c.judge_parts-v.result.value = search rules in
    ap₂ (λ (r : Row) (h : Search). record { report = r; search = h }) (c.row_of.ensures ∙ ap row_of s.told) (rw (to_z-of_z fits) s.left)
