-- `lent::enter_into` meets its contract: the slot that is written lies within the slots, and what is stored there is what the step tells.
-- Assumes nothing.
use Rattle.std.proofs.Common.{rules, FitsSigned, w32, ◌≡◌, length, to_z-of_z}
use Rattle.rules.specs.Rules.{slots}
use Rattle.held.proofs.HeldLaws.{stores}
use Rattle.lent.proofs.enter_into.Goals as goal

pub bounds-search-at : goal.bounds-search-at
bounds-search-at c =
    let long : length c.args.search.now.slots ≡ slots = search rules in
    (stores _ _ _ _ long (rw (to_z-of_z c.ranges.point, to_z-of_z c.ranges.value) at c.judge-v.ensures)).room

pub offset_bounds-search-at : goal.offset_bounds-search-at
offset_bounds-search-at c =
    let long : length c.args.search.now.slots ≡ slots = search rules in
    let room = (stores _ _ _ _ long (rw (to_z-of_z c.ranges.point, to_z-of_z c.ranges.value) at c.judge-v.ensures)).room in
    search rules

pub returns : goal.returns
returns c =
    let long : length c.args.search.now.slots ≡ slots = search rules in
    let s = stores _ _ _ _ long (rw (to_z-of_z c.ranges.point, to_z-of_z c.ranges.value) at c.judge-v.ensures) in
    let fits : FitsSigned w32 c.judge-v.result.value = search rules in
    (s.told, rw (to_z-of_z fits) s.left)
