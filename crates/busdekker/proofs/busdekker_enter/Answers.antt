-- `busdekker::busdekker_enter` meets its contract: the slot that is written lies within the slots, and what is stored there is what the
-- step tells.
-- Assumes nothing.
use Rattle.std.proofs.Common.{rules, FitsSigned, w32, ◌≡◌, ◌<◌, length, to_z-of_z, ap, refl}
use Rattle.rules.specs.Rules.{slots}
use Rattle.rules.specs.Rows.{row_of}
use Rattle.numbered.specs.Inner.{numbered_of}
use Rattle.held.proofs.HeldLaws.{stores, verdict_on}
use Rattle.busdekker.proofs.busdekker_enter.Goals as goal

pub bounds-search-at : goal.bounds-search-at
bounds-search-at c =
    let s = c.args.search.now in
    let long : length s.slots ≡ slots = search rules in
    let is : c.step_enter-w.result ≡ numbered_of (verdict_on s c.args.point c.args.value) =
    rw (to_z-of_z c.ranges.point, to_z-of_z c.ranges.value) at c.step_enter-w.ensures in
    rw is (stores s c.args.point c.args.value _ long refl).room

pub offset_bounds-search-at : goal.offset_bounds-search-at
offset_bounds-search-at c =
    let s = c.args.search.now in
    let long : length s.slots ≡ slots = search rules in
    let is : c.step_enter-w.result ≡ numbered_of (verdict_on s c.args.point c.args.value) =
    rw (to_z-of_z c.ranges.point, to_z-of_z c.ranges.value) at c.step_enter-w.ensures in
    let room : c.step_enter-w.result.at < slots = rw is (stores s c.args.point c.args.value _ long refl).room in
    search rules

pub returns : goal.returns
returns c =
    let s = c.args.search.now in
    let long : length s.slots ≡ slots = search rules in
    let is : c.step_enter-w.result ≡ numbered_of (verdict_on s c.args.point c.args.value) =
    rw (to_z-of_z c.ranges.point, to_z-of_z c.ranges.value) at c.step_enter-w.ensures in
    let fits : FitsSigned w32 c.step_enter-w.result.value = search rules in
    let left = stores s c.args.point c.args.value _ long refl in
    (rw is (ap row_of left.told), rw (to_z-of_z fits, is) left.left)
