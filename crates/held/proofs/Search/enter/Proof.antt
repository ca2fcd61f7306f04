-- `held::Search::enter` meets its contract: the slot and the count that `judge_parts` says are stored.
-- Assumes nothing.
use mathlib.Core.Path.{◌≡◌, ap, ap₂, ◌∙◌}
use native.Mathlib.Omega.{arith}
use lib.IntN.{ℤ}
use lib.ListN.{length}
use mir.Syntax.{w32}
use mir.Val.{SFits}
use Rattle.integers.proofs.Bounds.{read}
use Rattle.rules.specs.declared.Report.{Report}
use Rattle.rules.specs.Rules.{slots}
use Rattle.held.specs.declared.Search.{Search}
use Rattle.held.specs.declared.Entered.{Entered}
use Rattle.held.proofs.HeldLaws.{stored_by, Stores, stores}
use borrow.Author.Rules.{rules}
use Rattle.held.proofs.Search.enter.Statement.{statement}
use Rattle.held.proofs.Search.enter.Tie as tie

abbrev with_report : Report → Search → Entered
with_report r h = record { report = r; search = h }

long : (s : tie.Start) → length s.args.self.slots ≡ slots
long s = search rules

abbrev start_of : tie.After-judge_parts-v → tie.Start
start_of c = c.before.before.before

stored : (c : tie.After-judge_parts-v) → Stores (start_of c).args.self (start_of c).args.point (start_of c).args.value c.judge_parts-v.result
stored c = let s = start_of c in stores _ _ _ _ (long s) (rw (read s.ranges.point, read s.ranges.value) at c.judge_parts-v.ensures)

judge-parts-requires : tie.Need-judge_parts-v-requires
judge-parts-requires c κs = search rules

mul-kept : tie.Need-offset_bounds-next-at
mul-kept c = omega (arith, (stored c.before).room)

element-set-from-kept : tie.Need-bounds-next-at
element-set-from-kept c = (stored c.before).room

returns : tie.Need-returns
returns c =
    let s = (start_of c.before).args.self in
    let v = c.judge_parts-v.result in
    let f : SFits w32 v.value = search rules in
    ap (λ (z : ℤ). with_report v.report (stored_by s (record { report = v.report; count = v.count; at = v.at; value = z }))) (read f)
    ∙ ap₂ with_report (stored c.before).told (stored c.before).left

pub enter_spec : {M : Type 1} → statement M
enter_spec = tie.close (tie.spec judge-parts-requires mul-kept element-set-from-kept returns)
