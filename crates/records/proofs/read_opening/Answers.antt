-- `records::read_opening` meets its contract: where the second pair does not end the record, it goes the way of the definition from x1 on again.
-- Assumes nothing.
use Rattle.std.proofs.Common.{◌≡◌, sym, ap, ◌∙◌, rules, w32, to_z, of_z}
use Rattle.scanning.specs.Scan.{opened_then, opened_from, opening_scan}
use Rattle.records.proofs.read_opening.Goals as goal

pub returns-in_default : goal.returns-in_default
unfolding opening_scan
returns-in_default c =
    let s = c.args.text.now in
    let q = c.in_ok-head.head in
    let m : to_z w32 (of_z w32 q.value.0) ≡ q.value.0 = search rules in
    let x : to_z w32 (of_z w32 q.value.1) ≡ q.value.1 = search rules in
    (rw (m, x) at c.read_with_share.ensures)
    ∙ sym
    (ap (opened_from s) (sym c.scan_pair.ensures ∙ c.in_ok-head.was)
    ∙ ap (opened_then s q.value.0 q.value.1 q.next) (sym c.scan_pair-2.ensures ∙ c.in_default.is))
