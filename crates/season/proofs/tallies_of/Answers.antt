-- `season::tallies_of` meets its contract: every outcome of the run is entered, in its order.
-- Assumes nothing.
use Rattle.std.proofs.Common.{ℕ, suc, ◌+◌, ◌*◌, ◌≤◌, List, length, ap, ◌∙◌, arith}
use Rattle.std.proofs.Math.ListN.{get_or}
use lib.Seq.{take_all}
use Rattle.seasons.specs.Season.{outcomes_of, tallies_of, most_outcomes}
use Rattle.seasons.specs.Inner.{largest_number}
use Rattle.seasons.proofs.RunLaws.{tallied_none, tallied_more, small_at, small_within, shaped}
use Rattle.season.proofs.tallies_of.Goals as goal

pub loop-i-init : goal.loop-i-init
loop-i-init c = rw c.no_tally-tallies.ensures (tallied_none c.args.numbers.now)

pub with_outcome-requires : goal.with_outcome-requires
with_outcome-requires c =
    let l = c.loop-i in
    let few : l.i ≤ most_outcomes = omega (arith, (shaped (length c.args.numbers.now) c.requires).few) in
    small_within few (small_at l.tallies l.i c.booked_as-k.result l.invariant.small)

pub loop-i-preserved : goal.loop-i-preserved
loop-i-preserved c =
    let ns = c.args.numbers.now in
    let l = c.loop-i in
    let room : 4 * suc l.i ≤ length ns = omega arith in
    let answers : get_or ns (4 * l.i + 2) 0 ≤ largest_number = omega (arith, c.type_inv.numbers (4 * l.i + 2)) in
    let quoted : get_or ns (4 * l.i + 3) 0 ≤ largest_number = omega (arith, c.type_inv.numbers (4 * l.i + 3)) in
    rw (c.with_outcome.ensures, c.booked_as-k.ensures, c.outcome_at-o.ensures) (tallied_more ns l.i l.tallies l.invariant room answers quoted)

pub returns : goal.returns
returns c =
    let ns = c.args.numbers.now in
    let l = c.loop-i in
    let all : length ns ≤ 4 * l.i = omega (arith, (shaped (length ns) c.requires).fours) in
    l.invariant.is ∙ ap (λ (ms : List ℕ). tallies_of (outcomes_of ms)) (take_all (4 * l.i) ns all)
