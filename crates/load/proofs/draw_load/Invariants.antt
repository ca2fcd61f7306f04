-- The loop of `load::draw_load`: at each turn it holds what the first values came to, and the next draw; the quote ends it.
-- Assumes nothing.
use Rattle.std.proofs.Common.{◌-◌}
use Rattle.rules.specs.Search.{most_of}
use Rattle.loading.specs.Loading.{load_opening}
use Rattle.loading.proofs.DrawingLaws.{Drawing}
use Rattle.load.proofs.draw_load.Given as goal

abbrev pub invariant-loop-load : goal.invariant-loop-load
invariant-loop-load l = Drawing l.seed l.draw l.load

abbrev pub decreases-loop-load : goal.decreases-loop-load
decreases-loop-load l = most_of (load_opening l.seed) - l.load.search.count
