-- `season::is_misshapen` meets its contract: the tests in their order.
-- Assumes nothing.
use Rattle.std.proofs.Common.{◌*◌, ◌<◌, ◌≤◌, arith, lt-ltb, le-ltb}
use Rattle.seasons.specs.Season.{most_outcomes, misshapen}
use Rattle.season.proofs.is_misshapen.Goals as goal

pub returns-then-n : goal.returns-then-n
unfolding misshapen
returns-then-n c = let many : 4 * most_outcomes < c.args.n = omega arith in simp (lt-ltb _ _ many)

pub returns : goal.returns
unfolding misshapen
returns c = let few : c.args.n ≤ 4 * most_outcomes = omega arith in simp (le-ltb _ _ few)
