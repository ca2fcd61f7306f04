-- `season::with_outcome` meets its contract: by the kind of the outcome.
-- Assumes nothing.
use Rattle.std.proofs.Common.{◌≡◌, arith}
use Rattle.seasons.proofs.RunLaws.{enter_refused, enter_stopped, enter_unfinished}
use Rattle.season.proofs.with_outcome.Goals as goal

pub returns-then-o-gt-UNFINISHED : goal.returns-then-o-gt-UNFINISHED
returns-then-o-gt-UNFINISHED c = enter_refused c.args.tally c.args.o c.if-o-gt-UNFINISHED.true

pub returns-then-o-eq-STOPPED : goal.returns-then-o-eq-STOPPED
returns-then-o-eq-STOPPED c = let entered = enter_stopped c.args.tally c.args.o c.if-o-eq-STOPPED.true in cc

pub returns : goal.returns
returns c =
    let one : c.args.o.kind ≡ 1 = omega arith in
    let entered = enter_unfinished c.args.tally c.args.o one in
    cc
