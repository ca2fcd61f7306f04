-- `season::season` meets its contract: a run that is misshapen is refused, and any other has its tallies.
-- Assumes nothing.
use Rattle.std.proofs.Common.{sym, ◌∙◌, length, arith}
use Rattle.seasons.proofs.RunLaws.{shaped, season_refused, season_is}
use Rattle.seasons.proofs.ClaimsHold.{every_season}
use Rattle.season.proofs.season.Goals as goal

pub returns-then-is_misshapen : goal.returns-then-is_misshapen
returns-then-is_misshapen c =
    let told = season_refused c.args.outcomes.now (sym c.is_misshapen.ensures ∙ c.if-is_misshapen.true) in
    record { value = rw c.no_tally.ensures told; every_season = every_season }

pub overflow_cast-count : goal.overflow_cast-count
overflow_cast-count c = omega (arith, (shaped (length c.args.outcomes.now) (sym c.is_misshapen.ensures ∙ c.if-is_misshapen.false)).few)

pub returns : goal.returns
returns c =
    let going = sym c.is_misshapen.ensures ∙ c.if-is_misshapen.false in
    record { value = season_is c.args.outcomes.now going _ c.tallies_of-tallies.ensures; every_season = every_season }
