-- `sheet_outcomes::most_quoted` meets its contract: what is quoted fits 16 bits.
-- Assumes nothing.
use Rattle.std.proofs.Common.{sym, ap, ◌∙◌, arith}
use Rattle.seasons.specs.Sheets.{most_quoted}
use Rattle.seasons.proofs.SheetsHold.{quoted_few}
use Rattle.sheet_outcomes.proofs.most_quoted.Goals as goal

pub overflow_cast-result : goal.overflow_cast-result
overflow_cast-result c = omega (arith, ap most_quoted (sym c.quote.ensures ∙ c.in-Ok.is), quoted_few c.args.opening)
