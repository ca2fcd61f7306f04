-- `load::load` meets its contract: what is no seed is refused.
-- Assumes nothing.
use Rattle.std.proofs.Common.{sym, ◌∙◌}
use Rattle.loading.specs.Loading.{load_of}
use Rattle.loading.proofs.ClaimsHold.{every_load}
use Rattle.load.proofs.load.Goals as goal

pub returns-then-is_seed : goal.returns-then-is_seed
unfolding load_of
returns-then-is_seed c = record { value = simp (sym c.is_seed.ensures ∙ c.if-is_seed.true, c.draw_load.ensures); every_load = every_load }

pub returns : goal.returns
unfolding load_of
returns c = record { value = simp (sym c.is_seed.ensures ∙ c.if-is_seed.false, c.blank.ensures); every_load = every_load }
