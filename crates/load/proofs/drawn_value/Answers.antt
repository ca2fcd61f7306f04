-- `load::drawn_value` meets its contract: the value is in range, so it fits 32 bits.
-- Assumes nothing.
use Rattle.std.proofs.Common.{◌%◌, ◌^◌, ◌<◌, mod-lt, arith, w32}
use mir.Facts.{to_z_pos}
use Rattle.integers.proofs.Bounds.{read, within_fits}
use Rattle.loading.specs.Loading.{drawn_value}
use Rattle.loading.proofs.DrawLaws.{value_within}
use Rattle.load.proofs.drawn_value.Goals as goal

pub returns : goal.returns
unfolding drawn_value
returns c =
    let h : c.args.draw % 20001 < 2 ^ 31 = omega (arith, mod-lt c.args.draw {m = 20001} (omega arith)) in
    rw (to_z_pos w32 h) (read {w = w32} (within_fits (value_within c.args.draw) tt))
