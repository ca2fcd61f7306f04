-- `load::drawn_opening` meets its contract: each number is below 2 ^ 31.
-- Assumes nothing.
use Rattle.std.proofs.Common.{◌+◌, ◌%◌, ◌≤◌, ◌≡◌, pos, mod-lt, arith, rules, w32, to_z}
use mir.Facts.{to_z_pos}
use Rattle.rules.specs.Rules.{highest}
use Rattle.loading.specs.Loading.{drawn_opening}
use Rattle.loading.proofs.DrawLaws.{point_most, second_most}
use Rattle.load.proofs.drawn_opening.Goals as goal

pub drawn_second-x1-requires : goal.drawn_second-x1-requires
drawn_second-x1-requires c = omega (arith, c.drawn_point-x0.ensures, point_most c.args.a)

pub overflow_cast-first : goal.overflow_cast-first
overflow_cast-first c =
    let h : c.drawn_point-x0.result ≤ highest = omega (arith, c.drawn_point-x0.ensures, point_most c.args.a) in
    search rules

pub overflow_cast-second : goal.overflow_cast-second
overflow_cast-second c =
    let h : c.drawn_second-x1.result ≤ highest = omega (arith, c.drawn_second-x1.ensures, second_most c.drawn_point-x0.result c.args.b) in
    search rules

pub returns : goal.returns
unfolding drawn_opening
returns c =
    let s = c.args in
    let x = c.drawn_point-x0 in
    let y = c.drawn_second-x1 in
    let first : to_z w32 x.result ≡ pos x.result = to_z_pos w32 (omega (arith, x.ensures, point_most s.a)) in
    let second : to_z w32 y.result ≡ pos y.result = to_z_pos w32 (omega (arith, y.ensures, second_most x.result s.b)) in
    let tolerance : to_z w32 (1 + s.c % 5000) ≡ pos (1 + s.c % 5000) = to_z_pos w32 (omega (arith, mod-lt s.c {m = 5000} (omega arith))) in
    let method : to_z w32 (1 + s.d % 2) ≡ pos (1 + s.d % 2) = to_z_pos w32 (omega (arith, mod-lt s.d {m = 2} (omega arith))) in
    cc
