-- `settled::told` meets its contract: the answers up to the count, after no value, from an opening that is accepted.
-- Assumes nothing.
use mathlib.Core.Path.{◌≡◌, sym, ◌∙◌}
use native.Mathlib.Omega.{arith}
use borrow.Author.Rules.{rules}
use borrow.Author.Tests.{eq-eqb}
use lib.ListN.{length, take}
use lib.Seq.{length-take-le}
use Rattle.rules.specs.Search.{begin_of, progress_of}
use Rattle.settled.proofs.told.Statement.{statement}
use Rattle.settled.proofs.told.Tie as tie

points_are : (s : tie.Start) → length (take s.args.count s.args.points.now) ≡ s.args.count
points_are s = length-take-le s.args.count s.args.points.now s.requires.1

values_are : (s : tie.Start) → length (take s.args.count s.args.values.now) ≡ s.args.count
values_are s = length-take-le s.args.count s.args.values.now (omega (arith, s.requires.1, s.requires.2))

slice-aggregate-follow : tie.Need-slice_bounds-follow-end
slice-aggregate-follow c = search rules

slice-aggregate-follow-2 : tie.Need-slice_bounds-follow-end-2
slice-aggregate-follow-2 c = search rules

slice-aggregate-follow-3 : tie.Need-slice_bounds-follow-end-3
slice-aggregate-follow-3 c = search rules

follow-requires : tie.Need-follow-requires
follow-requires c κs = points_are c ∙ sym (values_are c)

returns : tie.Need-returns
unfolding progress_of begin_of
returns c = simp (eq-eqb _ 0 c.requires.0) at c.follow.ensures

pub told_spec : {M : Type 1} → statement M
told_spec =
    tie.close
    (tie.spec
    slice-aggregate-follow
    slice-aggregate-follow-2
    slice-aggregate-follow-3
    follow-requires
    returns)
