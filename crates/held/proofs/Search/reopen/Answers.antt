-- `held::Search::reopen` meets its contract: a refused opening leaves the search, and an accepted one begins at its first end.
-- Assumes nothing.
use Rattle.std.proofs.Common.{refl, sym, ap, ◌∙◌, FitsSigned, w32, rules}
use Rattle.std.proofs.Math.IntN.{nat_abs}
use Rattle.integers.proofs.Bounds.{read}
use Rattle.rules.proofs.RefusalsLaws.{none_is, some_is, some_above}
use Rattle.held.proofs.HeldLaws.{open_refused, open_accepted}
use Rattle.held.proofs.Search.reopen.Goals as goal

pub returns-in-Some : goal.returns-in-Some
returns-in-Some c =
    let e = c.in-Some.ensures in
    open_refused _ _ c.in-Some.number (some_is _ _ e) (some_above _ _ e)

pub returns : goal.returns
returns c =
    let f : FitsSigned w32 c.args.opening.first = search rules in
    open_accepted _ _ 0 (sym (none_is _ c.in_default.ensures)) refl _ (c.unsigned_abs-point.ensures.value ∙ ap nat_abs (read f))
    _ c.unanswered-fresh.ensures
