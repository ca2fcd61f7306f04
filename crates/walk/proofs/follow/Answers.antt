-- `walk::follow` meets its contract: the first two answers lead to a bracket, from which the others are walked, or to the report.
-- Assumes nothing.
use Rattle.std.proofs.Common.{FitsSigned, w32, rules}
use Rattle.integers.proofs.Bounds.{read}
use Rattle.rules.specs.declared.Progress.{Progress}
use Rattle.rules.specs.Search.{report_at}
use Rattle.answers.specs.AnswersLaws.{told_refused, told_end}
use Rattle.walk.proofs.follow.Goals as goal

pub returns-in-Begun : goal.returns-in-Begun
unfolding report_at
returns-in-Begun c =
    let b = c.in-Begun.ensures in
    let f : FitsSigned w32 c.args.o.first = search rules in
    rw (c.unsigned_abs-point.ensures.value, read f) (told_end _ _ _ _ 2 Progress.Begun b.led c.requires b.ended)

pub returns-in-First : goal.returns-in-First
unfolding report_at
returns-in-First c =
    let b = c.in-First.ensures in
    let f : FitsSigned w32 c.args.o.second = search rules in
    rw (c.unsigned_abs-point-in-First.ensures.value, read f) (told_end _ _ _ _ 2 (Progress.First c.in-First.value) b.led c.requires b.ended)

pub returns-in-Refused : goal.returns-in-Refused
returns-in-Refused c = told_refused _ _ _ _ 2 _ _ c.in-Refused.ensures.led
