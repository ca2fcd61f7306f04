-- `dispatch::report` meets its contract: the report of the search at the dryer.
-- Assumes nothing.
use Rattle.std.proofs.Common.{sym, ap, ◌∙◌}
use Rattle.held.specs.Held.{held_report}
use Rattle.dispatching.proofs.DispatchingLaws.{nowhere, there, report_nowhere, report_there}
use Rattle.dispatch.proofs.report.Goals as goal

pub returns-in_default : goal.returns-in_default
returns-in_default c =
    let d = c.args.d in
    sym (report_nowhere d c.args.dryer (nowhere d c.args.dryer c.in_default.ensures))

pub returns : goal.returns
returns c =
    let d = c.args.d in
    let i = c.args.dryer in
    let found = there d i _ c.in-Some.ensures in
    c.report.ensures ∙ ap held_report found.1 ∙ sym (report_there d i found.0)
