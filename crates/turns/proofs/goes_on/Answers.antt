-- `turns::goes_on` meets its contract: the search's report is a next point, or none.
-- Assumes nothing.
use Rattle.std.proofs.Common.{◌≡◌, ℕ, false, refl, ap, ◌∙◌}
use Rattle.rules.specs.declared.Report.{Report}
use Rattle.dispatching.specs.Dispatching.{is_next, unfinished}
use Rattle.turns.proofs.goes_on.Goals as goal

not_next : (r : Report) → ((point taken : ℕ) → r ≡ Report.Next point taken → ⊥) → false ≡ is_next r
not_next (Report.Next point taken) h = absurd (h point taken refl)
not_next (Report.Stop lower upper better taken) h = refl
not_next (Report.Refused number place) h = refl

pub returns-in-Next : goal.returns-in-Next
unfolding unfinished
returns-in-Next c = ap is_next c.in-Next.ensures

pub returns-in_default : goal.returns-in_default
unfolding unfinished
returns-in_default c = not_next c.report.result c.in_default.not-Next ∙ ap is_next c.report.ensures
