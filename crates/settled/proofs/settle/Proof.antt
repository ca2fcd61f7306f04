-- `settled::settle` meets its contract: by the report. A refusal has the index of one of the answers.
-- Assumes nothing.
use mathlib.Core.Path.{◌≡◌, refl, subst}
use mathlib.Core.List.{[], ◌∷◌}
use mathlib.Core.Logic.{inl, inr}
use native.Mathlib.Omega.{arith}
use types.Run.{OneOf}
use denote.Enum.Declared.{tag_of}
use Rattle.rules.specs.declared.Report.{Report}
use Rattle.rules.specs.contracts.Report.{the_type}
use Rattle.forms.specs.declared.Entries.{Entries}
use Rattle.outcomes.proofs.SheetLaws.{kept_by, settled_by, Below}
use borrow.Author.Rules.{rules}
use Rattle.settled.proofs.settle.Statement.{statement}
use Rattle.settled.proofs.settle.Tie as tie

-- a report that is a next point or a stop
going_on : (e : Entries) (r : Report) → OneOf (0 ∷ 1 ∷ []) (tag_of the_type r) → kept_by e r ≡ settled_by e r
going_on e (Report.Next point taken) t = refl
going_on e (Report.Stop lower upper better taken) t = refl
going_on e (Report.Refused n i) (inl t) = absurd (omega arith)
going_on e (Report.Refused n i) (inr t) = absurd (omega arith)

enum-known-report : tie.Need-enum_known-report
enum-known-report c = search rules

add-refuse : tie.Need-overflow_add-place
add-refuse c =
    let s = c.before in
    let h = subst (Below s.args.e.count) c.in-Refused.is s.requires.0 in
    omega (arith, h, s.requires.1)

refuse-requires : tie.Need-refuse-requires
refuse-requires c κs = search rules

returns : tie.Need-returns-in-Refused
returns c = rw c.in-Refused.is c.refuse.ensures

returns-2 : tie.Need-returns
returns-2 c = going_on c.args.e c.args.report c.in_default.in_default-own.keys2

pub settle_spec : {M : Type 1} → statement M
settle_spec =
    tie.close
    (tie.spec enum-known-report add-refuse refuse-requires returns returns-2)
