-- `changing::change_search` meets its contract: the report is that of the search under the old default, and it says which search is left.
-- Assumes nothing.
use Rattle.std.proofs.Common.{◌≡◌, Bool, cond, refl, sym, ◌∙◌, rules}
use Rattle.rules.specs.declared.Opening.{Opening}
use Rattle.rules.specs.declared.Report.{Report}
use Rattle.rules.specs.Search.{is_refusal}
use Rattle.held.specs.declared.Search.{Search}
use Rattle.held.specs.Held.{held_report}
use Rattle.changeover.specs.Changeover.{old_default, opening_under, changed_search}
use Rattle.changeover.proofs.ClaimsHold.{refused_before, changed_searches}
use Rattle.changing.proofs.change_search.Goals as goal

-- by the report under the old default, which is a refusal or none
left : (s : Search) {o : Opening} {r : Report} {b : Bool} → o ≡ opening_under old_default s.opening
    → r ≡ held_report (record { opening = o; count = s.count; slots = s.slots }) → is_refusal r ≡ b
    → record { report = r; search = cond b s (record { opening = o; count = s.count; slots = s.slots }) } ≡ changed_search s
unfolding changed_search
left s named told e = rw (← e, told, named) refl

pub returns-then-is_refusal : goal.returns-then-is_refusal
returns-then-is_refusal c =
    let refused = sym c.is_refusal.ensures ∙ c.if-is_refusal.true in
    record {
      value = left c.args.search c.under_old_default-opening.ensures c.report-report.ensures refused;
      claimed = search rules;
      refused_before = refused_before;
    }

pub returns : goal.returns
returns c =
    let s = c.args.search in
    let accepted = sym c.is_refusal.ensures ∙ c.if-is_refusal.false in
    record {
      value = left s c.under_old_default-opening.ensures c.report-report.ensures accepted;
      claimed = λ h. changed_searches s (record { accepted = h; full = search rules });
      refused_before = refused_before;
    }
