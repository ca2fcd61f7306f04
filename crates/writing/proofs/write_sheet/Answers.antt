-- `writing::write_sheet` meets its contract: by the search's report. One that is not refused has values that are accepted.
-- Assumes nothing.
use Rattle.std.proofs.Common.{◌≡◌, refl, sym, ap, ◌∙◌, ℕ, false, List, arith, rules}
use Rattle.integers.proofs.SignsLaws.{never}
use Rattle.rules.specs.declared.Report.{Report}
use Rattle.rules.specs.Search.{is_refusal}
use Rattle.held.specs.Held.{held_report}
use Rattle.clean_sheets.specs.Clean.{clean_of, fitted_in, written_after, written_of, buffer_of}
use Rattle.clean_sheets.specs.Claims.{AcceptedSearch}
use Rattle.clean_sheets.proofs.ClaimsHold.{count_within, values_accepted, clean_sheets}
use Rattle.writing.proofs.write_sheet.Goals.{In_default}
use Rattle.writing.proofs.write_sheet.Goals as goal

pub returns-in-Refused : goal.returns-in-Refused
unfolding written_of buffer_of
returns-in-Refused c =
    rw (sym c.report-report.ensures ∙ c.in-Refused.is) (record { value = refl; out_after = refl; clean_sheet = λ h. never h })

-- ---- a report that is a next point or a stop

no_refusal : (r : Report) → ((n i : ℕ) → r ≡ Report.Refused n i → ⊥) → is_refusal r ≡ false
no_refusal (Report.Next point taken) h = refl
no_refusal (Report.Stop lower upper better taken) h = refl
no_refusal (Report.Refused n i) h = absurd (h n i refl)

-- what is told then is about the buffer
fitted : (r : Report) (buffer text : List ℕ) → is_refusal r ≡ false → fitted_in buffer text ≡ written_after r buffer text
fitted (Report.Next point taken) buffer text t = refl
fitted (Report.Stop lower upper better taken) buffer text t = refl
fitted (Report.Refused n i) buffer text t = never t

accepted : (c : In_default) → AcceptedSearch c.args.search
accepted c = record { accepted = ap is_refusal (sym c.report-report.ensures) ∙ no_refusal _ c.in_default.not-Refused; full = search rules }

pub write_accepted-requires : goal.write_accepted-requires
write_accepted-requires c =
    let s = c.args.search in
    let a = accepted (goal.at.write_accepted-requires c).In_default in
    (omega (arith, count_within s a, a.full), values_accepted s a)

pub returns : goal.returns
unfolding written_of buffer_of clean_of
returns c =
    let s = c.args.search in
    let a = accepted (goal.at.returns c).In_default in
    let e = c.write_accepted.ensures in
    record {
      value = e.value ∙ fitted (held_report s) c.args.out.now (clean_of s) a.accepted;
      out_after = e.out_after ∙ simp a.accepted;
      clean_sheet = λ h. clean_sheets s a;
    }
