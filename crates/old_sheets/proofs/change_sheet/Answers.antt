-- `old_sheets::change_sheet` meets its contract: the outcome that is written is the text's with 0 as M. Where it is accepted, so is its search,
-- since today's reader takes the new sheet for it.
-- Assumes nothing.
use Rattle.std.proofs.Common.{◌≡◌, false, sym, ap, ◌∙◌, ℕ, List}
use Rattle.rules.specs.Search.{is_refusal}
use Rattle.held.specs.declared.Entered.{Entered}
use Rattle.held.specs.Held.{held_report}
use Rattle.clean_sheets.proofs.ClaimsHold.{search_accepted}
use Rattle.cleaning.specs.CleanedLaws.{Writable, cleans}
use Rattle.changeover.specs.Changeover.{old_default, sheet_under, changed_sheet}
use Rattle.changeover.proofs.ClaimsHold.{refused_before, changed_sheets}
use Rattle.old_sheets.proofs.change_sheet.Goals as goal

writable : (text : List ℕ) → is_refusal (sheet_under old_default text).report ≡ false → Writable (sheet_under old_default text)
writable text taken =
    let c = changed_sheets text taken in
    let read = search_accepted (changed_sheet text) (ap (λ (e : Entered). is_refusal e.report) c.same ∙ taken) in
    record { search = ap (λ (e : Entered). is_refusal (held_report e.search)) (sym c.same) ∙ read; short = c.short }

pub returns : goal.returns
returns c =
    let told = c.write_outcome.ensures in
    let read : c.read_old_sheet-e.result ≡ sheet_under old_default c.args.text.now = c.read_old_sheet-e.ensures.value in
    let k = cleans c.read_old_sheet-e.result _ read (writable _) _ _ _ told.value told.out_after told.report_len_bound in
    record { value = k.long; out_after = k.bytes; text_len_bound = k.short; claimed = changed_sheets _; refused_before = refused_before }
