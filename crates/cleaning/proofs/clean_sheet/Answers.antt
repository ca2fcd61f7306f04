-- `cleaning::clean_sheet` meets its contract: the outcome that is written is the text's.
-- Assumes nothing.
use Rattle.std.proofs.Common.{◌≡◌}
use Rattle.outcomes.specs.Sheet.{sheet_of}
use Rattle.clean_sheets.proofs.ClaimsHold.{rewritten}
use Rattle.cleaning.specs.CleanedLaws.{cleans, sheet_writable}
use Rattle.cleaning.proofs.clean_sheet.Goals as goal

pub returns : goal.returns
returns c =
    let told = c.write_outcome.ensures in
    let read : c.read_sheet-e.result ≡ sheet_of c.args.text.now = c.read_sheet-e.ensures in
    let k = cleans c.read_sheet-e.result _ read (sheet_writable _) _ _ _ told.value told.out_after told.report_len_bound in
    record { value = k.long; out_after = k.bytes; text_len_bound = k.short; rewritten = rewritten _ }
