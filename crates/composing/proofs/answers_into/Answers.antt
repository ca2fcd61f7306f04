-- `composing::answers_into` meets its contract: each record has the point that the report on the values before it calls for.
-- Assumes nothing.
use Rattle.std.proofs.Common.{◌≡◌, take, get_or, refl, ap, ap₂, ◌∙◌, arith, rules, pos, FitsSigned, w32}
use Rattle.integers.proofs.Bounds.{read}
use Rattle.rules.specs.Search.{progress_of}
use Rattle.clean_sheets.specs.Clean.{called_at}
use Rattle.sheet_text.specs.Pieces.{answer_text}
use Rattle.sheet_text.specs.PiecesLaws.{in_words}
use Rattle.composing.specs.SoFar.{called_by, none_yet, next_fits, one_more, called_next, all_written}
use Rattle.composing.proofs.answers_into.Goals as goal

pub loop-i-init : goal.loop-i-init
loop-i-init c = none_yet _ _ _ _ (omega (arith, c.requires.1))

pub put_answer-end-requires : goal.put_answer-end-requires
put_answer-end-requires c =
    let l = c.loop-i in
    let x = c.args in
    let point : c.called_by.result ≡ called_at x.o (progress_of x.o (take l.i x.values.now)) =
    c.called_by.ensures ∙ ap called_by c.report_on-report.ensures ∙ called_next x.o x.values.now l.i c.requires.0 c.loop-i-test.true in
    let f : FitsSigned w32 (get_or x.values.now l.i (pos 0)) = search rules in
    rw (point, read f) (next_fits l.invariant c.loop-i-test.true c.requires.1)

pub loop-i-preserved : goal.loop-i-preserved
loop-i-preserved c =
    let l = c.loop-i in
    let x = c.args in
    let point : c.called_by.result ≡ called_at x.o (progress_of x.o (take l.i x.values.now)) =
    c.called_by.ensures ∙ ap called_by c.report_on-report.ensures ∙ called_next x.o x.values.now l.i c.requires.0 c.loop-i-test.true in
    let f : FitsSigned w32 (get_or x.values.now l.i (pos 0)) = search rules in
    one_more l.invariant c.loop-i-test.true (in_words c.put_answer-end.ensures (ap₂ answer_text point (read f)) refl refl)

pub returns : goal.returns
returns c = all_written c.loop-i.invariant c.loop-i-test.false
