-- `survey::write_pairs` meets its contract: each position that is passed is one pair more, or none.
-- Assumes nothing.
use Rattle.std.proofs.Common.{sym, ◌∙◌, ◌+◌, ◌<◌, length, arith}
use Rattle.surveying.proofs.SurveyLaws.{written_none, written_room, written_found, written_passed}
use Rattle.survey.proofs.write_pairs.Goals.{then-crosses_at, else-crosses_at}
use Rattle.survey.proofs.write_pairs.Goals as goal

pub loop-at-init : goal.loop-at-init
loop-at-init c = written_none c.args.lowest c.args.pitch c.args.values.now c.args.list.now (omega (arith, c.requires.surveyable.enough))

pub bounds-list-n : goal.bounds-list-n
bounds-list-n c =
    let more : c.loop-at.at + 1 < length c.args.values.now = omega arith in
    let room = written_room _ _ _ _ _ _ _ _ c.loop-at.invariant (sym c.crosses_at.ensures ∙ c.if-crosses_at.true) more c.requires.values_in_bounds in
    omega (arith, c.loop-at.invariant.size)

pub loop-at-preserved : goal.loop-at-preserved
loop-at-preserved c =
    let l = c.loop-at in
    let more : l.at + 1 < length c.args.values.now = omega arith in
    elim c.if-crosses_at.branch [
      | then-crosses_at w ↦
          let crossing = sym c.crosses_at.ensures ∙ w.if-crosses_at.true in
          rw (w.list-is, w.n-is)
          (written_found _ _ _ _ _ _ _ _ l.invariant crossing more
          (written_room _ _ _ _ _ _ _ _ l.invariant crossing more c.requires.values_in_bounds))
      | else-crosses_at w ↦ rw (w.list-is, w.n-is) (written_passed _ _ _ _ _ _ _ _ l.invariant (sym c.crosses_at.ensures ∙ w.if-crosses_at.false) more)
    ]
