-- `survey::count_pairs` meets its contract: each position that is passed is one pair more, or none.
-- Assumes nothing.
use Rattle.std.proofs.Common.{◌≡◌, ◌∙◌, sym, ap, ◌-◌, length, add-one, arith}
use Rattle.surveying.proofs.SurveyLaws.{crossings_none, crossings_same, count_more, crossings_at_most}
use Rattle.survey.proofs.count_pairs.Goals.{then-crosses_at, else-crosses_at}
use Rattle.survey.proofs.count_pairs.Goals as goal

pub loop-i-init : goal.loop-i-init
loop-i-init c = sym (ap length (crossings_none c.args.values.now))

pub overflow_add-found : goal.overflow_add-found
overflow_add-found c = omega (arith, c.loop-i.invariant, crossings_at_most c.args.values.now c.loop-i.i)

pub loop-i-preserved : goal.loop-i-preserved
loop-i-preserved c =
    let l = c.loop-i in
    let vs = c.args.values.now in
    rw (add-one l.i)
    (elim c.if-crosses_at.branch [
      | then-crosses_at w ↦ omega (arith, w.found-is, l.invariant, count_more vs l.i (sym c.crosses_at.ensures ∙ w.if-crosses_at.true))
      | else-crosses_at w ↦ w.found-is ∙ l.invariant ∙ ap length (sym (crossings_same vs l.i (sym c.crosses_at.ensures ∙ w.if-crosses_at.false)))
    ])

pub returns : goal.returns
returns c =
    let vs = c.args.values.now in
    let e : c.loop-i.i ≡ length vs - 1 = omega arith in
    rw e at c.loop-i.invariant
