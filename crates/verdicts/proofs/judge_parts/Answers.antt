-- `verdicts::judge_parts` meets its contract: the answer is tried after the values held. Where it is accepted a slot is free.
-- Assumes nothing.
use Rattle.std.proofs.Common.{◌≡◌, sym, ap, ◌∙◌, length, pos, arith, rules}
use mir.Syntax.{w32}
use mir.Val.{SFits}
use lib.ListN.{get_or}
use Rattle.integers.proofs.Bounds.{read}
use Rattle.rules.specs.Rules.{slots}
use Rattle.rules.specs.Search.{is_refused, answers_of, report_at, is_refusal}
use Rattle.rules.proofs.SearchLaws.{refusal_is}
use Rattle.verdicts.specs.Judged.{tried_by}
use Rattle.verdicts.proofs.JudgedLaws.{free_slot, verdict_refused, verdict_entered}
use Rattle.verdicts.proofs.judge_parts.Goals as goal

pub returns-then-is_refusal : goal.returns-then-is_refusal
unfolding answers_of
returns-then-is_refusal c =
    let a = c.args in
    let p = tried_by a.opening a.count a.slots.now a.point a.value in
    let tried : c.told-report.result ≡ report_at a.opening p = rw (read c.ranges.point, read c.ranges.value) at c.told-report.ensures in
    let refused : is_refused p ≡ c.is_refusal.result = sym (c.is_refusal.ensures ∙ ap is_refusal tried ∙ refusal_is _ _) in
    let f : SFits w32 (get_or a.slots.now 0 (pos 0)) = search rules in
    rw (read f) (verdict_refused a.opening a.count a.slots.now a.point a.value _ tried (refused ∙ c.if-is_refusal.true))

pub overflow_add-result : goal.overflow_add-result
unfolding answers_of
overflow_add-result c =
    let a = c.args in
    let p = tried_by a.opening a.count a.slots.now a.point a.value in
    let tried : c.told-report.result ≡ report_at a.opening p = rw (read c.ranges.point, read c.ranges.value) at c.told-report.ensures in
    let refused : is_refused p ≡ c.is_refusal.result = sym (c.is_refusal.ensures ∙ ap is_refusal tried ∙ refusal_is _ _) in
    let long : length a.slots.now ≡ slots = search rules in
    omega (arith, free_slot a.opening a.count a.slots.now a.point a.value long (refused ∙ c.if-is_refusal.false))

pub returns : goal.returns
unfolding answers_of
returns c =
    let a = c.args in
    let p = tried_by a.opening a.count a.slots.now a.point a.value in
    let tried : c.told-report.result ≡ report_at a.opening p = rw (read c.ranges.point, read c.ranges.value) at c.told-report.ensures in
    let refused : is_refused p ≡ c.is_refusal.result = sym (c.is_refusal.ensures ∙ ap is_refusal tried ∙ refusal_is _ _) in
    rw (read c.ranges.value) (verdict_entered a.opening a.count a.slots.now a.point a.value _ tried (refused ∙ c.if-is_refusal.false))
