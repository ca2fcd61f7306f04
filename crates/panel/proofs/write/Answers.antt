-- `panel::write` meets its contract: a request that is misplaced, a value that the search refuses, or an entry.
-- Assumes nothing.
use Rattle.std.proofs.Common.{◌≡◌, ◌<◌, ◌^◌, ℕ, List, true, false, eqb, refl, sym, ap, subst, ◌∙◌, arith, rules}
use borrow.Author.Tests.{eq-eqb, ne_eqb}
use mir.Syntax.{w32}
use lib.Signed.{mag}
use mir.Val.{to_z, of_z}
use mir.Facts.{to_z_pos}
use Rattle.std.specs.Prelude.{ℤ}
use Rattle.integers.proofs.Bounds.{read}
use Rattle.rules.specs.Search.{is_refusal}
use Rattle.held.specs.declared.Search.{Search}
use Rattle.held.specs.declared.Entered.{Entered}
use Rattle.held.specs.Held.{enter_of}
use Rattle.registers.specs.Registers.{called_for}
use Rattle.registers.specs.Exchange.{write_single, entry_of, exception_reply, signed_of, value_of}
use Rattle.registers.specs.Inner.{exception_number}
use Rattle.registers.proofs.ExchangeLaws.{writable, write_misplaced, write_refused, write_accepted}
use Rattle.panel.proofs.write.Goals as goal

pub returns-in-Err : goal.returns-in-Err
returns-in-Err c =
    let e = c.in-Err.ensures in
    let some : eqb (exception_number c.in-Err.exception) 0 ≡ false =
    ne_eqb _ _ (λ z. let wrong = e.ok.1 (sym e.err ∙ z) in (cc)) in
    rw (← write_misplaced c.args.search c.args.request.now (exception_number c.in-Err.exception) e.err some)
    (record { reply = c.exception.ensures ∙ ap (λ (n : ℕ). exception_reply write_single n) (search rules); search = refl })

pub word_at-requires : goal.word_at-requires
word_at-requires c = omega (arith, (writable _ (c.in_default.ensures.ok.0 refl)).long)

pub echo-requires : goal.echo-requires
echo-requires c = writable _ (c.in_default.ensures.ok.0 refl)

-- what the search makes of the value
entered : (s : Search) (request : List ℕ) (p : ℕ) (v : ℤ) → p < 2 ^ 31 → mag v < 2 ^ 31 → p ≡ called_for s → v ≡ value_of request
    → enter_of s (to_z w32 p) (to_z w32 (of_z w32 v)) ≡ entry_of s request
unfolding entry_of
entered s request p v h k e f = rw (to_z_pos w32 h, read (record { sfits = k }), e, f)

pub returns-then-is_refusal : goal.returns-then-is_refusal
returns-then-is_refusal c =
    let s = c.args in
    let v = c.signed-value in
    let is = c.enter-entered.ensures
    ∙ entered s.search s.request.now _ _ (omega (arith, c.ranges.point)) v.type_inv c.requires (v.ensures ∙ ap signed_of c.word_at.ensures.value) in
    let refused = subst (λ (r : Entered). is_refusal r.report ≡ true) is (sym c.is_refusal.ensures ∙ c.if-is_refusal.true) in
    rw (← write_refused s.search s.request.now (eq-eqb _ _ (c.in_default.ensures.ok.0 refl)) refused)
    (record { reply = c.exception-then-is_refusal.ensures; search = refl })

pub returns : goal.returns
returns c =
    let s = c.args in
    let v = c.signed-value in
    let is = c.enter-entered.ensures
    ∙ entered s.search s.request.now _ _ (omega (arith, c.ranges.point)) v.type_inv c.requires (v.ensures ∙ ap signed_of c.word_at.ensures.value) in
    let fine = subst (λ (r : Entered). is_refusal r.report ≡ false) is (sym c.is_refusal.ensures ∙ c.if-is_refusal.false) in
    rw (← write_accepted s.search s.request.now (eq-eqb _ _ (c.in_default.ensures.ok.0 refl)) fine)
    (record { reply = c.echo.ensures; search = ap (λ (r : Entered). r.search) is })
