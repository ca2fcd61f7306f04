-- `panel::respond` meets its contract: the checks are made in the definition's order.
-- Assumes nothing.
use mathlib.Core.Path.{◌≡◌, refl, sym, ap, subst, ◌∙◌}
use mathlib.Core.Bool.{true, false}
use mathlib.Core.List.{List}
use Prim.Native.Nat.{ℕ}
use native.Mathlib.Omega.{arith}
use lib.Dec.{eqb}
use lib.ListN.{length, get_or}
use borrow.Author.Tests.{eq-eqb, ne_eqb}
use Rattle.rules.specs.declared.Report.{Report}
use Rattle.rules.specs.Search.{is_refusal}
use Rattle.held.specs.Held.{held_report}
use Rattle.held.proofs.HeldLaws.{WithinLimits, held_limited}
use Rattle.registers.specs.Registers.{registers_at, registers_of}
use Rattle.registers.specs.Exchange.{read_holding, write_single, function_of}
use Rattle.registers.specs.Inner.{read_told}
use Rattle.registers.proofs.ExchangeLaws.{empty_exchange, refused_exchange, other_exchange, read_exchange, write_exchange}
use Rattle.panel.proofs.respond.Goals as goal

pub returns-then-request-eq0 : goal.returns-then-request-eq0
returns-then-request-eq0 c =
    let s = c.args in
    let none : length s.request.now ≡ 0 = omega arith in
    rw (empty_exchange s.search s.request.now (eq-eqb _ _ none)) (record { reply = c.no_reply.ensures; search = refl })

pub returns-then-is_refusal : goal.returns-then-is_refusal
returns-then-is_refusal c =
    let s = c.args in
    let some : eqb (length s.request.now) 0 ≡ false = ne_eqb _ _ (λ none. omega (arith, none)) in
    let refused : is_refusal (held_report s.search) ≡ true =
    subst (λ (r : Report). is_refusal r ≡ true) c.report-report.ensures (sym c.is_refusal.ensures ∙ c.if-is_refusal.true) in
    rw (refused_exchange s.search s.request.now some refused) (record { reply = c.exception.ensures; search = refl })

pub registers_at-words-requires : goal.registers_at-words-requires
registers_at-words-requires c = subst WithinLimits (sym c.report-report.ensures) (held_limited _)

pub returns-then-function-eq-READ_HOLDING : goal.returns-then-function-eq-READ_HOLDING
unfolding registers_of
returns-then-function-eq-READ_HOLDING c =
    let s = c.args in
    let some : eqb (length s.request.now) 0 ≡ false = ne_eqb _ _ (λ none. omega (arith, none)) in
    let fine : is_refusal (held_report s.search) ≡ false =
    subst (λ (r : Report). is_refusal r ≡ false) c.report-report.ensures (sym c.is_refusal.ensures ∙ c.if-is_refusal.false) in
    let reads : eqb (function_of s.request.now) read_holding ≡ true = eq-eqb _ _ c.if-function-eq-READ_HOLDING.true in
    let words_are : c.registers_at-words.result ≡ registers_of s.search = c.registers_at-words.ensures ∙ ap registers_at c.report-report.ensures in
    rw (read_exchange s.search s.request.now some fine reads)
    (record {
      reply = c.read.ensures ∙ ap (λ (words : List ℕ). read_told words s.request.now) words_are;
      search = refl;
    })

pub write-requires : goal.write-requires
unfolding registers_of
write-requires c =
    let words_are : c.registers_at-words.result ≡ registers_of c.args.search = c.registers_at-words.ensures ∙ ap registers_at c.report-report.ensures in
    ap (λ (words : List ℕ). get_or words 1 0) words_are

pub returns-then-function-eq-WRITE_SINGLE : goal.returns-then-function-eq-WRITE_SINGLE
returns-then-function-eq-WRITE_SINGLE c =
    let s = c.args in
    let some : eqb (length s.request.now) 0 ≡ false = ne_eqb _ _ (λ none. omega (arith, none)) in
    let fine : is_refusal (held_report s.search) ≡ false =
    subst (λ (r : Report). is_refusal r ≡ false) c.report-report.ensures (sym c.is_refusal.ensures ∙ c.if-is_refusal.false) in
    let writes : eqb (function_of s.request.now) write_single ≡ true = eq-eqb _ _ c.if-function-eq-WRITE_SINGLE.true in
    let other : eqb (function_of s.request.now) read_holding ≡ false = rw c.if-function-eq-WRITE_SINGLE.true in
    rw (write_exchange s.search s.request.now some fine other writes) c.write.ensures

pub returns : goal.returns
returns c =
    let s = c.args in
    let some : eqb (length s.request.now) 0 ≡ false = ne_eqb _ _ (λ none. omega (arith, none)) in
    let fine : is_refusal (held_report s.search) ≡ false =
    subst (λ (r : Report). is_refusal r ≡ false) c.report-report.ensures (sym c.is_refusal.ensures ∙ c.if-is_refusal.false) in
    let other : eqb (function_of s.request.now) read_holding ≡ false = ne_eqb _ _ c.if-function-eq-READ_HOLDING.false in
    let unknown : eqb (function_of s.request.now) write_single ≡ false = ne_eqb _ _ c.if-function-eq-WRITE_SINGLE.false in
    rw (other_exchange s.search s.request.now some fine other unknown) (record { reply = c.exception-2.ensures; search = refl })
