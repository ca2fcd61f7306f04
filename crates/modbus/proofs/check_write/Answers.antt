-- `modbus::check_write` meets its contract: one return for each check.
-- Assumes nothing.
use Rattle.std.specs.Prelude.{◌≡◌, false, eqb}
use Rattle.std.proofs.Common.{sym, refl, arith}
use borrow.Author.Tests.{ne_eqb}
use Rattle.registers.specs.Registers.{entry_register}
use Rattle.registers.specs.Exchange.{illegal_value, illegal_address, address_of}
use Rattle.registers.specs.Inner.{form_fault}
use Rattle.modbus.proofs.check_write.Goals as goal

pub returns-then-request-ne-REQUEST_LENGTH : goal.returns-then-request-ne-REQUEST_LENGTH
unfolding form_fault
returns-then-request-ne-REQUEST_LENGTH c =
    let f : form_fault c.args.request.now ≡ illegal_value = simp (ne_eqb _ _ c.if-request-ne-REQUEST_LENGTH.true) in
    record { ok = grind arith; err = sym f }

pub returns-then-address-ne-ENTRY_REGISTER : goal.returns-then-address-ne-ENTRY_REGISTER
unfolding form_fault
returns-then-address-ne-ENTRY_REGISTER c =
    let tested = rw c.word_at-address.ensures.value at c.if-address-ne-ENTRY_REGISTER.true in
    let elsewhere : eqb (address_of c.args.request.now) entry_register ≡ false = ne_eqb _ _ tested in
    let f : form_fault c.args.request.now ≡ illegal_address = simp (c.if-request-ne-REQUEST_LENGTH.false, elsewhere) in
    record { ok = grind arith; err = sym f }

pub returns-clause-ok : goal.returns-clause-ok
unfolding form_fault
returns-clause-ok c =
    let tested = rw c.word_at-address.ensures.value at c.if-address-ne-ENTRY_REGISTER.false in
    let here : address_of c.args.request.now ≡ entry_register = tested in
    let f : form_fault c.args.request.now ≡ 0 = simp (c.if-request-ne-REQUEST_LENGTH.false, here) in
    (λ h. f, λ z. refl)
