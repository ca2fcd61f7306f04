-- `modbus::check_read` meets its contract: one return for each check.
-- Assumes nothing.
use Rattle.std.specs.Prelude.{◌+◌, ◌<◌, ◌≤◌, ◌≡◌}
use Rattle.std.proofs.Common.{sym, refl, arith, le-leb}
use Rattle.std.proofs.lemmas.Bool.{lt-leb}
use borrow.Author.Tests.{ne_eqb, lt-ltb, le-ltb}
use Rattle.registers.specs.Registers.{register_count}
use Rattle.registers.specs.Exchange.{illegal_value, illegal_address, most_asked, address_of, quantity_of, read_fault}
use Rattle.modbus.proofs.check_read.Goals as goal

pub returns-then-request-ne-REQUEST_LENGTH : goal.returns-then-request-ne-REQUEST_LENGTH
unfolding read_fault
returns-then-request-ne-REQUEST_LENGTH c =
    let f : read_fault c.args.request.now ≡ illegal_value = simp (ne_eqb _ _ c.if-request-ne-REQUEST_LENGTH.true) in
    record { ok = grind arith; err = sym f }

pub returns-then-quantity-lt1 : goal.returns-then-quantity-lt1
unfolding read_fault
returns-then-quantity-lt1 c =
    let none : quantity_of c.args.request.now < 1 = omega (arith, c.word_at-quantity.ensures.value) in
    let f : read_fault c.args.request.now ≡ illegal_value = simp (c.if-request-ne-REQUEST_LENGTH.false, lt-leb _ _ none) in
    record { ok = grind arith; err = sym f }

pub returns-then-quantity-gt-MOST_ASKED : goal.returns-then-quantity-gt-MOST_ASKED
unfolding read_fault
returns-then-quantity-gt-MOST_ASKED c =
    let q = c.word_at-quantity.ensures.value in
    let some : 1 ≤ quantity_of c.args.request.now = omega (arith, q) in
    let many : most_asked < quantity_of c.args.request.now = omega (arith, q) in
    let f : read_fault c.args.request.now ≡ illegal_value = simp (c.if-request-ne-REQUEST_LENGTH.false, le-leb _ _ some, lt-leb _ _ many) in
    record { ok = grind arith; err = sym f }

pub returns-then-end-gt-REGISTERS : goal.returns-then-end-gt-REGISTERS
unfolding read_fault
returns-then-end-gt-REGISTERS c =
    let a = c.word_at-address.ensures.value in
    let q = c.word_at-quantity.ensures.value in
    let some : 1 ≤ quantity_of c.args.request.now = omega (arith, q) in
    let few : quantity_of c.args.request.now ≤ most_asked = omega (arith, q) in
    let past : register_count < address_of c.args.request.now + quantity_of c.args.request.now = omega (arith, a, q) in
    let f : read_fault c.args.request.now ≡ illegal_address =
    simp (c.if-request-ne-REQUEST_LENGTH.false, le-leb _ _ some, le-leb _ _ few, lt-ltb _ _ past) in
    record { ok = grind arith; err = sym f }

pub returns-clause-ok : goal.returns-clause-ok
unfolding read_fault
returns-clause-ok c =
    let a = c.word_at-address.ensures.value in
    let q = c.word_at-quantity.ensures.value in
    let some : 1 ≤ quantity_of c.args.request.now = omega (arith, q) in
    let few : quantity_of c.args.request.now ≤ most_asked = omega (arith, q) in
    let within : address_of c.args.request.now + quantity_of c.args.request.now ≤ register_count = omega (arith, a, q) in
    let f : read_fault c.args.request.now ≡ 0 = simp (c.if-request-ne-REQUEST_LENGTH.false, le-leb _ _ some, le-leb _ _ few, le-ltb _ _ within) in
    (λ h. f, λ z. refl)
