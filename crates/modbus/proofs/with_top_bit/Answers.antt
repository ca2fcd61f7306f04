-- `modbus::with_top_bit` meets its contract: a function from 128 on stays as it is.
-- Assumes nothing.
use borrow.Author.Tests.{lt-ltb, le-ltb}
use Rattle.registers.specs.Exchange.{top_bit_set}
use Rattle.modbus.proofs.with_top_bit.Goals as goal

pub returns-then-function-lt128 : goal.returns-then-function-lt128
unfolding top_bit_set
returns-then-function-lt128 c = simp (lt-ltb _ _ c.if-function-lt128.true)

pub returns : goal.returns
unfolding top_bit_set
returns c = simp (le-ltb _ _ c.if-function-lt128.false)
