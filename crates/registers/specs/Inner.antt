-- What only the contracts of inner functions cite, and nobody need believe: what a read and a write come to once the
-- search and the function are known, and what a request without a fault is.
-- Assumes nothing.
use Rattle.std.specs.Prelude.{ℕ, ◌+◌, ◌≤◌, ◌≡◌, cond, not, List, eqb, length}
use Rattle.held.specs.declared.Search.{Search}
use Rattle.registers.specs.declared.Exception.{Exception}
use Rattle.registers.specs.Registers.{register_count, entry_register}
use Rattle.registers.specs.Exchange.{read_holding, write_single, request_length, address_of, quantity_of, entry_of}
use Rattle.registers.specs.Exchange.{illegal_function, illegal_address, illegal_value, device_failure}
use Rattle.registers.specs.Exchange.{wrong_length, read_fault, write_fault, exception_reply, read_reply, echo_reply, Exchange}

-- ---- exceptions

-- an exception's Modbus number
abbrev pub exception_number : Exception → ℕ
exception_number Exception.IllegalFunction = illegal_function
exception_number Exception.IllegalAddress = illegal_address
exception_number Exception.IllegalValue = illegal_value
exception_number Exception.DeviceFailure = device_failure

-- ---- what a read and a write come to, once the search and the function are known

abbrev pub read_told : List ℕ → List ℕ → List ℕ
read_told words request = cond (eqb (read_fault request) 0) (read_reply words request) (exception_reply read_holding (read_fault request))

-- a write without a fault
abbrev pub echoed : Search → List ℕ → Exchange
echoed s request = record { reply = echo_reply request; search = (entry_of s request).search }

abbrev pub write_told : Search → List ℕ → Exchange
write_told s request =
    cond (eqb (write_fault s request) 0) (echoed s request) (record { reply = exception_reply write_single (write_fault s request); search = s })

-- ---- requests

-- the checks of a write that its search has no part in
unfoldable pub form_fault : List ℕ → ℕ
form_fault request = cond (wrong_length request) illegal_value (cond (not (eqb (address_of request) entry_register)) illegal_address 0)

-- a read without a fault
pub record Readable (request : List ℕ) : Type 0 where
  pub long : length request ≡ request_length
  pub least : 1 ≤ quantity_of request
  pub inside : address_of request + quantity_of request ≤ register_count

-- a write without a fault of its own
pub record Writable (request : List ℕ) : Type 0 where
  pub long : length request ≡ request_length
  pub here : address_of request ≡ entry_register
