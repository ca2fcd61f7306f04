-- One exchange with the panel, request 2026-09: the parts of a request, the order of the checks, the reply's bytes and the search afterwards;
-- and the call, whose reply goes into a lent buffer. Request and reply are protocol data units of the Modbus Application Protocol, lists of
-- bytes; a word is two bytes, the high one first.
-- Assumes nothing.
use Rattle.std.specs.Prelude.{ℕ, ◌+◌, ◌*◌, ◌/◌, ◌%◌, Bool, cond, not, ◌&&◌, List, [], ◌∷◌, ◌++◌, eqb, leb, ltb, ℤ, pos, ◌-ℤ◌, length, take, drop, get_or}
use Rattle.std.specs.Prelude.{Ok, Err}
use Rattle.rules.specs.Search.{is_refusal}
use Rattle.held.specs.declared.Search.{Search}
use Rattle.held.specs.declared.Entered.{Entered}
use Rattle.held.specs.Held.{held_report, enter_of}
use Rattle.registers.specs.declared.Exchanged.{Exchanged}
use Rattle.registers.specs.Registers.{registers_of, register_count, entry_register, called_for}

-- ---- a request: the function, then two words: the address, and the quantity or the value

-- 03, read holding registers, and 06, write single register
abbrev pub read_holding : ℕ
read_holding = 3

abbrev pub write_single : ℕ
write_single = 6

abbrev pub request_length : ℕ
request_length = 5

-- the most registers that the protocol lets one ask for
abbrev pub most_asked : ℕ
most_asked = 125

abbrev pub function_of : List ℕ → ℕ
function_of request = get_or request 0 0

abbrev pub word_at : List ℕ → ℕ → ℕ
word_at request i = 256 * get_or request i 0 + get_or request (i + 1) 0

abbrev pub address_of : List ℕ → ℕ
address_of request = word_at request 1

abbrev pub quantity_of : List ℕ → ℕ
quantity_of request = word_at request 3

-- two's complement
unfoldable pub signed_of : ℕ → ℤ
signed_of word = cond (ltb word 32768) (pos word) (pos word -ℤ pos 65536)

abbrev pub value_of : List ℕ → ℤ
value_of request = signed_of (word_at request 3)

-- the value entered for the point called for
unfoldable pub entry_of : Search → List ℕ → Entered
entry_of s request = enter_of s (pos (called_for s)) (value_of request)

-- ---- exceptions, by their Modbus numbers

abbrev pub illegal_function : ℕ
illegal_function = 1

abbrev pub illegal_address : ℕ
illegal_address = 2

abbrev pub illegal_value : ℕ
illegal_value = 3

abbrev pub device_failure : ℕ
device_failure = 4

-- ---- the checks in their order: the first exception that applies, 0 where none does

abbrev pub wrong_length : List ℕ → Bool
wrong_length request = not (eqb (length request) request_length)

-- a wrong length, or a quantity outside 1 to 125; then a read past register 6
unfoldable pub read_fault : List ℕ → ℕ
read_fault request =
    cond (wrong_length request) illegal_value
    (cond (not (leb 1 (quantity_of request) && leb (quantity_of request) most_asked)) illegal_value
    (cond (ltb register_count (address_of request + quantity_of request)) illegal_address 0))

-- a wrong length; then a write elsewhere than to register 6; then a value that the search refuses
unfoldable pub write_fault : Search → List ℕ → ℕ
write_fault s request =
    cond (wrong_length request) illegal_value
    (cond (not (eqb (address_of request) entry_register)) illegal_address
    (cond (is_refusal (entry_of s request).report) illegal_value 0))

-- a search that is itself refused; then another function than the two; then the function's own
unfoldable pub fault_of : Search → List ℕ → ℕ
fault_of s request =
    cond (is_refusal (held_report s)) device_failure
    (cond (eqb (function_of request) read_holding) (read_fault request)
    (cond (eqb (function_of request) write_single) (write_fault s request) illegal_function))

-- ---- replies

-- the function with its top bit set: one from 128 on has it set already, and stays as it is
unfoldable pub top_bit_set : ℕ → ℕ
top_bit_set function = cond (ltb function 128) (function + 128) function

abbrev pub exception_reply : ℕ → ℕ → List ℕ
exception_reply function fault = top_bit_set function ∷ fault ∷ []

-- the bytes of words
unfoldable pub word_bytes : List ℕ → List ℕ
word_bytes [] = []
word_bytes (word ∷ words) = word / 256 ∷ word % 256 ∷ word_bytes words

-- so many of the registers, from an address on
abbrev pub part_of : List ℕ → ℕ → ℕ → List ℕ
part_of words address quantity = take quantity (drop address words)

-- the function, how many bytes follow, and the registers asked for
abbrev pub read_reply : List ℕ → List ℕ → List ℕ
read_reply words request = read_holding ∷ 2 * quantity_of request ∷ word_bytes (part_of words (address_of request) (quantity_of request))

-- the reply to a write is its echo, the request itself
abbrev pub echo_reply : List ℕ → List ℕ
echo_reply request = request

-- ---- an exchange: the reply, and the search afterwards

pub record Exchange : Type 0 where
  pub reply : List ℕ
  pub search : Search

-- no exception alters the search
abbrev pub excepted : Search → List ℕ → ℕ → Exchange
excepted s request fault = record { reply = exception_reply (function_of request) fault; search = s }

-- without an exception the function is one of the two: a read, or a write
abbrev pub served : Search → List ℕ → Exchange
served s request =
    cond (eqb (function_of request) read_holding)
    (record { reply = read_reply (registers_of s) request; search = s })
    (record { reply = echo_reply request; search = (entry_of s request).search })

-- an empty request gets an empty reply
unfoldable pub exchange_of : Search → List ℕ → Exchange
exchange_of s request =
    cond (eqb (length request) 0)
    (record { reply = []; search = s })
    (cond (eqb (fault_of s request) 0) (served s request) (excepted s request (fault_of s request)))

-- ---- the call: 18, the lent reply buffer is shorter than 16 bytes, is checked first

abbrev pub reply_too_short : ℕ
reply_too_short = 18

-- its place: it is a refusal of the whole
abbrev pub whole_reply : ℕ
whole_reply = 0

abbrev pub longest_reply : ℕ
longest_reply = 16

-- what is told, and the search afterwards
unfoldable pub exchanged_of : Search → List ℕ → List ℕ → Exchanged
exchanged_of s request buffer =
    cond (ltb (length buffer) longest_reply)
    (record { replied = Err (record { number = reply_too_short; place = whole_reply }); search = s })
    (record { replied = Ok (length (exchange_of s request).reply); search = (exchange_of s request).search })

-- the buffer afterwards: the reply stands at its beginning, and bytes past it stay; on a refusal all of them stay
unfoldable pub reply_buffer : Search → List ℕ → List ℕ → List ℕ
reply_buffer s request buffer =
    cond (ltb (length buffer) longest_reply) buffer
    ((exchange_of s request).reply ++ drop (length (exchange_of s request).reply) buffer)
