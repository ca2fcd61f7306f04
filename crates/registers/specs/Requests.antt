-- Runs of requests, each to the search that the one before left, and the values that are offered and enter it on the way. A call whose buffer
-- is too short leaves the search as it was, and is no request of a run.
-- Assumes nothing.
use Rattle.std.specs.Prelude.{ℕ, ◌-◌, Bool, cond, not, ◌&&◌, List, [], ◌∷◌, eqb, ℤ, pos, negsuc}
use Rattle.rules.specs.declared.Answer.{Answer}
use Rattle.rules.specs.Search.{is_refusal}
use Rattle.held.specs.declared.Search.{Search}
use Rattle.held.specs.Held.{held_report, enter_of}
use Rattle.journal.specs.Run.{Call, by_value}
use Rattle.registers.specs.Registers.{entry_register, called_for}
use Rattle.registers.specs.Exchange.{write_single, function_of, address_of, value_of, wrong_length, fault_of, word_bytes, exchange_of}

-- what a panel sends to enter a value: function 06, register 6, and the value as a two's complement word, from −32,768 to 32,767
abbrev pub word_of : ℤ → ℕ
word_of (pos n) = n
word_of (negsuc n) = 65535 - n

abbrev pub entry_request : ℤ → List ℕ
entry_request v = write_single ∷ word_bytes (entry_register ∷ word_of v ∷ [])

-- ---- runs

-- what a run leaves
unfoldable pub search_then : Search → List (List ℕ) → Search
search_then s [] = s
search_then s (request ∷ requests) = search_then (exchange_of s request).search requests

-- a request enters its value: function 06, and no exception
abbrev pub enters : Search → List ℕ → Bool
enters s request = eqb (function_of request) write_single && eqb (fault_of s request) 0

-- the values that were accepted, in order
unfoldable pub accepted_in : Search → List (List ℕ) → List ℤ
accepted_in s [] = []
accepted_in s (request ∷ requests) =
    let rest = accepted_in (exchange_of s request).search requests in cond (enters s request) (value_of request ∷ rest) rest

-- a value with the point called for
abbrev pub answer_for : Search → ℤ → Answer
answer_for s v = record { point = pos (called_for s); value = v }

-- a request offers its value to the search: a write to register 6, of the right length, to a search that is not itself refused
abbrev pub offers : Search → List ℕ → Bool
offers s request =
    not (is_refusal (held_report s)) && (eqb (function_of request) write_single && (not (wrong_length request) && eqb (address_of request) entry_register))

-- the calls that offer these values, refused ones included, each with the point then called for
unfoldable pub offers_in : Search → List (List ℕ) → List Call
offers_in s [] = []
offers_in s (request ∷ requests) =
    let rest = offers_in (exchange_of s request).search requests in cond (offers s request) (by_value (answer_for s (value_of request)) ∷ rest) rest

-- the calls that enter values in turn, each with the point then called for
unfoldable pub calls_for : Search → List ℤ → List Call
calls_for s [] = []
calls_for s (v ∷ vs) = by_value (answer_for s v) ∷ calls_for (enter_of s (pos (called_for s)) v).search vs

-- those that enter the values accepted in a run
abbrev pub calls_in : Search → List (List ℕ) → List Call
calls_in s requests = calls_for s (accepted_in s requests)
