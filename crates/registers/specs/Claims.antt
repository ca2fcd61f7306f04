-- The claims about the panel, for every held search and every list of requests of any length: one record for each exchange, one for a run,
-- and one for a run from a fresh search; and that every value which the search accepts can be entered. Nothing is proved here: ClaimsHold
-- has the proofs.
-- Assumes nothing.
use Rattle.std.specs.Prelude.{ℕ, ◌+◌, ◌*◌, ◌≤◌, ◌<◌, ◌≡◌, true, false, cond, List, [], ◌∷◌, eqb, ℤ, pos, length, get_or}
use Rattle.rules.specs.declared.Opening.{Opening}
use Rattle.rules.specs.declared.Report.{Report}
use Rattle.rules.specs.Rules.{slots}
use Rattle.rules.specs.Refusals.{Accepted}
use Rattle.rules.specs.Search.{is_refusal, report_of, most_of}
use Rattle.held.specs.declared.Search.{Search}
use Rattle.held.specs.Held.{fresh_of, held_report, enter_of}
use Rattle.journal.specs.Answers.{values}
use Rattle.journal.specs.Run.{reports_of, search_after, journal_of, holding, Run}
use Rattle.registers.specs.Registers.{registers_at, registers_of, called_for}
use Rattle.registers.specs.Exchange.{read_holding, write_single, function_of, word_at, address_of, quantity_of, value_of, illegal_value, fault_of}
use Rattle.registers.specs.Exchange.{exception_reply, exchange_of, longest_reply}
use Rattle.registers.specs.Requests.{entry_request, search_then, enters, accepted_in, offers, offers_in, calls_in}

-- ---- one exchange

-- a request that gets an exception
pub record Excepted (s : Search) (request : List ℕ) : Type 0 where
  pub some : eqb (length request) 0 ≡ false
  pub fault : eqb (fault_of s request) 0 ≡ false

pub record PanelExchange (s : Search) (request : List ℕ) : Type 0 where
  -- every reply is at most 16 bytes
  pub short : length (exchange_of s request).reply ≤ longest_reply
  -- an exception's reply is the function with its top bit set and the exception's number: two bytes, the first of them 128 or more and the
  -- second 1 to 4. No exception alters the search
  pub excepted : Excepted s request → (exchange_of s request).reply ≡ exception_reply (function_of request) (fault_of s request)
  pub two_bytes : Excepted s request → length (exchange_of s request).reply ≡ 2
  pub marked : Excepted s request → 128 ≤ get_or (exchange_of s request).reply 0 0
  pub numbered : Excepted s request → (1 ≤ get_or (exchange_of s request).reply 1 0) × (get_or (exchange_of s request).reply 1 0 ≤ 4)
  pub unaltered : Excepted s request → (exchange_of s request).search ≡ s
  -- a read's reply says in its second byte how many follow, and has the register at each place asked for, the high byte first
  pub counted : function_of request ≡ read_holding → eqb (fault_of s request) 0 ≡ true
      → length (exchange_of s request).reply ≡ 2 + get_or (exchange_of s request).reply 1 0
  pub read_back : function_of request ≡ read_holding → eqb (fault_of s request) 0 ≡ true → (i : ℕ) → i < quantity_of request
      → word_at (exchange_of s request).reply (2 + 2 * i) ≡ get_or (registers_of s) (address_of request + i) 0
  -- reading never alters the search, nor does anything but an entry
  pub read_only : function_of request ≡ read_holding → (exchange_of s request).search ≡ s
  pub entry_only : enters s request ≡ false → (exchange_of s request).search ≡ s
  -- a value that is offered is offered to `enter`, for the point called for: afterwards the search is the one that `enter` leaves, and the reply
  -- is exception 03 where that refuses the value, and the request where it does not. Every held search has 77 slots
  pub offered : length s.slots ≡ slots → offers s request ≡ true → (exchange_of s request).search ≡ (enter_of s (pos (called_for s)) (value_of request)).search
  pub answered : offers s request ≡ true
      → (exchange_of s request).reply
      ≡ cond (is_refusal (enter_of s (pos (called_for s)) (value_of request)).report) (exception_reply write_single illegal_value) request
  -- an entry is such a value, accepted
  pub entered : enters s request ≡ true → offers s request ≡ true
  pub accepted : enters s request ≡ true → is_refusal (enter_of s (pos (called_for s)) (value_of request)).report ≡ false
  -- and the point called for is the report's
  pub called : (point n : ℕ) → held_report s ≡ Report.Next point n → called_for s ≡ point

-- every value that the search accepts for the point called for can be entered
abbrev pub EveryValue : Type 0
EveryValue = (s : Search) (v : ℤ) → is_refusal (enter_of s (pos (called_for s)) v).report ≡ false
    → exchange_of s (entry_request v) ≡ record { reply = entry_request v; search = (enter_of s (pos (called_for s)) v).search }

-- ---- a run

-- the claim on one exchange holds at every place
abbrev pub AllExchanged : Search → List (List ℕ) → Type 0
AllExchanged s [] = Unit {0}
AllExchanged s (request ∷ requests) = PanelExchange s request × AllExchanged (exchange_of s request).search requests

abbrev pub NoneRefused : List Report → Type 0
NoneRefused [] = Unit {0}
NoneRefused (r ∷ rs) = (is_refusal r ≡ false) × NoneRefused rs

-- for every search, and so from every moment of a run on, whatever came before
pub record PanelRun (s : Search) (requests : List (List ℕ)) : Type 0 where
  pub each : AllExchanged s requests
  -- afterwards the search is what the offered values, in order, make of it, each offered for the point then called for
  pub offered : length s.slots ≡ slots → search_then s requests ≡ search_after s (offers_in s requests)
  -- and what the accepted ones make of it
  pub search : search_then s requests ≡ search_after s (calls_in s requests)
  -- and none of these calls is refused
  pub accepted : NoneRefused (reports_of s (calls_in s requests))

abbrev pub EveryPanelRun : Type 0
EveryPanelRun = (s : Search) (requests : List (List ℕ)) → PanelRun s requests

-- ---- a run from a fresh search: demand 3

pub record FreshPanelRun (o : Opening) (requests : List (List ℕ)) : Type 0 where
  -- the claim about whole runs holds of the calls that offer the values, refused ones included, and afterwards the search is the one that holds
  -- their journal
  pub offered : Run o (offers_in (fresh_of o) requests)
  pub journal : search_then (fresh_of o) requests ≡ holding o (journal_of o (offers_in (fresh_of o) requests))
  -- it holds of the calls that enter the accepted values too
  pub run : Run o (calls_in (fresh_of o) requests)
  pub search : search_then (fresh_of o) requests ≡ holding o (journal_of o (calls_in (fresh_of o) requests))
  -- whose journal's values are those that were accepted
  pub values_are : values (journal_of o (calls_in (fresh_of o) requests)) ≡ accepted_in (fresh_of o) requests
  -- of which there are no more than are quoted
  pub few : length (accepted_in (fresh_of o) requests) ≤ most_of o
  -- and what the panel reads is the report over the list of them
  pub registers_are : registers_of (search_then (fresh_of o) requests) ≡ registers_at (report_of o (accepted_in (fresh_of o) requests))

-- for every accepted opening and every list of requests, and so at every place of a run
abbrev pub EveryFreshPanelRun : Type 0
EveryFreshPanelRun = (o : Opening) → Accepted o → (requests : List (List ℕ)) → FreshPanelRun o requests
