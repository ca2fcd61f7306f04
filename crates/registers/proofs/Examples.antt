-- Exchanges with the panel worked by hand, in lists with one statement each; words, buffers and a run. All hold by computation. Most are with
-- document 01's search by M from 0 to 100 with τ 1, and values −50, 100, −10, −2, 1.
-- Assumes nothing.
use Rattle.std.specs.Prelude.{ℕ, ◌-◌, ◌≡◌, refl, List, [], ◌∷◌, ◌++◌, map, ℤ, pos, neg_ℤ, length, replicate, Ok, Err}
use Rattle.rules.specs.declared.Opening.{Opening}
use Rattle.rules.specs.Rules.{slots, method_of, tolerance_at, start_of, stopped_of, forward_of, displacement_of, linear_of, cross_of, rational_of}
use Rattle.rules.specs.Rules.{doubled_of, opposed, partner_of, streak_of, renewed_of, advance_of, step_of, reach_of, offset_of, next_of}
use Rattle.rules.specs.Refusals.{opening_refusal, answer_refusal, same_side}
use Rattle.rules.specs.Search.{begin_of, offer_of, take_of, progress_of, bracket_report, report_at}
use Rattle.held.specs.declared.Search.{Search}
use Rattle.held.specs.Held.{blank, standing_of, held_report, enter_of}
use Rattle.journal.specs.Run.{offered}
use Rattle.registers.specs.declared.Exchanged.{Exchanged}
use Rattle.registers.specs.Registers.{registers_of}
use Rattle.registers.specs.Exchange.{signed_of, entry_of, read_fault, write_fault, fault_of, top_bit_set, word_bytes, exchange_of, exchanged_of}
use Rattle.registers.specs.Exchange.{reply_buffer}
use Rattle.registers.specs.Requests.{entry_request, search_then, accepted_in, offers_in}

abbrev minus : ℕ → ℤ
minus n = neg_ℤ (pos n)

abbrev opening : ℕ → ℕ → Opening
opening first second = record { method = pos 1; first = pos first; second = pos second; tolerance = pos 1; share = pos 0 }

-- a search that holds values; the other slots are 0
abbrev holding : List ℤ → Search
holding vs = record { opening = opening 0 100; count = length vs; slots = vs ++ replicate (slots - length vs) (pos 0) }

-- 100 is called for after one value, 33 after two, 43 after four; after five the search has stopped at 41 to 43, the better 43
abbrev one : Search
one = holding (minus 50 ∷ [])

abbrev two : Search
two = holding (minus 50 ∷ pos 100 ∷ [])

abbrev three : Search
three = holding (minus 50 ∷ pos 100 ∷ minus 1 ∷ [])

abbrev four : Search
four = holding (minus 50 ∷ pos 100 ∷ minus 10 ∷ minus 2 ∷ [])

abbrev five : Search
five = holding (minus 50 ∷ pos 100 ∷ minus 10 ∷ minus 2 ∷ pos 1 ∷ [])

-- stopped at 10 to 12, where the better end is the lower
abbrev short : Search
short = record { opening = opening 10 12; count = 2; slots = minus 1 ∷ pos 2 ∷ replicate (slots - 2) (pos 0) }

-- 60,000 is called for
abbrev high : Search
high = record { opening = opening 60000 0; count = 0; slots = replicate slots (pos 0) }

-- a count above the slots
abbrev overfull : Search
overfull = record { opening = opening 0 100; count = 78; slots = replicate slots (pos 0) }

-- ---- exchanges

record Worked : Type 0 where
  before : Search
  request : List ℕ
  reply : List ℕ
  after : Search

-- the search as it was, what is asked, what is told, and the search afterwards
abbrev alters : Search → List ℕ → List ℕ → Search → Worked
alters s request reply after = record { before = s; request = request; reply = reply; after = after }

-- the same where it stays
abbrev tells : Search → List ℕ → List ℕ → Worked
tells s request reply = alters s request reply s

abbrev AllHold : List Worked → Type 0
AllHold [] = Unit {0}
AllHold (x ∷ xs) = (exchange_of x.before x.request ≡ record { reply = x.reply; search = x.after }) × AllHold xs

-- replies without an exception, and exceptions 04 and 01
abbrev exchanges : List Worked
exchanges =
    -- a read of all seven before the stop: 1, 33, 0, 0, 0, 2, 0
    tells two (3 ∷ 0 ∷ 0 ∷ 0 ∷ 7 ∷ []) (3 ∷ 14 ∷ 0 ∷ 1 ∷ 0 ∷ 33 ∷ 0 ∷ 0 ∷ 0 ∷ 0 ∷ 0 ∷ 0 ∷ 0 ∷ 2 ∷ 0 ∷ 0 ∷ [])
    -- and at the stop: 2, 0, 41, 43, 43, 5, 0
    ∷ tells five (3 ∷ 0 ∷ 0 ∷ 0 ∷ 7 ∷ []) (3 ∷ 14 ∷ 0 ∷ 2 ∷ 0 ∷ 0 ∷ 0 ∷ 41 ∷ 0 ∷ 43 ∷ 0 ∷ 43 ∷ 0 ∷ 5 ∷ 0 ∷ 0 ∷ [])
    -- of lower, upper and better; of lower and upper
    ∷ tells short (3 ∷ 0 ∷ 2 ∷ 0 ∷ 3 ∷ []) (3 ∷ 6 ∷ 0 ∷ 10 ∷ 0 ∷ 12 ∷ 0 ∷ 10 ∷ [])
    ∷ tells five (3 ∷ 0 ∷ 2 ∷ 0 ∷ 2 ∷ []) (3 ∷ 4 ∷ 0 ∷ 41 ∷ 0 ∷ 43 ∷ [])
    -- of register 1, the high byte first: 60,000 is 234 × 256 + 96
    ∷ tells high (3 ∷ 0 ∷ 1 ∷ 0 ∷ 1 ∷ []) (3 ∷ 2 ∷ 234 ∷ 96 ∷ [])
    -- of the last register
    ∷ tells two (3 ∷ 0 ∷ 6 ∷ 0 ∷ 1 ∷ []) (3 ∷ 2 ∷ 0 ∷ 0 ∷ [])
    -- an entry of 1, which stops the search, and one of −1: the reply is the request
    ∷ alters four (6 ∷ 0 ∷ 6 ∷ 0 ∷ 1 ∷ []) (6 ∷ 0 ∷ 6 ∷ 0 ∷ 1 ∷ []) five
    ∷ alters two (6 ∷ 0 ∷ 6 ∷ 255 ∷ 255 ∷ []) (6 ∷ 0 ∷ 6 ∷ 255 ∷ 255 ∷ []) three
    -- an empty request, to any search
    ∷ tells two [] []
    ∷ tells blank [] []
    -- 04, a search that is itself refused, before another function and a wrong length
    ∷ tells blank (3 ∷ 0 ∷ 0 ∷ 0 ∷ 7 ∷ []) (131 ∷ 4 ∷ [])
    ∷ tells overfull (6 ∷ 0 ∷ 6 ∷ 0 ∷ 1 ∷ []) (134 ∷ 4 ∷ [])
    ∷ tells blank (43 ∷ []) (171 ∷ 4 ∷ [])
    -- 01, another function, before a wrong length; one from 128 on stays as it is
    ∷ tells two (4 ∷ 0 ∷ 0 ∷ 0 ∷ 7 ∷ []) (132 ∷ 1 ∷ [])
    ∷ tells two (16 ∷ []) (144 ∷ 1 ∷ [])
    ∷ tells two (0 ∷ []) (128 ∷ 1 ∷ [])
    ∷ tells two (127 ∷ []) (255 ∷ 1 ∷ [])
    ∷ tells two (131 ∷ 0 ∷ 0 ∷ 0 ∷ 7 ∷ []) (131 ∷ 1 ∷ [])
    ∷ tells two (255 ∷ []) (255 ∷ 1 ∷ [])
    ∷ []

exchanges_hold : AllHold exchanges
unfolding method_of tolerance_at start_of stopped_of forward_of displacement_of linear_of cross_of rational_of doubled_of opposed partner_of streak_of
    renewed_of advance_of step_of reach_of offset_of next_of opening_refusal answer_refusal same_side begin_of offer_of take_of progress_of bracket_report
    report_at standing_of held_report enter_of registers_of signed_of entry_of read_fault write_fault fault_of top_bit_set word_bytes exchange_of
exchanges_hold =
    (refl, (refl, (refl, (refl, (refl, (refl, (refl, (refl, (refl, (refl, (refl, (refl, (refl, (refl, (refl, (refl, (refl, (refl, (refl, tt)))))))))))))))))))

-- requests of the two functions that get exception 03 or 02
abbrev misfits : List Worked
misfits =
    -- 03, a wrong length, before the address
    tells two (3 ∷ []) (131 ∷ 3 ∷ [])
    ∷ tells two (3 ∷ 0 ∷ 7 ∷ 0 ∷ []) (131 ∷ 3 ∷ [])
    ∷ tells two (3 ∷ 0 ∷ 0 ∷ 0 ∷ 7 ∷ 0 ∷ []) (131 ∷ 3 ∷ [])
    ∷ tells two (6 ∷ 0 ∷ 5 ∷ 0 ∷ 1 ∷ 0 ∷ []) (134 ∷ 3 ∷ [])
    ∷ tells two (6 ∷ 0 ∷ 6 ∷ 0 ∷ []) (134 ∷ 3 ∷ [])
    -- 03, a quantity outside 1 to 125, before the address
    ∷ tells two (3 ∷ 0 ∷ 9 ∷ 0 ∷ 0 ∷ []) (131 ∷ 3 ∷ [])
    ∷ tells two (3 ∷ 0 ∷ 9 ∷ 0 ∷ 126 ∷ []) (131 ∷ 3 ∷ [])
    ∷ tells two (3 ∷ 0 ∷ 0 ∷ 1 ∷ 1 ∷ []) (131 ∷ 3 ∷ [])
    -- 02, a read past register 6
    ∷ tells two (3 ∷ 0 ∷ 0 ∷ 0 ∷ 125 ∷ []) (131 ∷ 2 ∷ [])
    ∷ tells two (3 ∷ 0 ∷ 1 ∷ 0 ∷ 7 ∷ []) (131 ∷ 2 ∷ [])
    ∷ tells two (3 ∷ 0 ∷ 7 ∷ 0 ∷ 1 ∷ []) (131 ∷ 2 ∷ [])
    ∷ tells two (3 ∷ 255 ∷ 255 ∷ 0 ∷ 1 ∷ []) (131 ∷ 2 ∷ [])
    -- 02, a write elsewhere, before the value
    ∷ tells two (6 ∷ 0 ∷ 5 ∷ 0 ∷ 1 ∷ []) (134 ∷ 2 ∷ [])
    ∷ tells two (6 ∷ 1 ∷ 6 ∷ 127 ∷ 255 ∷ []) (134 ∷ 2 ∷ [])
    -- 03, a value that the search refuses: 10,001, −10,001, on the first value's side, after the stop
    ∷ tells two (6 ∷ 0 ∷ 6 ∷ 39 ∷ 17 ∷ []) (134 ∷ 3 ∷ [])
    ∷ tells two (6 ∷ 0 ∷ 6 ∷ 216 ∷ 239 ∷ []) (134 ∷ 3 ∷ [])
    ∷ tells one (6 ∷ 0 ∷ 6 ∷ 255 ∷ 255 ∷ []) (134 ∷ 3 ∷ [])
    ∷ tells five (6 ∷ 0 ∷ 6 ∷ 0 ∷ 1 ∷ []) (134 ∷ 3 ∷ [])
    ∷ []

misfits_hold : AllHold misfits
unfolding method_of tolerance_at start_of stopped_of forward_of displacement_of linear_of cross_of rational_of doubled_of opposed partner_of streak_of
    renewed_of advance_of step_of reach_of offset_of next_of opening_refusal answer_refusal same_side begin_of offer_of take_of progress_of bracket_report
    report_at standing_of held_report enter_of registers_of signed_of entry_of read_fault write_fault fault_of top_bit_set word_bytes exchange_of
misfits_hold =
    (refl, (refl, (refl, (refl, (refl, (refl, (refl, (refl, (refl, (refl, (refl, (refl, (refl, (refl, (refl, (refl, (refl, (refl, tt))))))))))))))))))

-- ---- words: two's complement at its turns, and the request that enters −10,000

record Words : Type 0 where
  largest : signed_of 32767 ≡ pos 32767
  least : signed_of 32768 ≡ minus 32768
  below : signed_of 65535 ≡ minus 1
  request : entry_request (minus 10000) ≡ 6 ∷ 0 ∷ 6 ∷ 216 ∷ 240 ∷ []

words_hold : Words
unfolding signed_of word_bytes
words_hold = record { largest = refl; least = refl; below = refl; request = refl }

-- ---- the call: the buffer, 9 in every byte of it at first, and what is told

record Called : Type 0 where
  held : Search
  asked : List ℕ
  buffer : List ℕ
  told : Exchanged
  filled : List ℕ

abbrev enter_one : List ℕ
enter_one = 6 ∷ 0 ∷ 6 ∷ 0 ∷ 1 ∷ []

-- 15 bytes are too few, whatever is asked, and nothing is written; 16 are enough, and bytes past the reply stay
abbrev calls : List Called
calls =
    record {
      held = four;
      asked = enter_one;
      buffer = replicate 15 9;
      told = record { replied = Err (record { number = 18; place = 0 }); search = four };
      filled = replicate 15 9;
    }
    ∷ record { held = blank; asked = []; buffer = []; told = record { replied = Err (record { number = 18; place = 0 }); search = blank }; filled = [] }
    ∷ record {
      held = four;
      asked = enter_one;
      buffer = replicate 16 9;
      told = record { replied = Ok 5; search = five };
      filled = 6 ∷ 0 ∷ 6 ∷ 0 ∷ 1 ∷ replicate 11 9;
    }
    ∷ record { held = two; asked = []; buffer = replicate 16 9; told = record { replied = Ok 0; search = two }; filled = replicate 16 9 }
    ∷ record {
      held = blank;
      asked = enter_one;
      buffer = replicate 20 9;
      told = record { replied = Ok 2; search = blank };
      filled = 134 ∷ 4 ∷ replicate 18 9;
    }
    ∷ []

abbrev AllCalled : List Called → Type 0
AllCalled [] = Unit {0}
AllCalled (c ∷ cs) =
    (exchanged_of c.held c.asked c.buffer ≡ c.told) × (reply_buffer c.held c.asked c.buffer ≡ c.filled) × AllCalled cs

calls_hold : AllCalled calls
unfolding method_of tolerance_at start_of stopped_of forward_of displacement_of linear_of cross_of rational_of doubled_of opposed partner_of streak_of
    renewed_of advance_of step_of reach_of offset_of next_of opening_refusal answer_refusal same_side begin_of offer_of take_of progress_of bracket_report
    report_at standing_of held_report enter_of registers_of signed_of entry_of read_fault write_fault fault_of top_bit_set word_bytes exchange_of exchanged_of
    reply_buffer
calls_hold = (refl, refl, (refl, refl, (refl, refl, (refl, refl, (refl, refl, tt)))))

-- ---- a run: an entry, a read, a refused value, an entry; what it leaves, the values accepted, and those offered

abbrev requests : List (List ℕ)
requests = entry_request (minus 10) ∷ (3 ∷ 0 ∷ 0 ∷ 0 ∷ 7 ∷ []) ∷ entry_request (pos 10001) ∷ entry_request (minus 2) ∷ []

record Runs : Type 0 where
  ends : search_then two requests ≡ four
  accepted : accepted_in two requests ≡ minus 10 ∷ minus 2 ∷ []
  tried : map offered (offers_in two requests)
      ≡ record { point = pos 33; value = minus 10 } ∷ record { point = pos 41; value = pos 10001 } ∷ record { point = pos 41; value = minus 2 } ∷ []

run_holds : Runs
unfolding method_of tolerance_at start_of stopped_of forward_of displacement_of linear_of cross_of rational_of doubled_of opposed partner_of streak_of
    renewed_of advance_of step_of reach_of offset_of next_of opening_refusal answer_refusal same_side begin_of offer_of take_of progress_of bracket_report
    report_at standing_of held_report enter_of registers_of signed_of entry_of read_fault write_fault fault_of top_bit_set word_bytes exchange_of search_then
    accepted_in offers_in
run_holds = record { ends = refl; accepted = refl; tried = refl }
