-- The laws of the panel that its claims need: how a request with a fault and one without it go, what is read back, and that every value which
-- the search accepts can be entered.
-- Assumes nothing.
use Rattle.std.specs.Prelude.{ℕ, zero, suc, ◌+◌, ◌-◌, ◌*◌, ◌/◌, ◌%◌, ◌≤◌, ◌<◌, ◌≡◌, Bool, not, ◌&&◌, List, [], ◌∷◌, ltb, ℤ, pos, negsuc, nat_abs, drop, get_or}
use Rattle.std.proofs.Math.Path.{refl, sym, ap}
use Rattle.std.proofs.Common.{◌∙◌, get_or-take, get_or-drop}
use Rattle.std.proofs.Math.Bool.{true, false, cond}
use native.Mathlib.Omega.{arith}
use borrow.Author.Tests.{eqb-true, eqb-false, eq-eqb, ne_eqb, ltb-false, lt-ltb, le-ltb}
use Rattle.std.proofs.Math.Dec.{eqb, leb}
use Rattle.std.proofs.Math.ListN.{length, length-set}
use Rattle.integers.proofs.SignsLaws.{never}
use Rattle.rules.specs.Rules.{slots, largest_value}
use Rattle.rules.specs.Search.{is_refused, other_at, is_refusal, report_at}
use Rattle.rules.proofs.SearchLaws.{Taken, taken_is, refusal_is}
use Rattle.held.specs.declared.Search.{Search}
use Rattle.held.specs.declared.Entered.{Entered}
use Rattle.held.specs.Held.{standing_of, held_report, with_value, tried_of, enter_of}
use Rattle.held.proofs.HeldLaws.{enter_report}
use Rattle.registers.specs.Registers.{registers_of, register_count, entry_register, called_for}
use Rattle.registers.specs.Exchange.{read_holding, write_single, request_length, most_asked, function_of, word_at, address_of, quantity_of, signed_of}
use Rattle.registers.specs.Exchange.{value_of, entry_of, illegal_function, illegal_address, illegal_value, device_failure, wrong_length, read_fault}
use Rattle.registers.specs.Exchange.{write_fault, fault_of, top_bit_set, exception_reply, word_bytes, part_of, read_reply, Exchange, excepted, served}
use Rattle.registers.specs.Exchange.{exchange_of, longest_reply}
use Rattle.registers.specs.Requests.{word_of, entry_request, enters, offers}
use Rattle.registers.specs.Claims.{Excepted, EveryValue}
use Rattle.registers.proofs.RegistersLaws.{seven}
use Rattle.registers.specs.Inner.{echoed, form_fault, Readable}
use Rattle.registers.proofs.ExchangeLaws.{write_fault_is, readable, writable, word_bytes_length, part_length, read_length}

-- ---- words and bytes

pub top_bit : (f : ℕ) → 128 ≤ top_bit_set f
unfolding top_bit_set
top_bit f = go (ltb f 128) refl
  where
    go : (b : Bool) → ltb f 128 ≡ b → 128 ≤ cond b (f + 128) f
    go true e = omega arith
    go false e = ltb-false f 128 e

-- two bytes further on
word_further : (a b : ℕ) (bs : List ℕ) (i : ℕ) → word_at (a ∷ b ∷ bs) (2 + i) ≡ word_at bs i
word_further a b bs i =
    let e : 2 + i ≡ suc (suc i) = omega arith in
    let f : suc (suc i) + 1 ≡ suc (suc (i + 1)) = omega arith in
    rw (e, f)

-- two bytes make their word again
bytes_word : (words : List ℕ) (i : ℕ) → i < length words → word_at (word_bytes words) (2 * i) ≡ get_or words i 0
unfolding word_bytes
bytes_word [] i h = absurd (omega arith)
bytes_word (w ∷ ws) zero h = omega arith
bytes_word (w ∷ ws) (suc i) h = let e : 2 * suc i ≡ 2 + 2 * i = omega arith in
    rw e (word_further (w / 256) (w % 256) (word_bytes ws) (2 * i) ∙ bytes_word ws i (omega arith))

-- ---- one request to one search

module _ (s : Search) (request : List ℕ) where
  read_fault_small : read_fault request ≤ 4
  unfolding read_fault
  read_fault_small =
      go (wrong_length request) (not (leb 1 (quantity_of request) && leb (quantity_of request) most_asked))
      (ltb register_count (address_of request + quantity_of request))
    where
      go : (a b c : Bool) → cond a illegal_value (cond b illegal_value (cond c illegal_address 0)) ≤ 4
      go true b c = omega arith
      go false true c = omega arith
      go false false true = omega arith
      go false false false = omega arith

  write_fault_small : write_fault s request ≤ 4
  unfolding write_fault
  write_fault_small = go (wrong_length request) (not (eqb (address_of request) entry_register)) (is_refusal (entry_of s request).report)
    where
      go : (a b c : Bool) → cond a illegal_value (cond b illegal_address (cond c illegal_value 0)) ≤ 4
      go true b c = omega arith
      go false true c = omega arith
      go false false true = omega arith
      go false false false = omega arith

  pub fault_small : fault_of s request ≤ 4
  unfolding fault_of
  fault_small = go (is_refusal (held_report s)) (eqb (function_of request) read_holding) (eqb (function_of request) write_single)
    where
      go : (a b c : Bool) → cond a device_failure (cond b (read_fault request) (cond c (write_fault s request) illegal_function)) ≤ 4
      go true b c = omega arith
      go false true c = read_fault_small
      go false false true = write_fault_small
      go false false false = omega arith

  pub when_excepted : Excepted s request → exchange_of s request ≡ excepted s request (fault_of s request)
  unfolding exchange_of
  when_excepted e = simp (e.some, e.fault)

  -- a read without a fault
  fault_of_read : eqb (function_of request) read_holding ≡ true → fault_of s request ≡ 0 → read_fault request ≡ 0
  unfolding fault_of
  fault_of_read e h = go (is_refusal (held_report s)) (simp e at h)
    where
      go : (b : Bool) → cond b device_failure (read_fault request) ≡ 0 → read_fault request ≡ 0
      go true h = absurd (omega arith)
      go false h = h

  -- a request without a fault that is no read is a write
  fault_of_other : eqb (function_of request) read_holding ≡ false → fault_of s request ≡ 0
      → (eqb (function_of request) write_single ≡ true) × (write_fault s request ≡ 0)
  unfolding fault_of
  fault_of_other e h = go (is_refusal (held_report s)) (eqb (function_of request) write_single) refl (simp e at h)
    where
      go : (b c : Bool) → eqb (function_of request) write_single ≡ c → cond b device_failure (cond c (write_fault s request) illegal_function) ≡ 0
          → (eqb (function_of request) write_single ≡ true) × (write_fault s request ≡ 0)
      go true c f h = absurd (omega arith)
      go false true f h = (f, h)
      go false false f h = absurd (omega arith)

  write_parts : write_fault s request ≡ 0 → (form_fault request ≡ 0) × (is_refusal (entry_of s request).report ≡ false)
  write_parts h = go (eqb (form_fault request) 0) refl (is_refusal (entry_of s request).report) (sym (write_fault_is s request) ∙ h)
    where
      go : (b : Bool) → eqb (form_fault request) 0 ≡ b → (c : Bool) → cond b (cond c illegal_value 0) (form_fault request) ≡ 0
          → (form_fault request ≡ 0) × (c ≡ false)
      go true e true h = absurd (omega arith)
      go true e false h = (eqb-true _ _ e, refl)
      go false e c h = absurd (eqb-false _ _ e h)

  -- a read without a fault
  abbrev read : Exchange
  read = record { reply = read_reply (registers_of s) request; search = s }

  served_short : fault_of s request ≡ 0 → length (served s request).reply ≤ longest_reply
  served_short h = go (eqb (function_of request) read_holding) refl
    where
      go : (b : Bool) → eqb (function_of request) read_holding ≡ b → length (cond b read (echoed s request)).reply ≤ longest_reply
      go true e = read_length (registers_of s) request (seven s) (readable request (fault_of_read e h))
      go false e = omega (arith, (writable request (write_parts (fault_of_other e h).1).0).long)

  abbrev outcome : Bool → Bool → Exchange
  outcome empty ok = cond empty (record { reply = []; search = s }) (cond ok (served s request) (excepted s request (fault_of s request)))

  pub reply_short : length (exchange_of s request).reply ≤ longest_reply
  unfolding exchange_of
  reply_short = go (eqb (length request) 0) (eqb (fault_of s request) 0) refl
    where
      go : (a b : Bool) → eqb (fault_of s request) 0 ≡ b → length (outcome a b).reply ≤ longest_reply
      go true b e = omega arith
      go false true e = served_short (eqb-true _ _ e)
      go false false e = omega arith

  -- not an entry: nothing is altered
  pub not_entered : enters s request ≡ false → (exchange_of s request).search ≡ s
  unfolding exchange_of
  not_entered n = go (eqb (length request) 0) (eqb (fault_of s request) 0) refl (eqb (function_of request) read_holding) refl
    where
      go : (a b : Bool) → eqb (fault_of s request) 0 ≡ b → (c : Bool) → eqb (function_of request) read_holding ≡ c
          → (cond a (record { reply = []; search = s }) (cond b (cond c read (echoed s request)) (excepted s request (fault_of s request)))).search ≡ s
      go true b e c f = refl
      go false false e c f = refl
      go false true e true f = refl
      go false true e false f = never (simp ((fault_of_other f (eqb-true _ _ e)).0, e) at n)

  pub reads_only : function_of request ≡ read_holding → (exchange_of s request).search ≡ s
  reads_only e = not_entered (rw e)

  module _ (n : enters s request ≡ true) where
    parts : (eqb (function_of request) write_single ≡ true) × (eqb (fault_of s request) 0 ≡ true)
    parts = go (eqb (function_of request) write_single) (eqb (fault_of s request) 0) n
      where
        go : (a b : Bool) → (a && b) ≡ true → (a ≡ true) × (b ≡ true)
        go true true e = (refl, refl)
        go true false e = never (sym e)
        go false b e = never (sym e)

    is_write : function_of request ≡ write_single
    is_write = eqb-true _ _ parts.0

    not_reading : eqb (function_of request) read_holding ≡ false
    not_reading = rw is_write

    fine : write_fault s request ≡ 0
    fine = (fault_of_other not_reading (eqb-true _ _ parts.1)).1

    some : eqb (length request) 0 ≡ false
    some = ne_eqb (length request) 0 (λ e. omega (arith, (writable request (write_parts fine).0).long))

    pub entry_made : exchange_of s request ≡ record { reply = request; search = (enter_of s (pos (called_for s)) (value_of request)).search }
    unfolding exchange_of entry_of
    entry_made = simp (some, parts.1, not_reading)

    pub entry_taken : is_refusal (enter_of s (pos (called_for s)) (value_of request)).report ≡ false
    unfolding entry_of
    entry_taken = (write_parts fine).1

    pub entry_offered : offers s request ≡ true
    unfolding fault_of
    entry_offered =
        let w = writable request (write_parts fine).0 in
        simp (standing (is_refusal (held_report s)) _ (eqb-true _ _ parts.1), parts.0, eq-eqb _ _ w.long, eq-eqb _ _ w.here)
      where
        standing : (b : Bool) (n : ℕ) → cond b device_failure n ≡ 0 → b ≡ false
        standing true n h = absurd (omega arith)
        standing false n h = refl

  -- a value that is offered
  module _ (n : offers s request ≡ true) where
    abbrev entry : Entered
    entry = enter_of s (pos (called_for s)) (value_of request)

    -- its four conditions
    record Offer : Type 0 where
      pub fine_search : is_refusal (held_report s) ≡ false
      pub writes : eqb (function_of request) write_single ≡ true
      pub long_enough : eqb (length request) request_length ≡ true
      pub here : eqb (address_of request) entry_register ≡ true

    offer : Offer
    offer = go (is_refusal (held_report s)) refl (eqb (function_of request) write_single) refl (eqb (length request) request_length) refl
        (eqb (address_of request) entry_register) refl n
      where
        go : (a : Bool) → is_refusal (held_report s) ≡ a → (b : Bool) → eqb (function_of request) write_single ≡ b
            → (c : Bool) → eqb (length request) request_length ≡ c → (d : Bool) → eqb (address_of request) entry_register ≡ d
            → (not a && (b && (not (not c) && d))) ≡ true → Offer
        go true e b f c g d h i = never (sym i)
        go false e false f c g d h i = never (sym i)
        go false e true f false g d h i = never (sym i)
        go false e true f true g false h i = never (sym i)
        go false e true f true g true h i = record { fine_search = e; writes = f; long_enough = g; here = h }

    pub offer_made : exchange_of s request
        ≡ cond (is_refusal entry.report) (record { reply = exception_reply write_single illegal_value; search = s })
        (record { reply = request; search = entry.search })
    unfolding exchange_of fault_of write_fault entry_of
    offer_made =
        let is_six : function_of request ≡ write_single = eqb-true _ _ offer.writes in
        let long : length request ≡ request_length = eqb-true _ _ offer.long_enough in
        let some : eqb (length request) 0 ≡ false = ne_eqb (length request) 0 (λ e. omega (arith, long)) in
        let other : eqb (function_of request) read_holding ≡ false = rw is_six in
        simp (some, offer.fine_search, other, offer.writes, offer.long_enough, offer.here) (go (is_refusal entry.report))
      where
        go : (b : Bool)
            → cond (eqb (cond b illegal_value 0) 0) (record { reply = request; search = entry.search }) (excepted s request (cond b illegal_value 0))
            ≡ cond b (record { reply = exception_reply write_single illegal_value; search = s }) (record { reply = request; search = entry.search })
        go true = ap (λ (f : ℕ). record { reply = exception_reply f illegal_value; search = s }) (eqb-true _ _ offer.writes)
        go false = refl

  -- a read
  module _ (e : function_of request ≡ read_holding) (z : eqb (fault_of s request) 0 ≡ true) where
    is_read : eqb (function_of request) read_holding ≡ true
    is_read = eq-eqb _ _ e

    ok : Readable request
    ok = readable request (fault_of_read is_read (eqb-true _ _ z))

    abbrev part : List ℕ
    part = part_of (registers_of s) (address_of request) (quantity_of request)

    long : length part ≡ quantity_of request
    long = part_length (registers_of s) request (seven s) ok

    read_made : exchange_of s request ≡ read
    unfolding exchange_of
    read_made = let some : eqb (length request) 0 ≡ false = ne_eqb (length request) 0 (λ n. omega (arith, ok.long)) in simp (some, z, is_read)

    pub reads_count : length (exchange_of s request).reply ≡ 2 + get_or (exchange_of s request).reply 1 0
    reads_count = rw read_made (omega (arith, word_bytes_length part, long))

    pub reads_back : (i : ℕ) → i < quantity_of request → word_at (exchange_of s request).reply (2 + 2 * i) ≡ get_or (registers_of s) (address_of request + i) 0
    reads_back i h =
        rw read_made
        (word_further read_holding (2 * quantity_of request) (word_bytes part) (2 * i)
        ∙ bytes_word part i (omega (arith, long))
        ∙ get_or-take (quantity_of request) (drop (address_of request) (registers_of s)) i 0 h
        ∙ get_or-drop (address_of request) (registers_of s) i 0)

-- ---- what `enter` leaves, of a search with its 77 slots

module _ (s : Search) (x v : ℤ) (long : length s.slots ≡ slots) where
  -- a refused value leaves the search
  pub refused_leaves : is_refusal (enter_of s x v).report ≡ true → (enter_of s x v).search ≡ s
  unfolding enter_of
  refused_leaves h =
      let e : is_refused (tried_of s x v) ≡ true = sym (refusal_is s.opening (tried_of s x v)) ∙ ap is_refusal (sym (enter_report s x v long)) ∙ h in
      simp e

  pub entered_long : length (enter_of s x v).search.slots ≡ slots
  unfolding enter_of
  entered_long = go (is_refused (tried_of s x v))
    where
      go : (b : Bool)
          → length (cond {A = Entered} b (record { report = report_at s.opening (tried_of s x v); search = s })
          (record { report = held_report (with_value s v); search = with_value s v })).search.slots ≡ slots
      go true = long
      go false = length-set s.slots s.count v ∙ long

-- ---- every value that the search accepts has a request

-- two's complement, from −32,767 to 32,767
signed_word : (v : ℤ) → nat_abs v ≤ 32767 → signed_of (word_of v) ≡ v
unfolding signed_of
signed_word (pos n) h = simp (lt-ltb n 32768 (omega arith))
signed_word (negsuc n) h =
    let below : ltb (65535 - n) 32768 ≡ false = le-ltb (65535 - n) 32768 (omega arith) in
    let less : ltb (65535 - n) 65536 ≡ true = lt-ltb (65535 - n) 65536 (omega arith) in
    let m : 65536 - suc (65535 - n) ≡ n = omega arith in
    simp below (simp less (ap negsuc m))

word_of_bytes : (n : ℕ) → 256 * (n / 256) + n % 256 ≡ n
word_of_bytes n = omega arith

module _ (s : Search) (v : ℤ) (taken : is_refusal (enter_of s (pos (called_for s)) v).report ≡ false) where
  abbrev x : ℤ
  x = pos (called_for s)

  passed : Taken s.opening (standing_of s) (other_at s.opening (standing_of s) x) v
  unfolding enter_of
  passed = taken_is s.opening (standing_of s) (other_at s.opening (standing_of s) x) v (tried_fine (is_refused (tried_of s x v)) refl)
    where
      tried_fine : (b : Bool) → is_refused (tried_of s x v) ≡ b → b ≡ false
      tried_fine true e = never (sym (simp e at (refusal_is s.opening (tried_of s x v))) ∙ (simp e at taken))
      tried_fine false e = refl

  standing : is_refusal (held_report s) ≡ false
  unfolding held_report
  standing = refusal_is s.opening (standing_of s) ∙ passed.standing

  in_range : nat_abs v ≤ 32767
  in_range = omega (arith, ltb-false largest_value (nat_abs v) passed.passed.ranged)

  value_is : value_of (entry_request v) ≡ v
  unfolding word_bytes
  value_is = ap signed_of (word_of_bytes (word_of v)) ∙ signed_word v in_range

  pub request_enters : enters s (entry_request v) ≡ true
  unfolding fault_of write_fault entry_of word_bytes
  request_enters = let e : is_refusal (enter_of s x (value_of (entry_request v))).report ≡ false = rw value_is taken in simp (standing, e)

pub every_value : EveryValue
every_value s v taken =
    entry_made s (entry_request v) (request_enters s v taken)
    ∙ ap (λ (w : ℤ). record { reply = entry_request v; search = (enter_of s (pos (called_for s)) w).search }) (value_is s v taken)
