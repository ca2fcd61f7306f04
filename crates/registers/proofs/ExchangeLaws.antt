-- The laws of one exchange, from what its checks say: each exception by its case, a read, and a write.
-- Assumes nothing.
use Rattle.std.specs.Prelude.{ℕ, ◌+◌, ◌*◌, ◌≤◌, ◌≡◌, Bool, not, ◌&&◌, List, [], ◌∷◌, eqb, leb, ltb, length, get_or}
use Rattle.std.proofs.Math.Path.{refl, ap}
use Rattle.std.proofs.Math.Bool.{true, false, cond}
use Rattle.std.proofs.Common.{arith, eqb-true, leb-true, ltb-false, length-take, length-drop}
use Rattle.rules.specs.Search.{is_refusal}
use Rattle.held.specs.declared.Search.{Search}
use Rattle.held.specs.Held.{held_report}
use Rattle.registers.specs.Registers.{registers_of, register_count, entry_register}
use Rattle.registers.specs.Exchange.{read_holding, write_single, request_length, most_asked, function_of, address_of, quantity_of, entry_of}
use Rattle.registers.specs.Exchange.{illegal_function, illegal_address, illegal_value, device_failure, wrong_length, read_fault, write_fault, fault_of}
use Rattle.registers.specs.Exchange.{exception_reply, word_bytes, part_of, read_reply, Exchange, excepted, exchange_of, longest_reply}
use Rattle.registers.specs.Inner.{read_told, echoed, write_told, form_fault, Readable, Writable}

-- ---- the cases

module _ (s : Search) (request : List ℕ) where
  pub empty_exchange : eqb (length request) 0 ≡ true → exchange_of s request ≡ record { reply = []; search = s }
  unfolding exchange_of
  empty_exchange e = simp e

  module _ (some : eqb (length request) 0 ≡ false) where
    pub refused_exchange : is_refusal (held_report s) ≡ true → exchange_of s request ≡ excepted s request device_failure
    unfolding exchange_of fault_of
    refused_exchange e = simp (some, e)

    module _ (fine : is_refusal (held_report s) ≡ false) where
      pub other_exchange : eqb (function_of request) read_holding ≡ false → eqb (function_of request) write_single ≡ false
          → exchange_of s request ≡ excepted s request illegal_function
      unfolding exchange_of fault_of
      other_exchange e f = simp (some, fine, e, f)

      pub read_exchange : eqb (function_of request) read_holding ≡ true
          → exchange_of s request ≡ record { reply = read_told (registers_of s) request; search = s }
      unfolding exchange_of fault_of
      read_exchange e = simp (some, fine, e) (go (eqb (read_fault request) 0))
        where
          go : (b : Bool)
              → cond {A = Exchange} b (record { reply = read_reply (registers_of s) request; search = s }) (excepted s request (read_fault request))
              ≡ record { reply = cond b (read_reply (registers_of s) request) (exception_reply read_holding (read_fault request)); search = s }
          go true = refl
          go false = ap (λ (f : ℕ). record { reply = exception_reply f (read_fault request); search = s }) (eqb-true _ _ e)

      pub write_exchange : eqb (function_of request) read_holding ≡ false → eqb (function_of request) write_single ≡ true
          → exchange_of s request ≡ write_told s request
      unfolding exchange_of fault_of
      write_exchange e f = simp (some, fine, e, f) (go (eqb (write_fault s request) 0))
        where
          go : (b : Bool)
              → cond b (echoed s request) (excepted s request (write_fault s request))
              ≡ cond b (echoed s request) (record { reply = exception_reply write_single (write_fault s request); search = s })
          go true = refl
          go false = ap (λ (f : ℕ). record { reply = exception_reply f (write_fault s request); search = s }) (eqb-true _ _ f)

-- ---- a write's cases

pub write_fault_is : (s : Search) (request : List ℕ)
    → write_fault s request ≡ cond (eqb (form_fault request) 0) (cond (is_refusal (entry_of s request).report) illegal_value 0) (form_fault request)
unfolding write_fault form_fault
write_fault_is s request =
    go (wrong_length request) (not (eqb (address_of request) entry_register)) (cond (is_refusal (entry_of s request).report) illegal_value 0)
  where
    go : (a b : Bool) (last : ℕ) → cond a illegal_value (cond b illegal_address last)
        ≡ cond (eqb (cond a illegal_value (cond b illegal_address 0)) 0) last (cond a illegal_value (cond b illegal_address 0))
    go true b last = refl
    go false true last = refl
    go false false last = refl

module _ (s : Search) (request : List ℕ) where
  pub write_misplaced : (n : ℕ) → n ≡ form_fault request → eqb n 0 ≡ false
      → record { reply = exception_reply write_single n; search = s } ≡ write_told s request
  write_misplaced n e f = let g : eqb (form_fault request) 0 ≡ false = rw e at f in rw (write_fault_is s request) (simp (g, e))

  module _ (placed : eqb (form_fault request) 0 ≡ true) where
    pub write_refused : is_refusal (entry_of s request).report ≡ true
        → record { reply = exception_reply write_single illegal_value; search = s } ≡ write_told s request
    write_refused e = rw (write_fault_is s request) (simp (placed, e))

    pub write_accepted : is_refusal (entry_of s request).report ≡ false → echoed s request ≡ write_told s request
    write_accepted e = rw (write_fault_is s request) (simp (placed, e))

-- ---- what a request without a fault is

pub readable : (request : List ℕ) → read_fault request ≡ 0 → Readable request
unfolding read_fault
readable request h =
    go (eqb (length request) request_length) refl (leb 1 (quantity_of request)) refl (leb (quantity_of request) most_asked)
    (ltb register_count (address_of request + quantity_of request)) refl h
  where
    go : (a : Bool) → eqb (length request) request_length ≡ a → (b : Bool) → leb 1 (quantity_of request) ≡ b → (c : Bool)
        → (d : Bool) → ltb register_count (address_of request + quantity_of request) ≡ d
        → cond (not a) illegal_value (cond (not (b && c)) illegal_value (cond d illegal_address 0)) ≡ 0 → Readable request
    go false e b f c d g h = absurd (omega arith)
    go true e false f c d g h = absurd (omega arith)
    go true e true f false d g h = absurd (omega arith)
    go true e true f true true g h = absurd (omega arith)
    go true e true f true false g h = record { long = eqb-true _ _ e; least = leb-true _ _ f; inside = ltb-false _ _ g }

pub writable : (request : List ℕ) → form_fault request ≡ 0 → Writable request
unfolding form_fault
writable request h = go (eqb (length request) request_length) refl (eqb (address_of request) entry_register) refl h
  where
    go : (a : Bool) → eqb (length request) request_length ≡ a → (b : Bool) → eqb (address_of request) entry_register ≡ b
        → cond (not a) illegal_value (cond (not b) illegal_address 0) ≡ 0 → Writable request
    go false e b f h = absurd (omega arith)
    go true e false f h = absurd (omega arith)
    go true e true f h = record { long = eqb-true _ _ e; here = eqb-true _ _ f }

-- five bytes one by one
pub five_bytes : (request : List ℕ) → length request ≡ request_length
    → get_or request 0 0 ∷ get_or request 1 0 ∷ get_or request 2 0 ∷ get_or request 3 0 ∷ get_or request 4 0 ∷ [] ≡ request
five_bytes [] h = absurd (omega arith)
five_bytes (a ∷ []) h = absurd (omega arith)
five_bytes (a ∷ b ∷ []) h = absurd (omega arith)
five_bytes (a ∷ b ∷ c ∷ []) h = absurd (omega arith)
five_bytes (a ∷ b ∷ c ∷ d ∷ []) h = absurd (omega arith)
five_bytes (a ∷ b ∷ c ∷ d ∷ e ∷ []) h = refl
five_bytes (a ∷ b ∷ c ∷ d ∷ e ∷ f ∷ rest) h = absurd (omega arith)

-- ---- how long replies are

pub word_bytes_length : (words : List ℕ) → length (word_bytes words) ≡ 2 * length words
unfolding word_bytes
word_bytes_length [] = refl
word_bytes_length (w ∷ ws) = omega (arith, word_bytes_length ws)

module _ (words request : List ℕ) (long : length words ≡ register_count) (ok : Readable request) where
  pub part_length : length (part_of words (address_of request) (quantity_of request)) ≡ quantity_of request
  part_length = rw (length-take, length-drop) (omega (arith, ok.inside))

  pub read_length : length (read_reply words request) ≤ longest_reply
  read_length = omega (arith, word_bytes_length (part_of words (address_of request) (quantity_of request)), part_length, ok.inside)
