-- A reply beside its search: what it tells, and the call from it.
-- Assumes nothing.
use Rattle.std.specs.Prelude.{ℕ, ◌≤◌, ◌≡◌, true, leb, List, length, Ok}
use Rattle.std.proofs.Common.{◌∙◌, arith, le-ltb, le-leb}
use Rattle.held.specs.declared.Search.{Search}
use Rattle.printing.specs.Printed.{placed, placed_length}
use Rattle.registers.specs.Exchange.{Exchange, exchange_of, longest_reply, exchanged_of, reply_buffer}
use Rattle.registers.proofs.PanelLaws.{reply_short}
use Rattle.panel.specs.declared.Told.{Told}

-- it is the exchange's reply, beside its search
pub record Tells (t : Told) (e : Exchange) : Type 0 where
  pub reply : t.reply.items ≡ e.reply
  pub search : t.search ≡ e.search

-- ---- the call, from the reply that was made: n bytes of it were placed in the buffer

module _ (s : Search) (request buffer : List ℕ) (long : longest_reply ≤ length buffer) where
  abbrev text : List ℕ
  text = (exchange_of s request).reply

  -- there is room for it
  fits : leb (length text) (length buffer) ≡ true
  fits = le-leb (length text) (length buffer) (omega (arith, reply_short s request))

  length_is : (n : ℕ) → n ≡ placed_length text buffer → n ≡ length text
  unfolding placed_length
  length_is n e = e ∙ simp fits

  -- n is small
  pub few : (n : ℕ) → n ≡ placed_length text buffer → n ≤ longest_reply
  few n e = omega (arith, reply_short s request, length_is n e)

  pub told_is : (n : ℕ) (after : Search) → n ≡ placed_length text buffer → after ≡ (exchange_of s request).search
      → record { replied = Ok n; search = after } ≡ exchanged_of s request buffer
  unfolding exchanged_of
  told_is n after e f = simp (le-ltb _ _ long) (rw (length_is n e, f))

  pub buffer_is : (after : List ℕ) → after ≡ placed text buffer → after ≡ reply_buffer s request buffer
  unfolding reply_buffer placed
  buffer_is after e = simp (le-ltb _ _ long) (e ∙ simp fits)
