-- The laws of the parts of a load, the held searches of its first n values: where each stands so long as the search had not stopped before, how many
-- values are drawn, and that each value is entered at the point called for.
-- Assumes nothing.
use Rattle.std.specs.Prelude.{ℕ, zero, suc, ◌≤◌, ◌<◌, ◌≡◌, refl, Bool, true, false, cond, [], ◌∷◌, ltb, pos, length}
use Rattle.std.proofs.Common.{zero-le, subst, ◌∙◌, arith, eq-eqb, ltb-true, ltb-false, length-append}
use Rattle.std.proofs.Math.Path.{sym, ap}
use Rattle.integers.specs.Digits.{Least}
use Rattle.integers.proofs.SignsLaws.{never}
use Rattle.rules.specs.declared.Opening.{Opening}
use Rattle.rules.specs.declared.Bracket.{Bracket}
use Rattle.rules.specs.declared.Progress.{Progress}
use Rattle.rules.specs.declared.Report.{Report}
use Rattle.rules.specs.Rules.{slots, first_of, second_of, lower_of, upper_of, stopped_of, next_of}
use Rattle.rules.specs.Refusals.{opening_refusal}
use Rattle.rules.proofs.RefusalsLaws.{opened}
use Rattle.rules.specs.Search.{is_refused, stopped_at, other_at, offer_of, take_of, progress_of, bracket_report, report_at, report_of, most_of}
use Rattle.rules.proofs.SearchLaws.{CountedAt, counts, going_fewer, progress_more, most_slots}
use Rattle.held.specs.Held.{reopen_of, open_of, standing_of, held_report, with_value, tried_of}
use Rattle.held.proofs.HeldLaws.{padded_full, standing_values, enter_accepted}
use Rattle.journal.proofs.JournalLaws.{take_passes}
use Rattle.journal.proofs.RunLaws.{same_point, values_more}
use Rattle.clean_sheets.specs.Clean.{called_at}
use Rattle.clean_sheets.proofs.AnswersLaws.{begins, report_next}
use Rattle.loading.specs.Loading.{load_opening, load_value, load_values, stopped_after, first_below, values_drawn, load_part, held_part}
use Rattle.loading.specs.Claims.{Stopped, GoesOn}
use Rattle.loading.proofs.DrawLaws.{accepted, value_ranged, second_crosses}

-- ---- where the search stands after the first n values

-- not stopped after any number of values below n
abbrev pub Going : (seed n : ℕ) → Type 0
Going seed n = (m : ℕ) → m < n → stopped_after seed m ≡ false

-- not after n either
pub going_more : (seed n : ℕ) → Going seed n → stopped_after seed n ≡ false → Going seed (suc n)
going_more seed n g e m h = go (ltb m n) refl
  where
    go : (b : Bool) → ltb m n ≡ b → stopped_after seed m ≡ false
    go true f = g m (ltb-true m n f)
    go false f = let i : m ≡ n = omega (arith, ltb-false m n f) in ap (stopped_after seed) i ∙ e

abbrev stands_after : (seed n : ℕ) → Progress
stands_after seed n = progress_of (load_opening seed) (load_values seed n)

abbrev Stage : (seed n : ℕ) → Progress → Type 0
Stage seed zero p = p ≡ Progress.Begun
Stage seed (suc zero) p = p ≡ Progress.First (load_value seed 0)
Stage seed (suc (suc n)) p = (k : Bracket) × (p ≡ Progress.Bracketed k)

-- one value more
leads_more : (seed n : ℕ) → stands_after seed (suc n) ≡ take_of (load_opening seed) (stands_after seed n) (load_value seed n)
unfolding load_values
leads_more seed n = progress_more (load_opening seed) (load_values seed n) (load_value seed n)

taken_from : (seed n : ℕ) (p : Progress) → stands_after seed n ≡ p → stands_after seed (suc n) ≡ take_of (load_opening seed) p (load_value seed n)
taken_from seed n p e = leads_more seed n ∙ ap (λ (q : Progress). take_of (load_opening seed) q (load_value seed n)) e

stage_more : (seed n : ℕ) → Stage seed n (stands_after seed n) → stopped_after seed n ≡ false → Stage seed (suc n) (stands_after seed (suc n))
unfolding stopped_after
stage_more seed zero e s =
    taken_from seed zero Progress.Begun e ∙ take_passes (load_opening seed) Progress.Begun (load_value seed 0) refl refl (value_ranged seed 0) refl
stage_more seed (suc zero) e s = (
  _,
  taken_from seed (suc zero) (Progress.First (load_value seed 0)) e
      ∙ take_passes (load_opening seed) (Progress.First (load_value seed 0)) (load_value seed 1) refl refl (value_ranged seed 1) (second_crosses seed),
)
stage_more seed (suc (suc n)) e s =
    let v = load_value seed (suc (suc n)) in (
      _,
      taken_from seed (suc (suc n)) (Progress.Bracketed e.0) e.1
          ∙ take_passes (load_opening seed) (Progress.Bracketed e.0) v refl (rw e.1 at s) (value_ranged seed (suc (suc n))) refl,
    )

stage : (seed n : ℕ) → Going seed n → Stage seed n (stands_after seed n)
unfolding load_values progress_of
stage seed zero g = begins (load_opening seed) (accepted seed)
stage seed (suc n) g = stage_more seed n (stage seed n (λ m h. g m (omega arith))) (g n (omega arith))

pub values_length : (seed n : ℕ) → length (load_values seed n) ≡ n
unfolding load_values
values_length seed zero = refl
values_length seed (suc n) = omega (arith, length-append (load_values seed n) (load_value seed n ∷ []), values_length seed n)

-- it counts the values, and is not refused
stage_counted : (seed n : ℕ) → Stage seed n (stands_after seed n) → CountedAt n (stands_after seed n)
stage_counted seed zero e = subst (CountedAt zero) (sym e) refl
stage_counted seed (suc zero) e = subst (CountedAt (suc zero)) (sym e) refl
stage_counted seed (suc (suc n)) e =
    subst (CountedAt (suc (suc n))) (sym e.1)
    (counts (load_opening seed) (accepted seed) (load_values seed (suc (suc n))) e.0 e.1 ∙ values_length seed (suc (suc n)))

stage_fine : (seed n : ℕ) (p : Progress) → Stage seed n p → is_refused p ≡ false
stage_fine seed zero p e = ap is_refused e
stage_fine seed (suc zero) p e = ap is_refused e
stage_fine seed (suc (suc n)) p e = ap is_refused e.1

-- ---- how many values are drawn

-- fewer than the quote, while the search has not stopped
pub room : (seed n : ℕ) → Going seed (suc n) → n < most_of (load_opening seed)
unfolding stopped_after
room seed n g =
    let fine = stage_fine seed n (stands_after seed n) (stage seed n (λ m h. g m (omega arith))) in
    omega (arith, going_fewer (load_opening seed) (load_values seed n) fine (g n (omega arith)), values_length seed n)

pub going_quoted : (seed n : ℕ) → Going seed n → n ≤ most_of (load_opening seed)
going_quoted seed zero g = zero-le
going_quoted seed (suc n) g = room seed n g

at_quote : (seed : ℕ) → Going seed (most_of (load_opening seed)) → stopped_after seed (most_of (load_opening seed)) ≡ true
at_quote seed g = go (stopped_after seed (most_of (load_opening seed))) refl
  where
    go : (b : Bool) → stopped_after seed (most_of (load_opening seed)) ≡ b → b ≡ true
    go true e = refl
    go false e = absurd (omega (arith, room seed (most_of (load_opening seed)) (going_more seed (most_of (load_opening seed)) g e)))

-- looking below a number is enough where the property holds there unless it holds before
first_least : (most : ℕ) (p : ℕ → Bool) → (((m : ℕ) → m < most → p m ≡ false) → p most ≡ true)
    → Least (λ n. p n ≡ true) (first_below most p) × (first_below most p ≤ most)
unfolding first_below
first_least zero p h = (record { holds = h (λ m l. absurd (omega arith)); least = λ u e. zero-le }, zero-le)
first_least (suc most) p h = go (p 0) refl (λ g. first_least most (λ n. p (suc n)) (λ f. h (g f)))
  where
    rest : ℕ
    rest = first_below most (λ n. p (suc n))

    below : p 0 ≡ false → ((m : ℕ) → m < most → p (suc m) ≡ false) → (m : ℕ) → m < suc most → p m ≡ false
    below e g zero l = e
    below e g (suc m) l = g m (omega arith)

    above : p 0 ≡ false → Least (λ n. p (suc n) ≡ true) rest → (u : ℕ) → p u ≡ true → suc rest ≤ u
    above e r zero f = never (sym f ∙ e)
    above e r (suc u) f = omega (arith, r.least u f)

    go : (b : Bool) → p 0 ≡ b
        → ((((m : ℕ) → m < most → p (suc m) ≡ false) → (m : ℕ) → m < suc most → p m ≡ false) → Least (λ n. p (suc n) ≡ true) rest × (rest ≤ most))
        → Least (λ n. p n ≡ true) (cond b 0 (suc rest)) × (cond b 0 (suc rest) ≤ suc most)
    go true e k = (record { holds = e; least = λ u f. zero-le }, zero-le)
    go false e k = let r = k (below e) in (record { holds = r.0.holds; least = above e r.0 }, omega (arith, r.1))

-- the least number after which the search has stopped, and no more than the quote
pub drawn : (seed : ℕ) → Least (λ n. stopped_after seed n ≡ true) (values_drawn seed) × (values_drawn seed ≤ most_of (load_opening seed))
unfolding values_drawn
drawn seed = first_least (most_of (load_opening seed)) (stopped_after seed) (at_quote seed)

pub most_fits : (seed : ℕ) → most_of (load_opening seed) ≤ slots
most_fits seed = most_slots (load_opening seed) (opened (load_opening seed) (accepted seed))

-- before it the search goes on
pub going_drawn : (seed : ℕ) → Going seed (values_drawn seed)
going_drawn seed m h = go (stopped_after seed m) refl
  where
    go : (b : Bool) → stopped_after seed m ≡ b → b ≡ false
    go true e = absurd (omega (arith, (drawn seed).0.least m e))
    go false e = refl

-- and where it goes on so far, and has stopped, is there
pub drawn_is : (seed n : ℕ) → Going seed n → stopped_after seed n ≡ true → n ≡ values_drawn seed
drawn_is seed n g e = go (ltb (values_drawn seed) n) refl
  where
    go : (b : Bool) → ltb (values_drawn seed) n ≡ b → n ≡ values_drawn seed
    go true f = never (sym (drawn seed).0.holds ∙ g (values_drawn seed) (ltb-true (values_drawn seed) n f))
    go false f = omega (arith, ltb-false (values_drawn seed) n f, (drawn seed).0.least n e)

-- ---- the part of n values

module _ (seed n : ℕ) (few : n ≤ slots) where
  values_few : length (load_values seed n) ≤ slots
  values_few = omega (arith, values_length seed n)

  pub slots_full : length (load_part seed n).slots ≡ slots
  slots_full = padded_full (load_opening seed) (load_values seed n) values_few

  stands : standing_of (load_part seed n) ≡ stands_after seed n
  stands = standing_values (load_opening seed) (load_values seed n) values_few

  tells : held_report (load_part seed n) ≡ report_at (load_opening seed) (stands_after seed n)
  unfolding held_report
  tells = ap (report_at (load_opening seed)) stands

-- a fresh search holds no value
pub fresh_part : (seed : ℕ) → open_of (load_opening seed) ≡ held_part seed 0
unfolding reopen_of load_values report_of
fresh_part seed =
    simp (eq-eqb (opening_refusal (load_opening seed)) 0 (accepted seed).accepted)
    (ap (λ (r : Report). record { report = r; search = load_part seed 0 }) (sym (tells seed 0 (omega arith))))

-- once stopped, its report is the stop
bracket_stopped : (o : Opening) (k : Bracket) (n : ℕ) → stopped_of o k ≡ true → k.taken ≡ n → Stopped n (report_at o (Progress.Bracketed k))
unfolding report_at bracket_report
bracket_stopped o k n s e =
    record { lower = lower_of k; upper = upper_of k; better = k.better.point; told = simp s (ap (Report.Stop (lower_of k) (upper_of k) k.better.point) e) }

stage_stopped : (seed n : ℕ) (p : Progress) → Stage seed n p → CountedAt n p → stopped_at (load_opening seed) p ≡ true
    → Stopped n (report_at (load_opening seed) p)
stage_stopped seed zero p e c s = never (sym (rw e at s))
stage_stopped seed (suc zero) p e c s = never (sym (rw e at s))
stage_stopped seed (suc (suc n)) p e c s =
    rw e.1 (bracket_stopped (load_opening seed) e.0 (suc (suc n)) (rw e.1 at s) (subst (CountedAt (suc (suc n))) e.1 c))

pub part_stopped : (seed n : ℕ) → n ≤ slots → Going seed n → stopped_after seed n ≡ true → Stopped n (held_report (load_part seed n))
unfolding stopped_after
part_stopped seed n h g s =
    let e = stage seed n g in
    subst (Stopped n) (sym (tells seed n h)) (stage_stopped seed n (stands_after seed n) e (stage_counted seed n e) s)

-- ---- till then a point is called for, and the next value is entered there

-- the point called for is none other
called_same : (o : Opening) (p : Progress) → is_refused p ≡ false → stopped_at o p ≡ false → other_at o p (pos (called_at o p)) ≡ false
called_same o Progress.Begun r s = same_point _ (first_of o) refl
called_same o (Progress.First v) r s = same_point _ (second_of o) refl
called_same o (Progress.Bracketed k) r s = simp s (same_point _ (next_of o k) refl)
called_same o (Progress.Refused n i) r s = never r

module _ (seed n : ℕ) (going : Going seed n) (on : stopped_after seed n ≡ false) where
  abbrev o : Opening
  o = load_opening seed

  more : Going seed (suc n)
  more = going_more seed n going on

  few : n < slots
  few = omega (arith, room seed n more, most_fits seed)

  fine : is_refused (stands_after seed n) ≡ false
  fine = stage_fine seed n (stands_after seed n) (stage seed n going)

  still : stopped_at o (stands_after seed n) ≡ false
  unfolding stopped_after
  still = on

  abbrev point : ℕ
  point = called_at o (stands_after seed n)

  tried : stands_after seed (suc n) ≡ tried_of (load_part seed n) (pos point) (load_value seed n)
  unfolding take_of
  tried =
      leads_more seed n
      ∙ sym (ap (λ (b : Bool). offer_of o (stands_after seed n) b (load_value seed n)) (called_same o (stands_after seed n) fine still))
      ∙ sym (ap (λ (p : Progress). offer_of o p (other_at o p (pos point)) (load_value seed n)) (stands seed n (omega (arith, few))))

  part_more : load_part seed (suc n) ≡ with_value (load_part seed n) (load_value seed n)
  unfolding load_values
  part_more = values_more o (load_values seed n) (load_value seed n) (omega (arith, few, values_length seed n))

  pub goes : GoesOn seed n
  goes =
      record {
        point = point;
        called = tells seed n (omega (arith, few)) ∙ report_next o n (stands_after seed n) (stage_counted seed n (stage seed n going)) fine still;
        entered =
            sym
            (enter_accepted (load_part seed n) (pos point) (load_value seed n) (stands_after seed (suc n)) (held_report (load_part seed (suc n))) tried
            (tells seed (suc n) (omega (arith, few)))
            (slots_full seed n (omega (arith, few)))
            (stage_fine seed (suc n) (stands_after seed (suc n)) (stage seed (suc n) more))
            (load_part seed (suc n))
            part_more);
      }
