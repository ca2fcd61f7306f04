-- The laws of the search over a list, for every accepted opening and every list of values: where the next point lies, how brackets
-- nest, what their values are, how long a streak may be and how many answers are needed. M and R share them: the allowed streak is
-- a parameter.
-- Assumes nothing.
use Rattle.std.specs.Prelude.{ℕ, ◌+◌, ◌*◌, ◌/◌, ◌^◌, ◌≤◌, ◌<◌, ◌≡◌, refl, Bool, cond, ◌||◌, ◌⊎◌, eqb, length, ℤ, pos, nat_abs}
use Rattle.std.proofs.Math.Path.{sym, ap}
use Rattle.std.proofs.Common.{subst, ◌∙◌, inl, inr, le_trans, add-zero, zero-add, mul-le-mul, arith, eqb-true, ltb-false, eq-eqb}
use Rattle.std.proofs.Math.Bool.{true, false}
use mathlib.Core.List.{List, [], ◌∷◌, ◌++◌, foldl, foldl-append}
use Rattle.integers.specs.Digits.{halvings, digits, Least}
use Rattle.integers.proofs.SignsLaws.{never}
use Rattle.rules.specs.declared.Opening.{Opening}
use Rattle.rules.specs.declared.Method.{Method}
use Rattle.rules.specs.declared.Sample.{Sample}
use Rattle.rules.specs.declared.Bracket.{Bracket}
use Rattle.rules.specs.declared.Progress.{Progress}
use Rattle.rules.specs.declared.Report.{Report}
use Rattle.rules.specs.Rules.{highest, largest_tolerance, largest_share, largest_value, slots, method_of, first_of, second_of, tolerance_at, closer}
use Rattle.rules.specs.Rules.{pair_of, start_of, lower_of, upper_of, width_of, stopped_of, partner_of, third_of, streak_of, renewed_of}
use Rattle.rules.specs.Rules.{advance_of, allowed, reach_of, offset_of, next_of}
use Rattle.rules.proofs.RulesLaws.{Ahead, next_ahead, offset_in, going_wide, Straddles, partner_is, Advance, advance_by, advance_is, advance_counts}
use Rattle.rules.proofs.RulesLaws.{start_is, start_counts, Halves, Rule7, streak_is, bisection_halves, forced}
use Rattle.rules.specs.Refusals.{opening_refusal, answer_refusal, too_large, same_side, Accepted}
use Rattle.rules.proofs.RefusalsLaws.{Opened, opened, Passed, answer_passed, crossing_opposed}
use Rattle.rules.specs.Search.{is_refused, begin_of, stopped_at, same_side_at, taken_of, entered_at, answered_at, offer_of, take_of, progress_of}
use Rattle.rules.specs.Search.{answers_of, bracket_report, report_at, is_refusal, distance_of, turns_of, t_of, most_of}
use Rattle.rules.proofs.BoundLaws.{turns_least, turns_few, Bound, bound_start, bound_below, bound_step}

-- ---- what is known of a bracket that answers have led to

pub record Limited (s : Sample) : Type 0 where
  pub point : s.point ≤ highest
  pub value : nat_abs s.value ≤ largest_value

pub record Limits (k : Bracket) : Type 0 where
  pub better : Limited k.better
  pub other : Limited k.other
  pub previous : Limited k.previous
  pub third : Limited k.third

pub record Sound (o : Opening) (k : Bracket) : Type 0 where
  pub held : Straddles k
  pub closest : nat_abs k.better.value ≤ nat_abs k.other.value
  pub limits : Limits k
  pub counted : k.streak + 2 ≤ k.taken
  pub bound : Bound (allowed (method_of o)) (nat_abs o.tolerance) (distance_of o) k.taken (width_of k) k.streak

-- ---- one step

-- the one lemma on the tolerance at b that the bound rests on
pub tolerance_least : (o : Opening) (b : ℕ) → nat_abs o.tolerance ≤ tolerance_at o b
unfolding tolerance_at
tolerance_least o b = omega arith

-- from bounds on τ, p and b
pub tolerance_within : (o : Opening) (b : ℕ) {τ p q : ℕ} → nat_abs o.tolerance ≤ τ → nat_abs o.share ≤ p → b ≤ q
    → tolerance_at o b ≤ τ + p * q / 1000
unfolding tolerance_at
tolerance_within o b h g k = omega (arith, mul-le-mul g k)

-- with the largest τ and p at the highest point
pub tolerance_most : (o : Opening) (b : ℕ) → Opened o → b ≤ highest → tolerance_at o b ≤ largest_tolerance + largest_share * highest / 1000
tolerance_most o b op h = tolerance_within o b op.tolerance.most op.share.most h

pub going_wider : (o : Opening) (k : Bracket) → stopped_of o k ≡ false → 2 * nat_abs o.tolerance < width_of k
going_wider o k g = omega (arith, going_wide o k g, tolerance_least o k.better.point)

third_limited : (k : Bracket) (x b : Sample) → Limits k → Limited (third_of k x b)
third_limited k x b l = go (eqb b.point x.point || eqb b.point k.better.point)
  where
    go : (t : Bool) → Limited (cond t k.previous k.better)
    go true = l.previous
    go false = l.better

end_limited : (k : Bracket) {p : Sample} → Limits k → (p ≡ k.better) ⊎ (p ≡ k.other) → Limited p
end_limited k l (inl e) = subst Limited (sym e) l.better
end_limited k l (inr e) = subst Limited (sym e) l.other

limits_advance : (k : Bracket) (x : Sample) → Straddles k → Limits k → Limited x → Limits (advance_of k x)
unfolding renewed_of
limits_advance k x h l m =
    let p = end_limited k l (partner_is k x h).end in
    advance_by Limits k x
    (λ e. record { better = m; other = p; previous = l.better; third = third_limited k x x l })
    (λ e. record { better = p; other = m; previous = m; third = third_limited k x (partner_of k x) l })

streak_grows : (L new s : ℕ) → streak_of L new s ≤ s + 1
streak_grows L new s = go (streak_is L new s)
  where
    go : Rule7 L new s → streak_of L new s ≤ s + 1
    go (inl h) = omega (arith, h.1)
    go (inr h) = omega (arith, h.1)

module _ (o : Opening) (k : Bracket) (v : ℤ) (op : Opened o) (sound : Sound o k) (going : stopped_of o k ≡ false) where
  pub tolerance_some : 1 ≤ tolerance_at o k.better.point
  tolerance_some = le_trans op.tolerance.least (tolerance_least o k.better.point)

  pub ahead : Ahead k (offset_of o k) (next_of o k)
  ahead = next_ahead o k tolerance_some going

  abbrev asked : Sample
  asked = record { point = next_of o k; value = v }

  pub advanced : Advance k (offset_of o k) (advance_of k asked)
  advanced = advance_is k asked (offset_of o k) sound.held ahead

  -- at the allowed streak the step is a bisection
  bisected : k.streak ≡ allowed (method_of o) → offset_of o k ≡ width_of k / 2
  unfolding offset_of reach_of
  bisected e = rw (forced (method_of o) k.taken k.streak sound.counted e)

  pub forced_halves : k.streak ≡ allowed (method_of o) → Halves (width_of k) (width_of (advance_of k asked))
  forced_halves e =
      bisection_halves (width_of k) (width_of (advance_of k asked)) (rw (bisected e) at (advanced.rest (offset_in o k going).high))

  asked_limited : nat_abs v ≤ largest_value → Limited asked
  asked_limited h = record { point = omega (arith, ahead.below, sound.limits.better.point, sound.limits.other.point); value = h }

  pub sound_advance : nat_abs v ≤ largest_value → Sound o (advance_of k asked)
  sound_advance h =
      let counts = advance_counts k asked in
      record {
        held = advanced.held;
        closest = advanced.closest;
        limits = limits_advance k asked sound.held sound.limits (asked_limited h);
        counted = omega (arith, counts.0, counts.1, streak_grows (width_of k) (width_of (advance_of k asked)) k.streak, sound.counted);
        bound =
            rw (counts.0, counts.1)
            (bound_step _ _ _ _ _ _
            op.tolerance.least
            sound.bound
            (going_wider o k going)
            (width_of (advance_of k asked))
            advanced.narrower
            forced_halves);
      }

-- ---- the first bracket

module _ (o : Opening) (u v : ℤ) where
  abbrev begins : Sample
  begins = record { point = first_of o; value = u }

  abbrev ends : Sample
  ends = record { point = second_of o; value = v }

  limits_start : Limited begins → Limited ends → Limits (start_of begins ends)
  unfolding start_of
  limits_start p q = go (closer ends begins)
    where
      go : (b : Bool) → Limits (cond b (pair_of ends begins ends) (pair_of begins ends ends))
      go true = record { better = q; other = p; previous = p; third = p }
      go false = record { better = p; other = q; previous = q; third = q }

  pub sound_start : Opened o → nat_abs u ≤ largest_value → nat_abs v ≤ largest_value → same_side u v ≡ false → Sound o (start_of begins ends)
  sound_start op h i e =
      let s = start_is begins ends op.apart (crossing_opposed u v e) in
      let n = start_counts begins ends in
      record {
        held = s.held;
        closest = s.closest;
        limits = limits_start (record { point = op.first.most; value = h }) (record { point = op.second.most; value = i });
        counted = omega (arith, n.0, n.1);
        bound = rw (n.0, n.1, s.wide) (bound_start _ _ _);
      }

-- ---- every list of values

-- what is known of where a search stands
abbrev pub SoundAt : Opening → Progress → Type 0
SoundAt o Progress.Begun = Opened o
SoundAt o (Progress.First v) = Opened o × (nat_abs v ≤ largest_value)
SoundAt o (Progress.Bracketed k) = Opened o × Sound o k
SoundAt o (Progress.Refused m i) = Unit {0}

-- after n values: a bracket counts them, and a refusal has the index of one of them
abbrev pub CountedAt : ℕ → Progress → Type 0
CountedAt n Progress.Begun = n ≡ 0
CountedAt n (Progress.First v) = n ≡ 1
CountedAt n (Progress.Bracketed k) = k.taken ≡ n
CountedAt n (Progress.Refused m i) = i < n

module _ (o : Opening) (p : Progress) (other : Bool) (v : ℤ) where
  abbrev refusal : ℕ
  refusal = answer_refusal (stopped_at o p) other (too_large v) (same_side_at p v)

  -- a property of where the search stands then, if it holds where the answer is entered and where it is refused
  settled : (P : Progress → Type 0) → (Passed (stopped_at o p) other (too_large v) (same_side_at p v) → P (entered_at o p v))
      → P (Progress.Refused refusal (taken_of p)) → P (answered_at o p other v)
  settled P f g = go (eqb refusal 0) refl
    where
      go : (b : Bool) → eqb refusal 0 ≡ b → P (cond b (entered_at o p v) (Progress.Refused refusal (taken_of p)))
      go true h = f (answer_passed _ _ _ _ (eqb-true _ _ h))
      go false h = g

value_limited : (v : ℤ) → too_large v ≡ false → nat_abs v ≤ largest_value
value_limited v e = ltb-false largest_value (nat_abs v) e

pub sound_offer : (o : Opening) (p : Progress) (other : Bool) (v : ℤ) → SoundAt o p → SoundAt o (offer_of o p other v)
unfolding offer_of
sound_offer o Progress.Begun other v s =
    settled o Progress.Begun other v (SoundAt o) (λ q. (s, value_limited v q.ranged)) tt
sound_offer o (Progress.First u) other v s =
    settled o (Progress.First u) other v (SoundAt o)
    (λ q. (s.0, sound_start o u v s.0 s.1 (value_limited v q.ranged) q.crossing)) tt
sound_offer o (Progress.Bracketed k) other v s =
    settled o (Progress.Bracketed k) other v (SoundAt o)
    (λ q. (s.0, sound_advance o k v s.0 s.1 q.going (value_limited v q.ranged))) tt
sound_offer o (Progress.Refused m i) other v s = tt

pub counted_offer : (o : Opening) (n : ℕ) (p : Progress) (other : Bool) (v : ℤ) → CountedAt n p → CountedAt (n + 1) (offer_of o p other v)
unfolding offer_of
counted_offer o n Progress.Begun other v e =
    settled o Progress.Begun other v (CountedAt (n + 1)) (λ q. omega arith) (omega arith)
counted_offer o n (Progress.First u) other v e =
    settled o (Progress.First u) other v (CountedAt (n + 1)) (λ q. omega (arith, (start_counts (begins o u v) (ends o u v)).1)) (omega arith)
counted_offer o n (Progress.Bracketed k) other v e =
    settled o (Progress.Bracketed k) other v (CountedAt (n + 1))
    (λ q. omega (arith, (advance_counts k (record { point = next_of o k; value = v })).1)) (omega arith)
counted_offer o n (Progress.Refused m i) other v e = omega arith

pub sound_begin : (o : Opening) → SoundAt o (begin_of o)
unfolding begin_of
sound_begin o = go (eqb (opening_refusal o) 0) refl
  where
    go : (b : Bool) → eqb (opening_refusal o) 0 ≡ b → SoundAt o (cond b Progress.Begun (Progress.Refused (opening_refusal o) 0))
    go true e = opened o (record { accepted = eqb-true _ _ e })
    go false e = tt

pub sound : (o : Opening) (vs : List ℤ) → SoundAt o (progress_of o vs)
unfolding progress_of take_of
sound o vs = go (begin_of o) vs (sound_begin o)
  where
    go : (p : Progress) (vs : List ℤ) → SoundAt o p → SoundAt o (foldl (take_of o) p vs)
    go p [] s = s
    go p (v ∷ vs) s = go (offer_of o p false v) vs (sound_offer o p false v s)

counted : (o : Opening) → Accepted o → (vs : List ℤ) → CountedAt (length vs) (progress_of o vs)
unfolding progress_of take_of begin_of
counted o a vs = rw (eq-eqb (opening_refusal o) 0 a.accepted) (rw (zero-add (length vs)) at (go 0 Progress.Begun vs refl))
  where
    go : (n : ℕ) (p : Progress) (vs : List ℤ) → CountedAt n p → CountedAt (n + length vs) (foldl (take_of o) p vs)
    go n p [] c = rw (add-zero n) c
    go n p (v ∷ vs) c =
        let e : (n + 1) + length vs ≡ n + length (v ∷ vs) = omega arith in
        rw (← e) (go (n + 1) (offer_of o p false v) vs (counted_offer o n p false v c))

-- one value more
pub progress_more : (o : Opening) (vs : List ℤ) (v : ℤ) → progress_of o (vs ++ (v ∷ [])) ≡ take_of o (progress_of o vs) v
unfolding progress_of
progress_more o vs v = foldl-append (take_of o) (begin_of o) vs (v ∷ [])

-- ---- once refused, refused

pub refused_stays : (o : Opening) (p : Progress) (vs : List ℤ) → is_refused p ≡ true → foldl (take_of o) p vs ≡ p
unfolding take_of offer_of
refused_stays o p [] e = refl
refused_stays o Progress.Begun (v ∷ vs) e = never (sym e)
refused_stays o (Progress.First u) (v ∷ vs) e = never (sym e)
refused_stays o (Progress.Bracketed k) (v ∷ vs) e = never (sym e)
refused_stays o (Progress.Refused n i) (v ∷ vs) e = refused_stays o (Progress.Refused n i) vs e

pub answers_stay : (o : Opening) (p : Progress) (xs vs : List ℤ) → is_refused p ≡ true → answers_of o p xs vs ≡ p
unfolding answers_of offer_of
answers_stay o p [] vs e = refl
answers_stay o p (x ∷ xs) [] e = refl
answers_stay o Progress.Begun (x ∷ xs) (v ∷ vs) e = never (sym e)
answers_stay o (Progress.First u) (x ∷ xs) (v ∷ vs) e = never (sym e)
answers_stay o (Progress.Bracketed k) (x ∷ xs) (v ∷ vs) e = never (sym e)
answers_stay o (Progress.Refused n i) (x ∷ xs) (v ∷ vs) e = answers_stay o (Progress.Refused n i) xs vs e

-- a report is a refusal where the search is refused
pub refusal_is : (o : Opening) (p : Progress) → is_refusal (report_at o p) ≡ is_refused p
unfolding report_at bracket_report
refusal_is o Progress.Begun = refl
refusal_is o (Progress.First u) = refl
refusal_is o (Progress.Bracketed k) = go (stopped_of o k)
  where
    go : (b : Bool) → is_refusal (cond b (Report.Stop (lower_of k) (upper_of k) k.better.point k.taken) (Report.Next (next_of o k) k.taken)) ≡ false
    go true = refl
    go false = refl
refusal_is o (Progress.Refused n i) = refl

-- a list that is not refused has an accepted opening
pub accepted_of : (o : Opening) (vs : List ℤ) → is_refused (progress_of o vs) ≡ false → Accepted o
unfolding progress_of begin_of
accepted_of o vs h = go (eqb (opening_refusal o) 0) refl
  where
    go : (b : Bool) → eqb (opening_refusal o) 0 ≡ b → Accepted o
    go true e = record { accepted = eqb-true _ _ e }
    go false e =
        never
        (sym (ap is_refused (refused_stays o (Progress.Refused (opening_refusal o) 0) vs refl))
        ∙ rw e at h)

-- an answer that is not refused passed its row's checks, and it is entered
pub record Taken (o : Opening) (p : Progress) (other : Bool) (v : ℤ) : Type 0 where
  pub standing : is_refused p ≡ false
  pub passed : Passed (stopped_at o p) other (too_large v) (same_side_at p v)
  pub entered : offer_of o p other v ≡ entered_at o p v

module _ (o : Opening) (p : Progress) (other : Bool) (v : ℤ) (fine : is_refused p ≡ false) where
  taken_by : is_refused (answered_at o p other v) ≡ false → offer_of o p other v ≡ answered_at o p other v → Taken o p other v
  taken_by h f = go (eqb (refusal o p other v) 0) refl
    where
      go : (b : Bool) → eqb (refusal o p other v) 0 ≡ b → Taken o p other v
      go true e = record { standing = fine; passed = answer_passed _ _ _ _ (eqb-true _ _ e); entered = f ∙ simp e }
      go false e = never (simp e at h)

pub taken_is : (o : Opening) (p : Progress) (other : Bool) (v : ℤ) → is_refused (offer_of o p other v) ≡ false → Taken o p other v
unfolding offer_of
taken_is o Progress.Begun other v h = taken_by o Progress.Begun other v refl h refl
taken_is o (Progress.First u) other v h = taken_by o (Progress.First u) other v refl h refl
taken_is o (Progress.Bracketed k) other v h = taken_by o (Progress.Bracketed k) other v refl h refl
taken_is o (Progress.Refused n i) other v h = never h

-- ---- the laws

module _ (o : Opening) (accepted : Accepted o) (vs : List ℤ) (k : Bracket) (at : progress_of o vs ≡ Progress.Bracketed k) where
  -- a bracket counts the values
  pub counts : k.taken ≡ length vs
  counts = subst (CountedAt (length vs)) at (counted o accepted vs)

  pub bracket_opened : Opened o
  bracket_opened = (subst (SoundAt o) at (sound o vs)).0

  pub bracket_sound : Sound o k
  bracket_sound = (subst (SoundAt o) at (sound o vs)).1

  -- |F(b)| ≤ |F(c)|
  pub better_closest : nat_abs k.better.value ≤ nat_abs k.other.value
  better_closest = bracket_sound.closest

  -- s is at most 3 by M and 4 by R
  pub streak_allowed : k.streak ≤ allowed (method_of o)
  streak_allowed = bracket_sound.bound.streak

  -- the ends lie apart, from 0 to the highest point
  pub ends_limited : (lower_of k < upper_of k) × (upper_of k ≤ highest)
  ends_limited = (omega (arith, bracket_sound.held.apart), omega (arith, bracket_sound.limits.better.point, bracket_sound.limits.other.point))

  -- at most 2 + (m + 1) t answers
  pub at_most : length vs ≤ most_of o
  at_most = omega (arith, counts, bracket_sound.bound.most)

  module _ (going : stopped_of o k ≡ false) where
    -- fewer, while the search has not stopped
    pub before_stop : length vs < most_of o
    before_stop =
        omega (arith, counts, bound_below _ _ _ _ _ _ bracket_opened.tolerance.least bracket_sound.bound (going_wider o k going))

    -- the next point lies strictly between the ends
    pub next_between : (lower_of k < next_of o k) × (next_of o k < upper_of k)
    next_between = let a = ahead o k (pos 0) bracket_opened bracket_sound going in (a.above, a.below)

-- a search that goes on has fewer values than its quote
pub going_fewer : (o : Opening) (vs : List ℤ) → is_refused (progress_of o vs) ≡ false → stopped_at o (progress_of o vs) ≡ false → length vs < most_of o
going_fewer o vs fine going = go (progress_of o vs) refl
  where
    accepted : Accepted o
    accepted = accepted_of o vs fine

    go : (p : Progress) → progress_of o vs ≡ p → length vs < most_of o
    go Progress.Begun e = omega (arith, subst (CountedAt (length vs)) e (counted o accepted vs))
    go (Progress.First u) e = omega (arith, subst (CountedAt (length vs)) e (counted o accepted vs))
    go (Progress.Bracketed k) e = before_stop o accepted vs k e (subst (λ (p : Progress). stopped_at o p ≡ false) e going)
    go (Progress.Refused n i) e = never (sym (ap is_refused e) ∙ fine)

-- ---- the quote

-- t over the whole range at τ = 1
whole_range : turns_of 1 highest ≡ 15
unfolding turns_of digits halvings
whole_range = refl

module _ (o : Opening) (op : Opened o) where
  -- t is the least whole number, zero or more, for which τ 2 ^ (t + 1) reaches the distance between the ends
  pub t_least : Least (λ t. distance_of o ≤ nat_abs o.tolerance * 2 ^ (t + 1)) (t_of o)
  t_least = turns_least (nat_abs o.tolerance) (distance_of o) op.tolerance.least

  pub t_few : t_of o ≤ 15
  t_few =
      let few = turns_few (nat_abs o.tolerance) (distance_of o) highest op.tolerance.least (omega (arith, op.first.most, op.second.most)) in
      subst (λ (t : ℕ). t_of o ≤ t) whole_range few

  -- no accepted opening needs more than 62 answers by M or 77 by R
  pub most_by_m : method_of o ≡ Method.M → most_of o ≤ 62
  most_by_m e = rw e (omega (arith, t_few))

  pub most_by_r : method_of o ≡ Method.R → most_of o ≤ 77
  most_by_r e = rw e (omega (arith, t_few))

  -- so a held search has a slot for each
  pub most_slots : most_of o ≤ slots
  most_slots = go (method_of o) refl
    where
      go : (m : Method) → method_of o ≡ m → most_of o ≤ slots
      go Method.M e = omega (arith, most_by_m e)
      go Method.R e = omega (arith, most_by_r e)

-- an opening with 0 is quoted as by R: 2 + 5t
pub most_by_default : (o : Opening) → o.method ≡ pos 0 → most_of o ≡ 2 + 5 * t_of o
unfolding method_of
most_by_default o e = rw e

-- ---- an answer that is accepted

module _ (o : Opening) (vs : List ℤ) (other : Bool) (v : ℤ) (h : is_refused (offer_of o (progress_of o vs) other v) ≡ false) where
  -- the search comes to where the list with its value comes to
  pub accepted_more : offer_of o (progress_of o vs) other v ≡ progress_of o (vs ++ (v ∷ []))
  unfolding take_of
  accepted_more =
      let t = taken_is o (progress_of o vs) other v h in
      ap (λ (b : Bool). offer_of o (progress_of o vs) b v) t.passed.called ∙ sym (progress_more o vs v)

  -- there were fewer values than a held search has slots
  pub accepted_room : length vs < slots
  accepted_room =
      let t = taken_is o (progress_of o vs) other v h in
      omega (arith, going_fewer o vs t.standing t.passed.going, most_slots o (opened o (accepted_of o vs t.standing)))
