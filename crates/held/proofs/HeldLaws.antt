-- The laws of held searches: the report after an accepted answer, that slots at or past the count never alter a report, where the search over
-- a list of values stands, that reports stay within limits, that a blank is refused by every call, and what a verdict leaves. What is about
-- the parts of a search is in crate `verdicts`.
-- Assumes nothing.
use Rattle.std.specs.Prelude.{ℕ, ◌≤◌, ◌<◌, ◌≡◌, Bool, true, List, ltb, ℤ, pos, length, set}
use Rattle.std.proofs.Math.Path.{refl, ap, ap₂}
use Rattle.std.proofs.Common.{sym, subst, ◌∙◌, arith, eq-eqb, ne_eqb, le-ltb, length-append, take_at}
use Rattle.std.proofs.Math.Bool.{false, cond}
use Rattle.std.proofs.lemmas.List.{length-replicate, set-get_or}
use Rattle.rules.specs.declared.Opening.{Opening}
use Rattle.rules.specs.declared.Bracket.{Bracket}
use Rattle.rules.specs.declared.Progress.{Progress}
use Rattle.rules.specs.declared.Report.{Report}
use Rattle.rules.specs.Rules.{highest, slots, padded, first_of, lower_of, upper_of, stopped_of, next_of}
use Rattle.rules.specs.Refusals.{opening_refusal, count_above}
use Rattle.rules.proofs.RefusalsLaws.{Opened}
use Rattle.rules.specs.Search.{is_refused, other_at, begin_of, offer_of, progress_of, bracket_report, report_at, report_of}
use Rattle.rules.proofs.SearchLaws.{Sound, SoundAt, ahead, most_slots, sound}
use Rattle.verdicts.specs.declared.Verdict.{Verdict}
use Rattle.verdicts.specs.Judged.{standing_by, verdict_of}
use Rattle.verdicts.proofs.JudgedLaws.{free_slot, tried_more}
use Rattle.held.specs.declared.Search.{Search}
use Rattle.held.specs.declared.Entered.{Entered}
use Rattle.held.specs.Held.{fresh_of, blank, reopen_of, values_of, standing_of, held_report, with_value, tried_of, enter_of}

-- ---- an accepted answer

-- the report is that of the search as it then stands
pub report_more : (s : Search) (x v : ℤ) → length s.slots ≡ slots → is_refused (tried_of s x v) ≡ false
    → report_at s.opening (tried_of s x v) ≡ held_report (with_value s v)
unfolding held_report standing_of standing_by
report_more s x v long h = ap (report_at s.opening) (tried_more s.opening s.count s.slots x v long h)

-- the report on an answer, entered or refused
pub enter_report : (s : Search) (x v : ℤ) → length s.slots ≡ slots → (enter_of s x v).report ≡ report_at s.opening (tried_of s x v)
unfolding enter_of
enter_report s x v long = go (is_refused (tried_of s x v)) refl
  where
    go : (b : Bool) → is_refused (tried_of s x v) ≡ b
        → (cond {A = Entered} b (record { report = report_at s.opening (tried_of s x v); search = s })
        (record { report = held_report (with_value s v); search = with_value s v })).report
        ≡ report_at s.opening (tried_of s x v)
    go true e = refl
    go false e = sym (report_more s x v long e)

-- ---- slots at or past the count never alter a report

-- two searches that agree before the count
pub record Agree (s s' : Search) : Type 0 where
  pub opening : s.opening ≡ s'.opening
  pub count : s.count ≡ s'.count
  pub values : values_of s ≡ values_of s'

module _ (s s' : Search) (a : Agree s s') where
  same_standing : standing_of s ≡ standing_of s'
  unfolding standing_of
  same_standing =
      ap (λ (n : ℕ). cond (ltb slots n) (Progress.Refused count_above 0) (progress_of s.opening (values_of s))) a.count
      ∙ ap (cond (ltb slots s'.count) (Progress.Refused count_above 0)) (ap₂ progress_of a.opening a.values)

  pub same_report : held_report s ≡ held_report s'
  unfolding held_report
  same_report = ap₂ report_at a.opening same_standing

  pub same_entry : (x v : ℤ) → length s.slots ≡ slots → length s'.slots ≡ slots → (enter_of s x v).report ≡ (enter_of s' x v).report
  same_entry x v h h' =
      enter_report s x v h
      ∙ ap₂ (λ (o : Opening) (p : Progress). report_at o (offer_of o p (other_at o p x) v)) a.opening same_standing
      ∙ sym (enter_report s' x v h')

-- ---- a search that holds a list of values, and 0 in the other slots

abbrev pub holding_values : Opening → List ℤ → Search
holding_values o vs = record { opening = o; count = length vs; slots = padded vs }

module _ (o : Opening) (vs : List ℤ) (few : length vs ≤ slots) where
  pub padded_full : length (padded vs) ≡ slots
  padded_full = simp (length-append, length-replicate) (omega (arith, few))

  pub standing_values : standing_of (holding_values o vs) ≡ progress_of o vs
  unfolding standing_of
  standing_values = simp (le-ltb slots (length vs) few) (ap (progress_of o) (take_at vs _ (length vs) refl))

-- ---- the points of every report lie within limits, and its answers are no more than the slots

abbrev pub WithinLimits : Report → Type 0
WithinLimits (Report.Next point taken) = (point ≤ highest) × (taken ≤ slots)
WithinLimits (Report.Stop lower upper better taken) = (lower ≤ highest) × (upper ≤ highest) × (better ≤ highest) × (taken ≤ slots)
WithinLimits (Report.Refused number place) = Unit {0}

module _ (o : Opening) where
  bracket_limited : (k : Bracket) → Opened o → Sound o k → WithinLimits (bracket_report o k)
  unfolding bracket_report
  bracket_limited k op sound = go (stopped_of o k) refl
    where
      few : k.taken ≤ slots
      few = omega (arith, sound.bound.most, most_slots o op)

      go : (b : Bool) → stopped_of o k ≡ b
          → WithinLimits (cond b (Report.Stop (lower_of k) (upper_of k) k.better.point k.taken) (Report.Next (next_of o k) k.taken))
      go true e =
          let b = sound.limits.better.point in
          let c = sound.limits.other.point in
          (omega arith, omega arith, b, few)
      go false e = (omega (arith, (ahead o k (pos 0) op sound e).below, sound.limits.better.point, sound.limits.other.point), few)

  report_limited : (p : Progress) → SoundAt o p → WithinLimits (report_at o p)
  unfolding report_at
  report_limited Progress.Begun op = (op.first.most, omega arith)
  report_limited (Progress.First v) s = (s.0.second.most, omega arith)
  report_limited (Progress.Bracketed k) s = bracket_limited k s.0 s.1
  report_limited (Progress.Refused n i) s = tt

standing_sound : (s : Search) → SoundAt s.opening (standing_of s)
unfolding standing_of
standing_sound s = go (ltb slots s.count)
  where
    go : (b : Bool) → SoundAt s.opening (cond b (Progress.Refused count_above 0) (progress_of s.opening (values_of s)))
    go true = tt
    go false = sound s.opening (values_of s)

pub held_limited : (s : Search) → WithinLimits (held_report s)
unfolding held_report
held_limited s = report_limited s.opening (standing_of s) (standing_sound s)

-- ---- a blank is refused by every call

pub blank_report : held_report blank ≡ Report.Refused 3 0
unfolding held_report standing_of progress_of begin_of opening_refusal report_at
blank_report = refl

pub blank_entry : (x v : ℤ) → enter_of blank x v ≡ record { report = Report.Refused 3 0; search = blank }
unfolding enter_of standing_of progress_of begin_of opening_refusal offer_of report_at
blank_entry x v = refl

-- ---- the calls, from what their parts answer

-- an opening: n is its refusal, and h the search beside the report
module _ (s : Search) (o : Opening) (n : ℕ) (e : n ≡ opening_refusal o) where
  pub open_refused : (n ≡ 0 → ⊥) → record { report = Report.Refused n 0; search = s } ≡ reopen_of s o
  unfolding reopen_of
  open_refused t = rw (← e) (simp (ne_eqb n 0 t))

  pub open_accepted : n ≡ 0 → (x : ℕ) → x ≡ first_of o → (h : Search) → h ≡ fresh_of o → record { report = Report.Next x 0; search = h } ≡ reopen_of s o
  unfolding reopen_of report_of progress_of begin_of report_at
  open_accepted t x f h g = rw (f, g) (simp (eq-eqb _ 0 (sym e ∙ t)))

-- an answer: q is where the search stands then
module _ (s : Search) (x v : ℤ) (q : Progress) (r : Report) (e : q ≡ tried_of s x v) (f : r ≡ report_at s.opening q) where
  pub enter_refused : is_refused q ≡ true → record { report = r; search = s } ≡ enter_of s x v
  unfolding enter_of
  enter_refused t = rw (f, e) (simp (rw e at t))

  pub enter_accepted : length s.slots ≡ slots → is_refused q ≡ false → (h : Search) → h ≡ with_value s v → record { report = r; search = h } ≡ enter_of s x v
  unfolding enter_of
  enter_accepted l t h g =
      let u : is_refused (tried_of s x v) ≡ false = rw e at t in
      rw (f, e, g) (simp u (ap (λ (r : Report). record { report = r; search = with_value s v }) (report_more s x v l u)))

-- ---- what a verdict leaves

-- the verdict on an answer to a search, by its parts
abbrev pub verdict_on : Search → ℤ → ℤ → Verdict
verdict_on s = verdict_of s.opening s.count s.slots

-- stored in the search: one slot and the count
abbrev pub stored_by : Search → Verdict → Search
stored_by s r = record { opening = s.opening; count = r.count; slots = set s.slots r.at r.value }

pub record Stores (s : Search) (x v : ℤ) (r : Verdict) : Type 0 where
  pub room : r.at < slots
  pub told : r.report ≡ (enter_of s x v).report
  pub left : stored_by s r ≡ (enter_of s x v).search

pub stores : (s : Search) (x v : ℤ) (r : Verdict) → length s.slots ≡ slots → r ≡ verdict_on s x v → Stores s x v r
unfolding verdict_of enter_of standing_of standing_by
stores s x v r l e = subst (Stores s x v) (sym e) (go (is_refused (tried_of s x v)) refl)
  where
    go : (b : Bool) → is_refused (tried_of s x v) ≡ b → Stores s x v (verdict_on s x v)
    go true f = record {
      room = simp f (omega arith);
      told = simp f;
      left = simp f (ap (λ
          (vs : List ℤ). record { opening = s.opening; count = s.count; slots = vs }) (set-get_or s.slots 0 (pos 0)));
    }
    go false f = record { room = simp f (free_slot s.opening s.count s.slots x v l f); told = simp f (report_more s x v l f); left = simp f }
