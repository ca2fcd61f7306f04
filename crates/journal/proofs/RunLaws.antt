-- One call of a search that holds a journal answers as the journal does, and leaves the search that holds the journal's next state. The
-- reader gives the journal's report on a sheet of it, and its numbers can be spelled.
-- Assumes nothing.
use Rattle.std.specs.Prelude.{ℕ, ◌≤◌, ◌<◌, ◌≡◌, Bool, not, List, [], ◌∷◌, ◌++◌, eqb, ℤ, pos, length}
use Rattle.std.proofs.Math.Path.{refl, sym, ap}
use Rattle.std.proofs.Common.{ap₂, ◌∙◌, arith, take_at}
use Rattle.std.proofs.Math.Bool.{true, false, cond}
use Rattle.std.proofs.Math.ListN.{length-append}
use Rattle.std.proofs.lemmas.List.{length-map}
use Rattle.integers.specs.Signs.{eq_z}
use Rattle.integers.proofs.SignsLaws.{eq_eq_z}
use Rattle.rules.specs.declared.Opening.{Opening}
use Rattle.rules.specs.declared.Answer.{Answer}
use Rattle.rules.specs.declared.Sample.{Sample}
use Rattle.rules.specs.declared.Bracket.{Bracket}
use Rattle.rules.specs.declared.Progress.{Progress}
use Rattle.rules.specs.declared.Report.{Report}
use Rattle.rules.specs.Rules.{highest, slots, padded, first_of, second_of, start_of, next_of, advance_of}
use Rattle.rules.specs.Refusals.{Accepted}
use Rattle.rules.proofs.RefusalsLaws.{Opened, opened, Ranged}
use Rattle.rules.specs.Search.{taken_of, other_at, entered_at, answered_at, offer_of, take_of, answers_of, report_at}
use Rattle.rules.proofs.SearchLaws.{Sound, ahead, counts, most_slots}
use Rattle.held.specs.Held.{values_of, standing_of, held_report, with_value, tried_of, enter_of}
use Rattle.held.specs.declared.Search.{Search}
use Rattle.held.proofs.HeldLaws.{holding_values, padded_full, standing_values, enter_refused, enter_accepted}
use Rattle.forms.specs.declared.Entries.{Entries}
use Rattle.forms.specs.Entries.{filled, entries_of}
use Rattle.forms.proofs.ReadingLaws.{set_padded}
use Rattle.outcomes.specs.Sheet.{leads_to, kept_as, settled_as, sheet_of}
use Rattle.outcomes.proofs.SheetLaws.{outcome_accepted, sheet_read}
use Rattle.journal.specs.Answers.{answer_value, points, values}
use Rattle.journal.specs.Answers as Answers
use Rattle.journal.specs.Journal.{sample_of, advanced_by, bracket_of, point_called, journal_report, refusal_of, takes, journal_with, told_of}
use Rattle.journal.specs.Run.{holding}
use Rattle.journal.proofs.SpellingLaws.{Spellable, SpellableOpening, SpellableAnswers}
use Rattle.journal.proofs.JournalLaws.{stage_of, stage_fine, refusal_stage, Onward, At, Kept, Fine, fine, kept_more, first_taken, second_taken}
use Rattle.journal.proofs.JournalLaws.{next_taken, kept_progress, sample_is, report_stage, at_most_answers, step_sound, start_sound}

-- ---- the journal's stage with one answer more

advanced_more : (k : Bracket) (rest : List Answer) (a : Answer) → advanced_by k (rest ++ (a ∷ [])) ≡ advance_of (advanced_by k rest) (sample_of a)
advanced_more k [] a = refl
advanced_more k (x ∷ rest) a = advanced_more (advance_of k (sample_of x)) rest a

stage_more : (o : Opening) (journal : List Answer) (a : Answer) → Kept o journal → Fine o journal a
    → entered_at o (stage_of journal) a.value ≡ stage_of (journal ++ (a ∷ []))
unfolding point_called
stage_more o [] a k f = refl
stage_more o (x ∷ []) a k f =
    ap₂ (λ (s t : Sample). Progress.Bracketed (start_of s t)) (sym (sample_is x (first_of o) k.called)) (sym (sample_is a (second_of o) f.called))
stage_more o (x ∷ y ∷ rest) a k f =
    ap (λ (s : Sample). Progress.Bracketed (advance_of (bracket_of x y rest) s)) (sym (sample_is a (next_of o (bracket_of x y rest)) f.called))
    ∙ ap Progress.Bracketed (sym (advanced_more (start_of (sample_of x) (sample_of y)) rest a))

offer_stage : (o : Opening) (journal : List Answer) (other : Bool) (v : ℤ)
    → offer_of o (stage_of journal) other v ≡ answered_at o (stage_of journal) other v
unfolding offer_of
offer_stage o [] other v = refl
offer_stage o (x ∷ []) other v = refl
offer_stage o (x ∷ y ∷ rest) other v = refl

map_more : (journal : List Answer) (a : Answer) → values (journal ++ (a ∷ [])) ≡ values journal ++ (a.value ∷ [])
map_more [] a = refl
map_more (x ∷ journal) a = ap (λ (vs : List ℤ). x.value ∷ vs) (map_more journal a)

-- the search that holds a journal, by its values
as_values : (o : Opening) (journal : List Answer) → holding o journal ≡ holding_values o (values journal)
as_values o journal = ap (λ (n : ℕ). record { opening = o; count = n; slots = padded (values journal) }) (sym (length-map journal answer_value))

module _ (o : Opening) (accepted : Accepted o) where
  module _ (journal : List Answer) (kept : Kept o journal) where
    pub journal_fits : length journal ≤ slots
    journal_fits = omega (arith, at_most_answers o accepted journal kept, most_slots o (opened o accepted))

    as_many : length (values journal) ≡ length journal
    as_many = length-map journal answer_value

    values_few : length (values journal) ≤ slots
    values_few = omega (arith, journal_fits, as_many)

    pub slots_full : length (padded (values journal)) ≡ slots
    slots_full = padded_full o (values journal) values_few

    pub values_held : values_of (holding o journal) ≡ values journal
    values_held = take_at (values journal) _ (length journal) as_many

    pub standing_held : standing_of (holding o journal) ≡ stage_of journal
    standing_held =
        ap standing_of (as_values o journal)
        ∙ standing_values o (values journal) values_few
        ∙ kept_progress o journal accepted kept

    taken_stage : taken_of (stage_of journal) ≡ length journal
    taken_stage = go journal refl
      where
        go : (b : List Answer) → journal ≡ b → taken_of (stage_of b) ≡ length journal
        go [] e = sym (ap length e)
        go (x ∷ []) e = sym (ap length e)
        go (x ∷ y ∷ rest) e =
            counts o accepted (values journal) (bracket_of x y rest) (kept_progress o journal accepted kept ∙ ap stage_of e) ∙ as_many

    -- its own report is the journal's
    pub report_held : held_report (holding o journal) ≡ journal_report o journal
    unfolding held_report
    report_held = ap (report_at o) standing_held ∙ sym (report_stage o accepted journal kept)

    -- where the search comes to
    tried_held : (a : Answer)
        → tried_of (holding o journal) a.point a.value
        ≡ cond (takes o journal a) (entered_at o (stage_of journal) a.value) (Progress.Refused (refusal_of o journal a) (length journal))
    tried_held a =
        ap (λ (p : Progress). offer_of o p (other_at o p a.point) a.value) standing_held
        ∙ offer_stage o journal (other_at o (stage_of journal) a.point) a.value
        ∙ ap₂ (λ (n i : ℕ). cond (eqb n 0) (entered_at o (stage_of journal) a.value) (Progress.Refused n i)) (sym (refusal_stage o journal a)) taken_stage

-- one value more, in the next slot
pub values_more : (o : Opening) (vs : List ℤ) (v : ℤ) → length vs < slots → holding_values o (vs ++ (v ∷ [])) ≡ with_value (holding_values o vs) v
values_more o vs v h =
    ap₂ (λ (i : ℕ) (l : List ℤ). record { opening = o; count = i; slots = l }) (length-append vs (v ∷ [])) (sym (set_padded vs v h))

search_more : (o : Opening) (journal : List Answer) (a : Answer) → length journal < slots
    → holding o (journal ++ (a ∷ [])) ≡ with_value (holding o journal) a.value
search_more o journal a h =
    as_values o (journal ++ (a ∷ []))
    ∙ ap (holding_values o) (map_more journal a)
    ∙ values_more o (values journal) a.value (omega (arith, length-map journal answer_value))
    ∙ sym (ap (λ (s : Search). with_value s a.value) (as_values o journal))

-- ---- one call

module _ (o : Opening) (accepted : Accepted o) (journal : List Answer) (kept : Kept o journal) (a : Answer) where
  pub kept_with : Kept o (journal_with o journal a)
  unfolding journal_with
  kept_with = go (takes o journal a) refl
    where
      go : (b : Bool) → takes o journal a ≡ b → Kept o (cond b (journal ++ (a ∷ [])) journal)
      go true e = kept_more o journal a kept (fine o journal a e)
      go false e = kept

  -- what the call answers, and the search that it leaves
  pub call_answers : enter_of (holding o journal) a.point a.value
      ≡ record { report = told_of o journal a; search = holding o (journal_with o journal a) }
  unfolding told_of journal_with report_at
  call_answers = go (takes o journal a) refl (tried_held o accepted journal kept a)
    where
      go : (b : Bool) → takes o journal a ≡ b
          → tried_of (holding o journal) a.point a.value
          ≡ cond b (entered_at o (stage_of journal) a.value) (Progress.Refused (refusal_of o journal a) (length journal))
          → enter_of (holding o journal) a.point a.value
          ≡ record {
            report = cond b (journal_report o (journal ++ (a ∷ []))) (Report.Refused (refusal_of o journal a) (length journal));
            search = holding o (cond b (journal ++ (a ∷ [])) journal);
          }
      go true e t =
          let f = fine o journal a e in
          let m = kept_more o journal a kept f in
          let u : stage_of (journal ++ (a ∷ [])) ≡ tried_of (holding o journal) a.point a.value = sym (t ∙ stage_more o journal a kept f) in
          sym
          (enter_accepted (holding o journal) a.point a.value (stage_of (journal ++ (a ∷ []))) (journal_report o (journal ++ (a ∷ []))) u
          (report_stage o accepted (journal ++ (a ∷ [])) m)
          (slots_full o accepted journal kept)
          (stage_fine (journal ++ (a ∷ [])))
          (holding o (journal ++ (a ∷ [])))
          (search_more o journal a (omega (arith, journal_fits o accepted (journal ++ (a ∷ [])) m, length-append journal (a ∷ [])))))
      go false e t =
          sym
          (enter_refused (holding o journal) a.point a.value (Progress.Refused (refusal_of o journal a) (length journal))
          (Report.Refused (refusal_of o journal a) (length journal)) (sym t) refl refl)

-- ---- a sheet of the journal

-- an answer at the point called for is taken as its value alone is
called_is : (o : Opening) (p : Progress) (a : Answer) → other_at o p a.point ≡ false
    → offer_of o p (other_at o p a.point) a.value ≡ take_of o p a.value
unfolding take_of
called_is o p a e = ap (λ (b : Bool). offer_of o p b a.value) e

pub same_point : (x : ℤ) (n : ℕ) → x ≡ pos n → not (eq_z x (pos n)) ≡ false
same_point x n e = ap not (eq_eq_z x (pos n) e)

-- each answer of the journal, tried as a sheet's answers are
one_answer : (o : Opening) (p : Progress) (a : Answer) (q : Progress) → other_at o p a.point ≡ false → take_of o p a.value ≡ q
    → offer_of o p (other_at o p a.point) a.value ≡ q
one_answer o p a q e f = called_is o p a e ∙ f

onward_answers : (o : Opening) (k : Bracket) (rest : List Answer) → Onward o k rest
    → answers_of o (Progress.Bracketed k) (points rest) (values rest) ≡ Progress.Bracketed (advanced_by k rest)
unfolding answers_of
onward_answers o k [] w = refl
onward_answers o k (a ∷ rest) w =
    let e : other_at o (Progress.Bracketed k) a.point ≡ false = simp w.0.going (same_point a.point (next_of o k) w.0.called) in
    ap (λ (p : Progress). answers_of o p (points rest) (values rest)) (one_answer o (Progress.Bracketed k) a _ e (next_taken o k a w.0))
    ∙ onward_answers o (advance_of k (sample_of a)) rest w.1

answers_kept : (o : Opening) (journal : List Answer) → Kept o journal → answers_of o Progress.Begun (points journal) (values journal) ≡ stage_of journal
unfolding answers_of
answers_kept o [] k = refl
answers_kept o (x ∷ []) k = one_answer o Progress.Begun x _ (same_point x.point (first_of o) k.called) (first_taken o x k)
answers_kept o (x ∷ y ∷ rest) k =
    ap (λ (p : Progress). answers_of o p (points (y ∷ rest)) (values (y ∷ rest)))
    (one_answer o Progress.Begun x _ (same_point x.point (first_of o) k.0.called) (first_taken o x k.0))
    ∙ ap (λ (p : Progress). answers_of o p (points rest) (values rest))
    (one_answer o (Progress.First x.value) y _ (same_point y.point (second_of o) k.1.called) (second_taken o x y k.0 k.1 k.2))
    ∙ onward_answers o (start_of (sample_of x) (sample_of y)) rest k.3

settled_stage : (e : Entries) (journal : List Answer) → settled_as e (stage_of journal) ≡ kept_as e (stage_of journal)
settled_stage e [] = refl
settled_stage e (x ∷ []) = refl
settled_stage e (x ∷ y ∷ rest) = refl

-- where the answers lead that a text is read as
pub read_leads : (o : Opening) (answers : List Answer)
    → leads_to (filled o (points answers) (values answers)) ≡ answers_of o Progress.Begun (points answers) (values answers)
read_leads o answers =
    let m : length (values answers) ≡ length (points answers) = length-map answers answer_value ∙ sym (length-map answers Answers.answer_point) in
    ap₂ (answers_of o Progress.Begun) (take_at (points answers) _ _ refl) (take_at (values answers) _ _ m)

module _ (o : Opening) (accepted : Accepted o) (journal : List Answer) (kept : Kept o journal) where
  abbrev journal_entries : Entries
  journal_entries = filled o (points journal) (values journal)

  -- the reader's outcome on a text of it: the journal's report, and the search that holds the journal
  pub sheet_outcome : (text : List ℕ) → entries_of text ≡ journal_entries
      → sheet_of text ≡ record { report = journal_report o journal; search = holding o journal }
  sheet_outcome text e =
      sym (sheet_read text journal_entries (sym e) refl)
      ∙ sym (outcome_accepted journal_entries accepted.accepted)
      ∙ ap (settled_as journal_entries) (read_leads o journal ∙ answers_kept o journal kept)
      ∙ settled_stage journal_entries journal
      ∙ ap₂ (λ (r : Report) (n : ℕ). record { report = r; search = record { opening = o; count = n; slots = padded (values journal) } })
      (sym (report_stage o accepted journal kept)) (length-map journal Answers.answer_point)

-- ---- the numbers of a journal are short enough to be spelled

spellable_range : {low high : ℕ} {z : ℤ} → Ranged low high z → high ≤ 99999 → Spellable z
spellable_range r h = omega (arith, r.most)

pub spellable_opening : (o : Opening) → Opened o → SpellableOpening o
spellable_opening o op =
    record {
      method = spellable_range op.method (omega arith);
      first = spellable_range op.first (omega arith);
      second = spellable_range op.second (omega arith);
      tolerance = spellable_range op.tolerance (omega arith);
      share = spellable_range op.share (omega arith);
    }

spellable_point : (z : ℤ) (n : ℕ) → z ≡ pos n → n ≤ highest → Spellable z
spellable_point z n e h = rw e (omega arith)

module _ (o : Opening) (op : Opened o) where
  spellable_onward : (k : Bracket) (rest : List Answer) → Sound o k → Onward o k rest → SpellableAnswers rest
  spellable_onward k [] s w = tt
  spellable_onward k (a ∷ rest) s w =
      let n = w.0 in
      let p = ahead o k (pos 0) op s n.going in (
        spellable_point a.point (next_of o k) n.called (omega (arith, p.below, s.limits.better.point, s.limits.other.point)),
        omega (arith, n.ranged),
        spellable_onward (advance_of k (sample_of a)) rest (step_sound o op k a s n) w.1,
      )

  spellable_at : (x : ℕ) (a : Answer) → x ≤ highest → At x a → Spellable a.point × Spellable a.value
  spellable_at x a h p = (spellable_point a.point x p.called h, omega (arith, p.ranged))

  pub spellable_journal : (journal : List Answer) → Kept o journal → SpellableAnswers journal
  spellable_journal [] k = tt
  spellable_journal (a ∷ []) k = let p = spellable_at (first_of o) a op.first.most k in (p.0, p.1, tt)
  spellable_journal (a ∷ b ∷ rest) k =
      let p = spellable_at (first_of o) a op.first.most k.0 in
      let q = spellable_at (second_of o) b op.second.most k.1 in
      (p.0, p.1, (q.0, q.1, spellable_onward (start_of (sample_of a) (sample_of b)) rest (start_sound o op a b k.0 k.1 k.2) k.3))
