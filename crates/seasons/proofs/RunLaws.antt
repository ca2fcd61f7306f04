-- Laws of runs: the numbers of a run and its outcomes, the run read so far, and what is kept while it is read.
-- Assumes nothing.
use Prim.Native.Nat.{ℕ, zero, suc, ◌+◌, ◌*◌, ◌/◌, ◌%◌, ◌≤◌, ◌<◌, max}
use Rattle.std.specs.Prelude.{◌≡◌, refl, Bool, true, false, not, ◌||◌, List, [], ◌∷◌, ◌++◌, ltb, eqb, length, get_or, take, set, replicate, Ok}
use Rattle.std.proofs.Common.{sym, ◌∙◌, add-one}
use Rattle.std.proofs.Math.Path.{ap}
use Rattle.std.proofs.Math.Nat.{add-zero, max-le, max-zero}
use native.Mathlib.Omega.{arith}
use borrow.Author.Tests.{eqb-true, ltb-false, le-ltb, ne_eqb, eq-eqb}
use Rattle.integers.proofs.SignsLaws.{never}
use Rattle.seasons.specs.declared.Outcome.{Outcome}
use Rattle.seasons.specs.declared.Tally.{Tally}
use Rattle.seasons.specs.Season.{outcomes_of, booked_as, filter, sum, maximum, tally_of, tallies_of}
use Rattle.seasons.specs.Season.{most_outcomes, misshapen, no_tally, refused_season, season_on, season_of}
use Rattle.seasons.specs.Claims.{written, added}
use Rattle.seasons.specs.Inner.{outcome_at, largest_number, Bounded}
use Rattle.seasons.proofs.SeasonLaws.{tallies_more}

-- ---- the numbers of a run and its outcomes

pub run_whole : (ns : List ℕ) → length ns % 4 ≡ 0 → written (outcomes_of ns) ≡ ns
unfolding outcomes_of
run_whole [] e = refl
run_whole (a ∷ []) e = absurd (omega arith)
run_whole (a ∷ b ∷ []) e = absurd (omega arith)
run_whole (a ∷ b ∷ c ∷ []) e = absurd (omega arith)
run_whole (a ∷ b ∷ c ∷ d ∷ ns) e = ap (λ (l : List ℕ). a ∷ b ∷ c ∷ d ∷ l) (run_whole ns (omega arith))

pub run_read : (os : List Outcome) → outcomes_of (written os) ≡ os
unfolding outcomes_of
run_read [] = refl
run_read (o ∷ os) = ap (λ (l : List Outcome). o ∷ l) (run_read os)

pub written_length : (os : List Outcome) → length (written os) ≡ 4 * length os
written_length [] = refl
written_length (o ∷ os) = omega (arith, written_length os)

pub outcomes_length : (ns : List ℕ) → length (outcomes_of ns) ≡ length ns / 4
unfolding outcomes_of
outcomes_length [] = refl
outcomes_length (a ∷ []) = refl
outcomes_length (a ∷ b ∷ []) = refl
outcomes_length (a ∷ b ∷ c ∷ []) = refl
outcomes_length (a ∷ b ∷ c ∷ d ∷ ns) = omega (arith, outcomes_length ns)

pub outcomes_append : (ns ms : List ℕ) → length ns % 4 ≡ 0 → outcomes_of (ns ++ ms) ≡ outcomes_of ns ++ outcomes_of ms
unfolding outcomes_of
outcomes_append [] ms e = refl
outcomes_append (a ∷ []) ms e = absurd (omega arith)
outcomes_append (a ∷ b ∷ []) ms e = absurd (omega arith)
outcomes_append (a ∷ b ∷ c ∷ []) ms e = absurd (omega arith)
outcomes_append (a ∷ b ∷ c ∷ d ∷ ns) ms e =
    ap (λ (l : List Outcome). record { kind = a; method = b; answers = c; quoted = d } ∷ l) (outcomes_append ns ms (omega arith))

-- ---- the run read so far

-- the first i outcomes
abbrev pub read_to : List ℕ → ℕ → List Outcome
read_to ns i = outcomes_of (take (4 * i) ns)

module _ (a b c d : ℕ) (ns : List ℕ) where
  abbrev longer : List ℕ
  longer = a ∷ b ∷ c ∷ d ∷ ns

  later : (j k : ℕ) → j ≡ suc (suc (suc (suc k))) → get_or longer j 0 ≡ get_or ns k 0
  later j k e = ap (λ (i : ℕ). get_or longer i 0) e

  outcome_later : (i : ℕ) → outcome_at longer (suc i) ≡ outcome_at ns i
  outcome_later i =
      rw (
        later (4 * suc i) (4 * i) (omega arith),
        later (4 * suc i + 1) (4 * i + 1) (omega arith),
        later (4 * suc i + 2) (4 * i + 2) (omega arith),
        later (4 * suc i + 3) (4 * i + 3) (omega arith),
      )

  read_later : (i : ℕ) → read_to longer (suc i) ≡ record { kind = a; method = b; answers = c; quoted = d } ∷ read_to ns i
  unfolding outcomes_of
  read_later i =
      let e : 4 * suc i ≡ suc (suc (suc (suc (4 * i)))) = omega arith in
      ap (λ (j : ℕ). outcomes_of (take j longer)) e

pub read_more : (ns : List ℕ) (i : ℕ) → 4 * suc i ≤ length ns → read_to ns (suc i) ≡ read_to ns i ++ (outcome_at ns i ∷ [])
unfolding outcomes_of
read_more [] i h = absurd (omega arith)
read_more (a ∷ []) i h = absurd (omega arith)
read_more (a ∷ b ∷ []) i h = absurd (omega arith)
read_more (a ∷ b ∷ c ∷ []) i h = absurd (omega arith)
read_more (a ∷ b ∷ c ∷ d ∷ ns) zero h = refl
read_more (a ∷ b ∷ c ∷ d ∷ ns) (suc i) h =
    read_later a b c d ns (suc i)
    ∙ ap (λ (l : List Outcome). record { kind = a; method = b; answers = c; quoted = d } ∷ l) (read_more ns i (omega arith))
    ∙ sym (rw (read_later a b c d ns i, outcome_later a b c d ns i))

-- ---- the tally of one outcome, by its kind

module _ (o : Outcome) where
  pub one_refused : 1 < o.kind → tally_of (o ∷ []) ≡ record { stopped = 0; unfinished = 0; refused = 1; answers = 0; quoted = 0; largest = 0 }
  unfolding tally_of filter sum maximum
  one_refused h = simp (ne_eqb o.kind 0 (λ e. omega arith), ne_eqb o.kind 1 (λ e. omega arith))

  -- of one that is not refused
  abbrev one_searched : ℕ → ℕ → Tally
  one_searched stopped unfinished =
      record {
        stopped = stopped;
        unfinished = unfinished;
        refused = 0;
        answers = o.answers;
        quoted = o.quoted;
        largest = o.answers;
      }

  pub one_stopped : o.kind ≡ 0 → tally_of (o ∷ []) ≡ one_searched 1 0
  unfolding tally_of filter sum maximum
  one_stopped e = simp (eq-eqb o.kind 0 e, ne_eqb o.kind 1 (λ f. omega arith), add-zero, max-zero)

  pub one_unfinished : o.kind ≡ 1 → tally_of (o ∷ []) ≡ one_searched 0 1
  unfolding tally_of filter sum maximum
  one_unfinished e = simp (eq-eqb o.kind 1 e, ne_eqb o.kind 0 (λ f. omega arith), add-zero, max-zero)

-- a tally with one outcome more, number by number
module _ (t : Tally) (o : Outcome) where
  pub enter_refused : 1 < o.kind
      → record {
        stopped = t.stopped;
        unfinished = t.unfinished;
        refused = t.refused + 1;
        answers = t.answers;
        quoted = t.quoted;
        largest = t.largest;
      }
      ≡ added t (tally_of (o ∷ []))
  enter_refused h = rw (one_refused o h) (simp (add-zero, max-zero))

  pub enter_stopped : o.kind ≡ 0
      → record {
        stopped = t.stopped + 1;
        unfinished = t.unfinished;
        refused = t.refused;
        answers = t.answers + o.answers;
        quoted = t.quoted + o.quoted;
        largest = max t.largest o.answers;
      }
      ≡ added t (tally_of (o ∷ []))
  enter_stopped e = rw (one_stopped o e) (simp add-zero)

  pub enter_unfinished : o.kind ≡ 1
      → record {
        stopped = t.stopped;
        unfinished = t.unfinished + 1;
        refused = t.refused;
        answers = t.answers + o.answers;
        quoted = t.quoted + o.quoted;
        largest = max t.largest o.answers;
      }
      ≡ added t (tally_of (o ∷ []))
  enter_unfinished e = rw (one_unfinished o e) (simp add-zero)

-- ---- the tallies stay small

small_none : (n : ℕ) → Bounded no_tally n
small_none n =
    record { stopped = omega arith; unfinished = omega arith; refused = omega arith; answers = omega arith; quoted = omega arith; largest = omega arith }

pub small_within : {t : Tally} {n m : ℕ} → n ≤ m → Bounded t n → Bounded t m
small_within h s =
    record {
      stopped = omega (arith, s.stopped);
      unfinished = omega (arith, s.unfinished);
      refused = omega (arith, s.refused);
      answers = omega (arith, s.answers);
      quoted = omega (arith, s.quoted);
      largest = s.largest;
    }

small_added : {s t : Tally} {n : ℕ} → Bounded s n → Bounded t 1 → Bounded (added s t) (n + 1)
small_added p q =
    record {
      stopped = omega (arith, p.stopped, q.stopped);
      unfinished = omega (arith, p.unfinished, q.unfinished);
      refused = omega (arith, p.refused, q.refused);
      answers = omega (arith, p.answers, q.answers);
      quoted = omega (arith, p.quoted, q.quoted);
      largest = max-le p.largest q.largest;
    }

-- of one outcome whose numbers have 16 bits
module _ (o : Outcome) (h : o.answers ≤ largest_number) (g : o.quoted ≤ largest_number) where
  small_one_searched : (stopped unfinished : ℕ) → stopped ≤ 1 → unfinished ≤ 1 → Bounded (one_searched o stopped unfinished) 1
  small_one_searched stopped unfinished p q =
      record { stopped = p; unfinished = q; refused = omega arith; answers = omega arith; quoted = omega arith; largest = h }

  small_one : Bounded (tally_of (o ∷ [])) 1
  small_one = go o.kind refl
    where
      go : (k : ℕ) → o.kind ≡ k → Bounded (tally_of (o ∷ [])) 1
      go zero e = rw (one_stopped o e) (small_one_searched 1 0 (omega arith) (omega arith))
      go (suc zero) e = rw (one_unfinished o e) (small_one_searched 0 1 (omega arith) (omega arith))
      go (suc (suc k)) e =
          rw (one_refused o (omega arith))
          (record {
            stopped = omega arith;
            unfinished = omega arith;
            refused = omega arith;
            answers = omega arith;
            quoted = omega arith;
            largest = omega arith;
          })

-- each of some tallies
abbrev pub EachBounded : List Tally → ℕ → Type 0
EachBounded [] n = Unit {0}
EachBounded (t ∷ ts) n = Bounded t n × EachBounded ts n

pub small_at : (ts : List Tally) (n k : ℕ) → EachBounded ts n → Bounded (get_or ts k no_tally) n
small_at [] n k s = small_none n
small_at (t ∷ ts) n zero s = s.0
small_at (t ∷ ts) n (suc k) s = small_at ts n k s.1

each_within : (ts : List Tally) {n m : ℕ} → n ≤ m → EachBounded ts n → EachBounded ts m
each_within [] h s = tt
each_within (t ∷ ts) h s = (small_within h s.0, each_within ts h s.1)

each_set : (ts : List Tally) (n k : ℕ) (t : Tally) → EachBounded ts n → Bounded t n → EachBounded (set ts k t) n
each_set [] n k t s h = tt
each_set (u ∷ ts) n zero t s h = (h, s.1)
each_set (u ∷ ts) n (suc k) t s h = (s.0, each_set ts n k t s.1 h)

-- ---- what is kept while a run is read: the tallies are those of the first i outcomes, and small

pub record Tallied (ns : List ℕ) (i : ℕ) (ts : List Tally) : Type 0 where
  pub is : ts ≡ tallies_of (read_to ns i)
  pub small : EachBounded ts i

pub tallied_none : (ns : List ℕ) → Tallied ns 0 (replicate 4 no_tally)
unfolding tallies_of tally_of outcomes_of filter sum maximum
tallied_none ns = record { is = refl; small = (small_none 0, (small_none 0, (small_none 0, (small_none 0, tt)))) }

-- the outcome at i is entered into its method's tally
pub tallied_more : (ns : List ℕ) (i : ℕ) (ts : List Tally) → Tallied ns i ts → 4 * suc i ≤ length ns
    → (outcome_at ns i).answers ≤ largest_number → (outcome_at ns i).quoted ≤ largest_number
    → Tallied ns (i + 1) (set ts (booked_as (outcome_at ns i)) (added (get_or ts (booked_as (outcome_at ns i)) no_tally) (tally_of (outcome_at ns i ∷ []))))
tallied_more ns i ts t room h g =
    record {
      is =
          ap (λ (us : List Tally). set us b (added (get_or us b no_tally) (tally_of (o ∷ [])))) t.is
          ∙ sym (rw (add-one i) (ap tallies_of (read_more ns i room) ∙ tallies_more (read_to ns i) o));
      small =
          each_set ts (i + 1) b _ (each_within ts (omega arith) t.small) (small_added (small_at ts i b t.small) (small_one o h g));
    }
  where
    o : Outcome
    o = outcome_at ns i

    b : ℕ
    b = booked_as o

-- ---- the report

-- a run that is not refused
pub record Shaped (n : ℕ) : Type 0 where
  pub few : n ≤ 4 * most_outcomes
  pub fours : n % 4 ≡ 0

pub shaped : (n : ℕ) → misshapen n ≡ false → Shaped n
unfolding misshapen
shaped n e = go (ltb (4 * most_outcomes) n) (eqb (n % 4) 0) refl refl e
  where
    go : (a b : Bool) → ltb (4 * most_outcomes) n ≡ a → eqb (n % 4) 0 ≡ b → a || not b ≡ false → Shaped n
    go true b f g h = never h
    go false true f g h = record { few = ltb-false (4 * most_outcomes) n f; fours = eqb-true (n % 4) 0 g }
    go false false f g h = never h

pub misshapen_not : (n : ℕ) → Shaped n → misshapen n ≡ false
unfolding misshapen
misshapen_not n s = simp (le-ltb (4 * most_outcomes) n s.few, eq-eqb (n % 4) 0 s.fours)

pub season_refused : (ns : List ℕ) → misshapen (length ns) ≡ true → refused_season ≡ season_of ns
unfolding season_of
season_refused ns e = simp e

pub season_counted : (ns : List ℕ) → misshapen (length ns) ≡ false → season_of ns ≡ season_on (outcomes_of ns)
unfolding season_of
season_counted ns e = simp e

pub season_is : (ns : List ℕ) → misshapen (length ns) ≡ false → (ts : List Tally) → ts ≡ tallies_of (outcomes_of ns)
    → record { counted = Ok (length ns / 4); tallies = ts } ≡ season_of ns
season_is ns e ts f = sym (season_counted ns e ∙ rw (outcomes_length ns, f))
