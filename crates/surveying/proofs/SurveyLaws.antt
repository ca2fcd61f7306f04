-- Laws of the definitions, for the claims and for the code: when a survey is misplaced, its points as numbers, one position more, the list written so far,
-- and what is told, by the tests in their order.
-- Assumes nothing.
use Rattle.std.specs.Prelude.{ℕ, zero, suc, ◌+◌, ◌-◌, ◌*◌, ◌≤◌, ◌<◌, ◌≡◌, refl, Bool, true, false, cond, not, ◌||◌, List}
use Rattle.std.specs.Prelude.{[], ◌∷◌, ◌++◌, ltb, ℤ, pos, negsuc, nat_abs, ◌+ℤ◌, ◌*ℤ◌, length, get_or, drop, set, Result, Ok, Err, Some, None}
use Rattle.std.proofs.Common.{sym, ap, ap₂, subst, ◌∙◌, append-nil, le_refl, le_trans, zero-add, suc-add, suc-mul}
use Rattle.std.proofs.Common.{zero-mul, mul-le-mul, add-one, arith, length-append, length-set, drop-cons}
use Rattle.std.proofs.lemmas.List.{map-append, length-map, set_at}
use borrow.Author.Tests.{lt-ltb, le-ltb, ltb-false}
use Rattle.std.proofs.Math.IntN.{+ℤ_idr}
use Rattle.std.proofs.Math.Seq.{append_snoc}
use Rattle.std.specs.Int.Signed.{lt_z}
use Rattle.std.specs.List.{position, position_or_len}
use Rattle.integers.specs.Digits.{first_below, some_below}
use Rattle.integers.proofs.DigitsLaws.{some_true, some_false, none_below}
use Rattle.integers.specs.Lists.{filter}
use Rattle.integers.proofs.ListsLaws.{filter_append}
use Rattle.integers.proofs.SignsLaws.{never}
use Rattle.rules.specs.declared.Refusal.{Refusal}
use Rattle.rules.specs.Rules.{highest}
use Rattle.rules.specs.Refusals.{refusal, outside, too_large, value_out_of_range}
use Rattle.rules.proofs.RefusalsLaws.{or_false, ranged, inside}
use Rattle.surveying.specs.Survey.{point_at, positions, crosses_at, crossings_of, lower_points, misplaced_survey, list_too_short}
use Rattle.surveying.specs.Survey.{is_misplaced, large_at, surveyed_of, filled_by, list_of}
use Rattle.surveying.specs.Claims.{Surveyable}
use Rattle.surveying.specs.Inner.{checked_of}

-- ---- when a survey is misplaced

pub surveyable : (lowest pitch : ℤ) (n : ℕ) → is_misplaced lowest pitch n ≡ false → Surveyable lowest pitch n
unfolding is_misplaced
surveyable lowest pitch n e =
    let x = or_false (ltb n 2) _ e in
    let y = or_false (ltb 600 n) _ x.right in
    let z = or_false _ _ y.right in
    record { enough = ltb-false n 2 x.left; few = ltb-false 600 n y.left; onward = z.left; in_range = none_below n _ z.right }

pub not_misplaced : (lowest pitch : ℤ) (n : ℕ) → Surveyable lowest pitch n → is_misplaced lowest pitch n ≡ false
unfolding is_misplaced
not_misplaced lowest pitch n s = simp (le-ltb n 2 s.enough, le-ltb 600 n s.few, s.onward) (some_false n _ s.in_range)

module _ (lowest pitch : ℤ) (n : ℕ) where
  pub too_few : n < 2 → is_misplaced lowest pitch n ≡ true
  unfolding is_misplaced
  too_few h = simp (lt-ltb n 2 h)

  module _ (enough : 2 ≤ n) where
    pub too_many : 600 < n → is_misplaced lowest pitch n ≡ true
    unfolding is_misplaced
    too_many h = simp (le-ltb n 2 enough, lt-ltb 600 n h)

    pub no_pitch : n ≤ 600 → lt_z pitch (pos 1) ≡ true → is_misplaced lowest pitch n ≡ true
    unfolding is_misplaced
    no_pitch few e = simp (le-ltb n 2 enough, le-ltb 600 n few, e)

-- ---- the points as numbers

-- a + i × q: the point where the lowest is a and the pitch q
abbrev pub risen : (a q i : ℕ) → ℕ
risen a q i = a + i * q

pub risen_more : (a q i : ℕ) → risen a q (i + 1) ≡ risen a q i + q
risen_more a q i = rw (add-one i, suc-mul i q) (omega arith)

pub risen_least : (a q i k : ℕ) → i ≤ k → risen a q i ≤ risen a q k
risen_least a q i k h = let m : i * q ≤ k * q = mul-le-mul {n₁ = i} {m₁ = q} h (le_refl q) in omega (arith, m)

pub risen_in : (a q n i : ℕ) → Surveyable (pos a) (pos q) n → i < n → risen a q i ≤ highest
risen_in a q n i s h = (ranged 0 highest (pos (risen a q i)) (s.in_range i h)).most

point_zero : (lowest : ℤ) (q : ℕ) → point_at lowest (pos q) 0 ≡ lowest
point_zero lowest q = rw (zero-mul q) (+ℤ_idr lowest)

-- of a survey that is not misplaced neither the lowest point nor the pitch is negative
pub record InNumbers (lowest pitch : ℤ) : Type 0 where
  pub first : lowest ≡ pos (nat_abs lowest)
  pub step : pitch ≡ pos (nat_abs pitch)
  pub apart : 1 ≤ nat_abs pitch

pub in_numbers : (lowest pitch : ℤ) (n : ℕ) → Surveyable lowest pitch n → InNumbers lowest pitch
in_numbers (pos a) (pos q) n s = record { first = refl; step = refl; apart = ltb-false q 1 s.onward }
in_numbers lowest (negsuc q) n s = never s.onward
in_numbers (negsuc a) (pos q) n s = never (rw (point_zero (negsuc a) q) at (s.in_range 0 (omega (arith, s.enough))))

pub point_is : (lowest pitch : ℤ) → InNumbers lowest pitch → (i : ℕ) → point_at lowest pitch i ≡ pos (risen (nat_abs lowest) (nat_abs pitch) i)
point_is lowest pitch s i = ap₂ (λ (a q : ℤ). a +ℤ (pos i *ℤ q)) s.first s.step

-- ---- the points rise: one is out of range where the first is below 0 or the last too high

abbrev pub out_of_ends : (lowest pitch : ℤ) (n : ℕ) → Bool
out_of_ends lowest pitch n = lt_z lowest (pos 0) || ltb highest (risen (nat_abs lowest) (nat_abs pitch) (n - 1))

ends_enough : (lowest : ℤ) (q n : ℕ) → 2 ≤ n → some_below n (λ i. outside 0 highest (point_at lowest (pos q) i)) ≡ out_of_ends lowest (pos q) n
ends_enough (negsuc a) q n h = some_true n _ 0 (omega arith) (rw (point_zero (negsuc a) q) refl)
ends_enough (pos a) q n h = go (ltb highest last) refl
  where
    last : ℕ
    last = risen a q (n - 1)

    low : (k : ℕ) → ltb k 0 ≡ false
    low k = le-ltb k 0 (omega arith)

    go : (b : Bool) → ltb highest last ≡ b → some_below n (λ i. outside 0 highest (point_at (pos a) (pos q) i)) ≡ ltb a 0 || b
    go true e = some_true n _ (n - 1) (omega arith) (simp (low last, e)) ∙ sym (simp (low a))
    go false e =
        some_false n _ (λ i l. inside 0 highest (risen a q i) (omega arith)
        (le_trans (risen_least a q i (n - 1) (omega arith)) (ltb-false highest last e)))
        ∙ sym (simp (low a))

pub by_ends : (lowest pitch : ℤ) (n : ℕ) → 2 ≤ n → n ≤ 600 → lt_z pitch (pos 1) ≡ false → is_misplaced lowest pitch n ≡ out_of_ends lowest pitch n
unfolding is_misplaced
by_ends lowest (pos q) n enough few e = simp (le-ltb n 2 enough, le-ltb 600 n few, e) (ends_enough lowest q n enough)
by_ends lowest (negsuc q) n enough few e = never e

-- ---- one position more

-- the positions of pairs, among the first n neighbouring pairs
abbrev pub crossings_to : (vs : List ℤ) (n : ℕ) → List ℕ
crossings_to vs n = filter (crosses_at vs) (positions n)

pub crossings_none : (vs : List ℤ) → crossings_to vs 0 ≡ []
unfolding positions filter
crossings_none vs = refl

module _ (vs : List ℤ) (i : ℕ) where
  pub crossings_more : crosses_at vs i ≡ true → crossings_to vs (suc i) ≡ crossings_to vs i ++ (i ∷ [])
  unfolding positions filter
  crossings_more e = filter_append (crosses_at vs) (positions i) (i ∷ []) ∙ simp e

  pub crossings_same : crosses_at vs i ≡ false → crossings_to vs (suc i) ≡ crossings_to vs i
  unfolding positions filter
  crossings_same e = filter_append (crosses_at vs) (positions i) (i ∷ []) ∙ simp e (append-nil _)

  pub count_more : crosses_at vs i ≡ true → length (crossings_to vs (suc i)) ≡ length (crossings_to vs i) + 1
  count_more e = rw (crossings_more e, length-append)

  -- no fewer, and at most one more
  crossings_step : (length (crossings_to vs i) ≤ length (crossings_to vs (suc i))) × (length (crossings_to vs (suc i)) ≤ length (crossings_to vs i) + 1)
  crossings_step = go (crosses_at vs i) refl
    where
      go : (b : Bool) → crosses_at vs i ≡ b
          → (length (crossings_to vs i) ≤ length (crossings_to vs (suc i))) × (length (crossings_to vs (suc i)) ≤ length (crossings_to vs i) + 1)
      go true e = (omega (arith, count_more e), omega (arith, count_more e))
      go false e = (rw (crossings_same e) (le_refl _), rw (crossings_same e) (omega arith))

pub crossings_at_most : (vs : List ℤ) (i : ℕ) → length (crossings_to vs i) ≤ i
crossings_at_most vs zero = rw (crossings_none vs) (le_refl 0)
crossings_at_most vs (suc i) = omega (arith, crossings_at_most vs i, (crossings_step vs i).1)

-- more positions, no fewer pairs
crossings_onward : (vs : List ℤ) (i k : ℕ) → length (crossings_to vs i) ≤ length (crossings_to vs (k + i))
crossings_onward vs i zero = rw (zero-add i) (le_refl _)
crossings_onward vs i (suc k) = rw (suc-add k i) (le_trans (crossings_onward vs i k) (crossings_step vs (k + i)).0)

crossings_within : (vs : List ℤ) (i n : ℕ) → i ≤ n → length (crossings_to vs i) ≤ length (crossings_to vs n)
crossings_within vs i n h = subst (λ (k : ℕ). length (crossings_to vs i) ≤ length (crossings_to vs k)) (omega arith) (crossings_onward vs i (n - i))

pub points_length : (lowest pitch : ℤ) (is : List ℕ) → length (lower_points lowest pitch is) ≡ length is
points_length lowest pitch is = length-map is (λ i. nat_abs (point_at lowest pitch i))

points_more : (lowest pitch : ℤ) (is : List ℕ) (i : ℕ)
    → lower_points lowest pitch (is ++ (i ∷ [])) ≡ lower_points lowest pitch is ++ (nat_abs (point_at lowest pitch i) ∷ [])
points_more lowest pitch is i = map-append (λ k. nat_abs (point_at lowest pitch k)) is (i ∷ [])

-- ---- the list written so far

-- the pairs among the first i positions have been written to the list l₀, which is now l; there are n of them, and p is the next point
pub record PairsWritten (a q : ℕ) (vs : List ℤ) (l₀ l : List ℕ) (i n p : ℕ) : Type 0 where
  pub within : i + 1 ≤ length vs
  pub count : n ≡ length (crossings_to vs i)
  pub point : p ≡ risen a q i
  pub list : l ≡ lower_points (pos a) (pos q) (crossings_to vs i) ++ drop n l₀
  pub size : length l ≡ length l₀

pub written_none : (a q : ℕ) (vs : List ℤ) (l₀ : List ℕ) → 1 ≤ length vs → PairsWritten a q vs l₀ l₀ 0 0 a
written_none a q vs l₀ h =
    record { within = h; count = rw (crossings_none vs); point = omega arith; list = rw (crossings_none vs); size = refl }

module _ (a q : ℕ) (vs : List ℤ) (l₀ l : List ℕ) (i n p : ℕ) (w : PairsWritten a q vs l₀ l i n p) where
  pub written_room : crosses_at vs i ≡ true → i + 1 < length vs → length (crossings_of vs) ≤ length l₀ → n < length l₀
  written_room e h r = omega (arith, w.count, count_more vs i e, crossings_within vs (suc i) (length vs - 1) (omega arith))

  pub written_found : crosses_at vs i ≡ true → i + 1 < length vs → n < length l₀ → PairsWritten a q vs l₀ (set l n p) (i + 1) (n + 1) (p + q)
  written_found e h r =
      record {
        within = omega arith;
        count = rw (add-one i) (omega (arith, w.count, count_more vs i e));
        point = omega (arith, w.point, risen_more a q i);
        list =
            ap (λ (k : List ℕ). set k n p) (w.list ∙ ap (λ (d : List ℕ). lower_points (pos a) (pos q) (crossings_to vs i) ++ d) (drop-cons l₀ n 0 r))
            ∙ set_at (lower_points (pos a) (pos q) (crossings_to vs i)) (get_or l₀ n 0) (drop (suc n) l₀) p n
            (points_length (pos a) (pos q) (crossings_to vs i) ∙ sym w.count)
            ∙ rw (add-one i, add-one n, crossings_more vs i e, points_more (pos a) (pos q) (crossings_to vs i) i, append_snoc, ← w.point);
        size = length-set l n p ∙ w.size;
      }

  pub written_passed : crosses_at vs i ≡ false → i + 1 < length vs → PairsWritten a q vs l₀ l (i + 1) n (p + q)
  written_passed e h =
      record {
        within = omega arith;
        count = rw (add-one i, crossings_same vs i e) w.count;
        point = omega (arith, w.point, risen_more a q i);
        list = rw (add-one i, crossings_same vs i e) w.list;
        size = w.size;
      }

  pub written_end : length vs ≤ i + 1 → l ≡ lower_points (pos a) (pos q) (crossings_of vs) ++ drop (length (crossings_of vs)) l₀
  written_end h =
      let e : length vs - 1 ≡ i = omega (arith, w.within) in
      rw (e, ← w.count) w.list

-- ---- the first value out of range, as `position` finds it

-- by the test of each position, which may be any
first_is_found : (p : ℤ → Bool) (vs : List ℤ) → position_or_len p vs ≡ first_below (length vs) (λ i. p (get_or vs i (pos 0)))
unfolding first_below
first_is_found p [] = refl
first_is_found p (v ∷ vs) = go (p v) (first_is_found p vs)
  where
    rest : ℕ
    rest = first_below (length vs) (λ i. p (get_or vs i (pos 0)))

    go : (b : Bool) → position_or_len p vs ≡ rest → cond (not b) (1 + position_or_len p vs) 0 ≡ cond b 0 (suc rest)
    go true e = refl
    go false e = omega (arith, e)

large_found : (vs : List ℤ) → position too_large vs ≡ cond (ltb (large_at vs) (length vs)) (Some (large_at vs)) None
unfolding large_at
large_found vs = rw (first_is_found too_large vs)

-- ---- what is told, by the tests in their order

module _ (lowest pitch : ℤ) (vs : List ℤ) (room : ℕ) where
  pub says_misplaced : is_misplaced lowest pitch (length vs) ≡ true → surveyed_of lowest pitch vs room ≡ Err (refusal misplaced_survey 0)
  unfolding surveyed_of
  says_misplaced e = simp e

  module _ (p : is_misplaced lowest pitch (length vs) ≡ false) where
    pub says_large : large_at vs < length vs → surveyed_of lowest pitch vs room ≡ Err (refusal value_out_of_range (large_at vs))
    unfolding surveyed_of
    says_large h = simp (p, lt-ltb (large_at vs) (length vs) h)

    module _ (v : length vs ≤ large_at vs) where
      pub says_short : room < length (crossings_of vs) → surveyed_of lowest pitch vs room ≡ Err (refusal list_too_short 0)
      unfolding surveyed_of
      says_short h = simp (p, le-ltb (large_at vs) (length vs) v, lt-ltb room (length (crossings_of vs)) h)

      pub says_found : length (crossings_of vs) ≤ room → surveyed_of lowest pitch vs room ≡ Ok (length (crossings_of vs))
      unfolding surveyed_of
      says_found h = simp (p, le-ltb (large_at vs) (length vs) v, le-ltb room (length (crossings_of vs)) h)

-- ---- what is said before a pair is looked for

module _ (lowest pitch : ℤ) (vs : List ℤ) where
  module _ (p : is_misplaced lowest pitch (length vs) ≡ false) where
    pub check_large : (i : ℕ) → position too_large vs ≡ Some i → Err (refusal value_out_of_range i) ≡ checked_of lowest pitch vs
    check_large i e = simp p (go (ltb (large_at vs) (length vs)) (sym (large_found vs) ∙ e))
      where
        go : (b : Bool) → cond b (Some (large_at vs)) None ≡ Some i
            → Err (refusal value_out_of_range i) ≡ cond b (Err (refusal value_out_of_range (large_at vs))) (Ok (tt {0}))
        go true f = cc
        go false f = cc

    pub check_passed : position too_large vs ≡ None → Ok tt ≡ checked_of lowest pitch vs
    check_passed e = simp p (go (ltb (large_at vs) (length vs)) (sym (large_found vs) ∙ e))
      where
        go : (b : Bool) → cond b (Some (large_at vs)) None ≡ None → Ok (tt {0}) ≡ cond b (Err (refusal value_out_of_range (large_at vs))) (Ok (tt {0}))
        go true f = cc
        go false f = refl

  -- a survey that is refused then is told so, whatever list is lent
  pub refused_by : (r : Refusal) (room : ℕ) → checked_of lowest pitch vs ≡ Err r → surveyed_of lowest pitch vs room ≡ Err r
  unfolding surveyed_of
  refused_by r room e = go (is_misplaced lowest pitch (length vs)) (ltb (large_at vs) (length vs)) e
    where
      go : (a b : Bool) → cond a (Err (refusal misplaced_survey 0)) (cond b (Err (refusal value_out_of_range (large_at vs))) (Ok (tt {0}))) ≡ Err r
          → cond a (Err (refusal misplaced_survey 0))
          (cond b (Err (refusal value_out_of_range (large_at vs)))
          (cond (ltb room (length (crossings_of vs))) (Err (refusal list_too_short 0)) (Ok (length (crossings_of vs)))))
          ≡ Err r
      go true b f = cc
      go false true f = cc
      go false false f = cc

  -- any other has its places and its values in range
  pub record Passed : Type 0 where
    pub placed : is_misplaced lowest pitch (length vs) ≡ false
    pub in_range : length vs ≤ large_at vs

  pub passed : checked_of lowest pitch vs ≡ Ok tt → Passed
  passed e = go (is_misplaced lowest pitch (length vs)) (ltb (large_at vs) (length vs)) refl refl e
    where
      go : (a b : Bool) → is_misplaced lowest pitch (length vs) ≡ a → ltb (large_at vs) (length vs) ≡ b
          → cond a (Err (refusal misplaced_survey 0)) (cond b (Err (refusal value_out_of_range (large_at vs))) (Ok (tt {0}))) ≡ Ok (tt {0}) → Passed
      go true b x y f = cc
      go false true x y f = cc
      go false false x y f = record { placed = x; in_range = ltb-false (large_at vs) (length vs) y }

-- the list after it
pub list_after : (lowest pitch : ℤ) (vs : List ℤ) (list : List ℕ) (r : Result ℕ Refusal) → surveyed_of lowest pitch vs (length list) ≡ r
    → list_of lowest pitch vs list ≡ filled_by r (lower_points lowest pitch (crossings_of vs)) list
unfolding list_of
list_after lowest pitch vs list r e = ap (λ (s : Result ℕ Refusal). filled_by s (lower_points lowest pitch (crossings_of vs)) list) e
