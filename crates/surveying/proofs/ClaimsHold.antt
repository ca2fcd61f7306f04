-- The claim on every survey holds.
-- Assumes nothing.
use Rattle.std.specs.Prelude.{ℕ, zero, suc, ◌+◌, ◌-◌, ◌*◌, ◌≤◌, ◌<◌, ◌≡◌, refl, Bool, true, false}
use Rattle.std.specs.Prelude.{List, [], ◌∷◌, ◌++◌, map, ltb, ℤ, negsuc, nat_abs, length, drop, Ok, Err}
use Rattle.std.proofs.Math.Path.{sym, ap}
use Rattle.std.proofs.Common.{subst, ◌∙◌, arith, ltb-true, ltb-false, le-leb, ne_eqb, get_or-append-add, get_or-drop}
use Rattle.std.proofs.Math.Decide.{dec_le}
use Rattle.std.proofs.Math.IntN.{pos}
use Rattle.std.proofs.Math.ListN.{get_or, length-append, length-drop, get_or-append, get_or-eq_default}
use Rattle.std.proofs.Math.Seq.{get_or-append_seam}
use Rattle.integers.specs.Digits.{Least}
use Rattle.integers.proofs.DigitsLaws.{first_before, first_is}
use Rattle.integers.specs.Signs.{eq_z}
use Rattle.integers.proofs.SignsLaws.{never, negated}
use Rattle.rules.specs.declared.Opening.{Opening}
use Rattle.rules.specs.declared.Refusal.{Refusal}
use Rattle.rules.specs.Rules.{largest_tolerance, opposed}
use Rattle.rules.proofs.RulesLaws.{opposed_comm}
use Rattle.rules.specs.Refusals.{refusal, answer_refusal, too_large, same_side, Accepted, value_out_of_range}
use Rattle.rules.proofs.RefusalsLaws.{inside, accepted_by, opposed_crossing}
use Rattle.rules.specs.Search.{begin_of, offer_of, take_of, progress_of, is_refusal, report_of}
use Rattle.rules.proofs.SearchLaws.{refusal_is}
use Rattle.surveying.specs.Survey.{point_at, measured_at, crosses_at, crossings_of, lower_points, misplaced_survey}
use Rattle.surveying.specs.Survey.{is_misplaced, large_at, surveyed_of, list_of}
use Rattle.surveying.specs.Claims.{Surveyable, Among, pair_opening, PairsFound, PairsCounted, EverySurvey}
use Rattle.surveying.proofs.SurveyLaws.{surveyable, not_misplaced, risen, risen_more, risen_least, in_numbers, point_is}
use Rattle.surveying.proofs.SurveyLaws.{crossings_to, crossings_more, crossings_same, count_more, crossings_at_most, points_length}
use Rattle.surveying.proofs.SurveyLaws.{says_misplaced, says_large, says_short, says_found, list_after}

-- ---- the refusals in their order

misplaced : (lowest pitch : ℤ) (vs : List ℤ) (room : ℕ) → ¬ Surveyable lowest pitch (length vs)
    → surveyed_of lowest pitch vs room ≡ Err (refusal misplaced_survey 0)
misplaced lowest pitch vs room f = says_misplaced lowest pitch vs room (go (is_misplaced lowest pitch (length vs)) refl)
  where
    go : (b : Bool) → is_misplaced lowest pitch (length vs) ≡ b → b ≡ true
    go true e = refl
    go false e = absurd (f (surveyable lowest pitch (length vs) e))

-- past the last value there is none out of range
large_within : (vs : List ℤ) (i : ℕ) → too_large (measured_at vs i) ≡ true → i < length vs
large_within vs i e = go (dec_le (length vs) i)
  where
    go : Dec (length vs ≤ i) → i < length vs
    go (yes h) = never (sym e ∙ ap too_large (get_or-eq_default vs (pos 0) h))
    go (no h) = omega arith

large : (lowest pitch : ℤ) (vs : List ℤ) (room i : ℕ) → Surveyable lowest pitch (length vs) → Least (λ k. too_large (measured_at vs k) ≡ true) i
    → surveyed_of lowest pitch vs room ≡ Err (refusal value_out_of_range i)
unfolding large_at
large lowest pitch vs room i s l =
    says_large lowest pitch vs room (not_misplaced lowest pitch (length vs) s) (subst (λ (k : ℕ). k < length vs) first within)
    ∙ ap (λ (k : ℕ). Err (refusal value_out_of_range k)) (sym first)
  where
    within : i < length vs
    within = large_within vs i l.holds

    before : (m : ℕ) → m < i → too_large (measured_at vs m) ≡ false
    before m h = go (too_large (measured_at vs m)) refl
      where
        go : (b : Bool) → too_large (measured_at vs m) ≡ b → b ≡ false
        go true e = absurd (omega (arith, l.least m e))
        go false e = refl

    first : i ≡ large_at vs
    first = first_is (length vs) (λ k. too_large (measured_at vs k)) i (omega (arith, within)) before (λ h. l.holds)

counted : (lowest pitch : ℤ) (vs : List ℤ) → Surveyable lowest pitch (length vs) → ((i : ℕ) → too_large (measured_at vs i) ≡ false)
    → PairsCounted lowest pitch vs
unfolding large_at
counted lowest pitch vs s f =
    let p = not_misplaced lowest pitch (length vs) s in
    let v : length vs ≤ large_at vs = omega (arith, none) in
    record {
      number = length (crossings_of vs);
      few = omega (arith, crossings_at_most vs (length vs - 1), s.enough);
      told = λ room h. says_found lowest pitch vs room p v h;
      short = λ room h. says_short lowest pitch vs room p v h;
    }
  where
    none : length vs ≡ large_at vs
    none = first_is (length vs) (λ k. too_large (measured_at vs k)) (length vs) (omega arith) (λ m h. f m) (λ h. absurd (omega arith))

kept : (lowest pitch : ℤ) (vs : List ℤ) (list : List ℕ) (r : Refusal) → surveyed_of lowest pitch vs (length list) ≡ Err r
    → list_of lowest pitch vs list ≡ list
kept lowest pitch vs list r e = list_after lowest pitch vs list (Err r) e

-- ---- the positions that are listed

module _ (vs : List ℤ) where
  -- of the first n pairs, the one at i is listed at `index`
  record ListedAt (n i : ℕ) : Type 0 where
    index : ℕ
    below : index < length (crossings_to vs n)
    there : get_or (crossings_to vs n) index 0 ≡ i

  -- what is listed of the first n pairs
  record Listing (n : ℕ) : Type 0 where
    each : (i : ℕ) → i < n → crosses_at vs i ≡ true → ListedAt n i
    lower : (j : ℕ) → j < length (crossings_to vs n) → get_or (crossings_to vs n) j 0 < n
    crosses : (j : ℕ) → j < length (crossings_to vs n) → crosses_at vs (get_or (crossings_to vs n) j 0) ≡ true
    ascending : (j k : ℕ) → j < k → k < length (crossings_to vs n) → get_or (crossings_to vs n) j 0 < get_or (crossings_to vs n) k 0

  listing_same : (n : ℕ) → crosses_at vs n ≡ false → Listing n → Listing (suc n)
  listing_same n e l =
      record {
        each = λ i h f. each i h f (dec_le (suc i) n);
        lower = λ j h. rw s (omega (arith, l.lower j (rw s at h)));
        crosses = λ j h. rw s (l.crosses j (rw s at h));
        ascending = λ j k h g. rw s (l.ascending j k h (rw s at g));
      }
    where
      s : crossings_to vs (suc n) ≡ crossings_to vs n
      s = crossings_same vs n e

      each : (i : ℕ) → i < suc n → crosses_at vs i ≡ true → Dec (suc i ≤ n) → ListedAt (suc n) i
      each i h f (yes g) = let a = l.each i g f in record { index = a.index; below = rw s a.below; there = rw s a.there }
      each i h f (no g) = let k : i ≡ n = omega arith in never (sym f ∙ ap (crosses_at vs) k ∙ e)

  listing_more : (n : ℕ) → crosses_at vs n ≡ true → Listing n → Listing (suc n)
  listing_more n e l =
      record {
        each = λ i h f. each i h f (dec_le (suc i) n);
        lower = λ j h. lower j (dec_le (suc j) m) h;
        crosses = λ j h. crosses j (dec_le (suc j) m) h;
        ascending = λ j k h g. ascending j k h (dec_le (suc k) m) g;
      }
    where
      m : ℕ
      m = length (crossings_to vs n)

      size : length (crossings_to vs (suc n)) ≡ m + 1
      size = count_more vs n e

      old : (j : ℕ) → j < m → get_or (crossings_to vs (suc n)) j 0 ≡ get_or (crossings_to vs n) j 0
      old j h = rw (crossings_more vs n e) (get_or-append (crossings_to vs n) (n ∷ []) 0 j h)

      new : get_or (crossings_to vs (suc n)) m 0 ≡ n
      new = rw (crossings_more vs n e) (get_or-append_seam (crossings_to vs n) n [] 0)

      last : (j : ℕ) → ¬ (suc j ≤ m) → j < length (crossings_to vs (suc n)) → get_or (crossings_to vs (suc n)) j 0 ≡ n
      last j g h = let k : j ≡ m = omega (arith, size) in rw k new

      each : (i : ℕ) → i < suc n → crosses_at vs i ≡ true → Dec (suc i ≤ n) → ListedAt (suc n) i
      each i h f (yes g) =
          let a = l.each i g f in
          record { index = a.index; below = omega (arith, a.below, size); there = old a.index a.below ∙ a.there }
      each i h f (no g) = let k : n ≡ i = omega arith in record { index = m; below = omega (arith, size); there = new ∙ k }

      lower : (j : ℕ) → Dec (suc j ≤ m) → j < length (crossings_to vs (suc n)) → get_or (crossings_to vs (suc n)) j 0 < suc n
      lower j (yes g) h = omega (arith, old j g, l.lower j g)
      lower j (no g) h = omega (arith, last j g h)

      crosses : (j : ℕ) → Dec (suc j ≤ m) → j < length (crossings_to vs (suc n)) → crosses_at vs (get_or (crossings_to vs (suc n)) j 0) ≡ true
      crosses j (yes g) h = rw (old j g) (l.crosses j g)
      crosses j (no g) h = rw (last j g h) e

      ascending : (j k : ℕ) → j < k → Dec (suc k ≤ m) → k < length (crossings_to vs (suc n))
          → get_or (crossings_to vs (suc n)) j 0 < get_or (crossings_to vs (suc n)) k 0
      ascending j k h (yes g) i = rw (old j (omega arith), old k g) (l.ascending j k h g)
      ascending j k h (no g) i =
          let f : j < m = omega (arith, size) in
          rw (old j f, last k g i) (l.lower j f)

  listing : (n : ℕ) → Listing n
  listing zero =
      record {
        each = λ i h f. absurd (omega arith);
        lower = λ j h. absurd (omega (arith, crossings_at_most vs 0));
        crosses = λ j h. absurd (omega (arith, crossings_at_most vs 0));
        ascending = λ j k h g. absurd (omega (arith, crossings_at_most vs 0));
      }
  listing (suc n) = go (crosses_at vs n) refl (listing n)
    where
      go : (b : Bool) → crosses_at vs n ≡ b → Listing n → Listing (suc n)
      go true e l = listing_more n e l
      go false e l = listing_same n e l

-- ---- each pair opens a search that accepts its two values

-- an opening that is accepted takes two values that are within limits and not on one side
two_taken : (o : Opening) (v w : ℤ) → Accepted o → too_large v ≡ false → too_large w ≡ false → same_side v w ≡ false
    → is_refusal (report_of o (v ∷ w ∷ [])) ≡ false
unfolding report_of progress_of begin_of take_of offer_of answer_refusal
two_taken o v w a f g h = refusal_is o _ ∙ simp (a.accepted, f, g, h)

module _ (lowest pitch : ℤ) (n : ℕ) (s : Surveyable lowest pitch n) where
  abbrev at : ℕ → ℕ
  at i = risen (nat_abs lowest) (nat_abs pitch) i

  rises : (i k : ℕ) → i < k → at i < at k
  rises i k h =
      omega (
        arith,
        risen_least (nat_abs lowest) (nat_abs pitch) (i + 1) k (omega arith),
        risen_more (nat_abs lowest) (nat_abs pitch) i,
        (in_numbers lowest pitch n s).apart,
      )

  pair_accepted : (i method tolerance : ℕ) → i + 1 < n → method ≤ 2 → 1 ≤ tolerance → tolerance ≤ largest_tolerance
      → Accepted (pair_opening (point_at lowest pitch i) (point_at lowest pitch (i + 1)) method tolerance)
  pair_accepted i method tolerance h m least largest =
      accepted_by (pair_opening (point_at lowest pitch i) (point_at lowest pitch (i + 1)) method tolerance)
      (inside 0 2 method (omega arith) m)
      (s.in_range i (omega arith))
      (s.in_range (i + 1) h)
      apart
      (inside 1 largest_tolerance tolerance least largest)
      refl
    where
      apart : eq_z (point_at lowest pitch i) (point_at lowest pitch (i + 1)) ≡ false
      apart =
          let q = in_numbers lowest pitch n s in
          rw (point_is lowest pitch q i, point_is lowest pitch q (i + 1))
          (ne_eqb (at i) (at (i + 1)) (λ e. omega (arith, rises i (i + 1) (omega arith))))

-- ---- a zero has a zero product with whatever stands beside it

zero_after : (v : ℤ) → opposed v (pos 0) ≡ true
unfolding opposed
zero_after (pos n) = le-leb (n * 0) 0 (omega arith)
zero_after (negsuc n) = negated (suc n * 0)

zero_before : (v : ℤ) → opposed (pos 0) v ≡ true
zero_before v = opposed_comm (pos 0) v ∙ zero_after v

-- ---- the list afterwards

mapped : (f : ℕ → ℕ) (l : List ℕ) (j : ℕ) → j < length l → get_or (map f l) j 0 ≡ f (get_or l j 0)
mapped f [] j h = absurd (omega arith)
mapped f (i ∷ l) zero h = refl
mapped f (i ∷ l) (suc j) h = mapped f l j (omega arith)

module _ (lowest pitch : ℤ) (vs : List ℤ) (list : List ℕ) (s : Surveyable lowest pitch (length vs)) (v : length vs ≤ large_at vs)
    (room : length (crossings_of vs) ≤ length list) where
  abbrev points : List ℕ
  points = lower_points lowest pitch (crossings_of vs)

  abbrev n : ℕ
  n = length (crossings_of vs)

  abbrev after : List ℕ
  after = points ++ drop n list

  is_point : (i : ℕ) → point_at lowest pitch i ≡ pos (risen (nat_abs lowest) (nat_abs pitch) i)
  is_point = point_is lowest pitch (in_numbers lowest pitch (length vs) s)

  all_listed : Listing vs (length vs - 1)
  all_listed = listing vs (length vs - 1)

  value_in : (i : ℕ) → i < length vs → too_large (measured_at vs i) ≡ false
  unfolding large_at
  value_in i h = first_before (length vs) (λ k. too_large (measured_at vs k)) i (omega arith)

  -- what stands at a place of the list
  reads : (j : ℕ) → j < n → get_or after j 0 ≡ risen (nat_abs lowest) (nat_abs pitch) (get_or (crossings_of vs) j 0)
  reads j h =
      get_or-append points (drop n list) 0 j (omega (arith, points_length lowest pitch (crossings_of vs)))
      ∙ mapped (λ i. nat_abs (point_at lowest pitch i)) (crossings_of vs) j h
      ∙ ap nat_abs (is_point (get_or (crossings_of vs) j 0))

  among : (i : ℕ) → i + 1 < length vs → crosses_at vs i ≡ true → Among after n (point_at lowest pitch i)
  among i h e =
      let a = all_listed.each i (omega arith) e in
      record {
        index = a.index;
        below = a.below;
        there = ap pos (reads a.index a.below) ∙ sym (is_point _) ∙ ap (point_at lowest pitch) a.there;
      }

  rest : (j : ℕ) → n ≤ j → get_or after j 0 ≡ get_or list j 0
  rest j h =
      let l = points_length lowest pitch (crossings_of vs) in
      let e : j ≡ length points + (j - n) = omega (arith, l) in
      ap (λ (k : ℕ). get_or after k 0) e
      ∙ get_or-append-add points (drop n list) (j - n) 0
      ∙ get_or-drop n list (j - n) 0
      ∙ ap (λ (k : ℕ). get_or list k 0) (omega arith)

  pairs_found : PairsFound lowest pitch vs list after n
  unfolding opposed
  pairs_found =
      record {
        each = λ i c. among i c.neighbour c.product;
        none_other = λ j h. record {
          position = get_or (crossings_of vs) j 0;
          pair = record { neighbour = omega (arith, all_listed.lower j h); product = all_listed.crosses j h };
          lower = ap pos (reads j h) ∙ sym (is_point _);
        };
        ascending = λ j k h g. rw (reads j (omega arith), reads k g) (rises lowest pitch (length vs) s _ _ (all_listed.ascending j k h g));
        fits = room;
        rest = rest;
        size = length-append points (drop n list) ∙ omega (arith, length-drop n list, points_length lowest pitch (crossings_of vs));
        zero_twice = λ i h e. (
          among i (omega arith) (ap (opposed (measured_at vs i)) e ∙ zero_after (measured_at vs i)),
          among (i + 1) (omega arith) (ap (λ (z : ℤ). opposed z (measured_at vs (i + 1 + 1))) e ∙ zero_before (measured_at vs (i + 1 + 1))),
        );
        opens = λ i c method tolerance m least largest.
            two_taken _ (measured_at vs i) (measured_at vs (i + 1))
            (pair_accepted lowest pitch (length vs) s i method tolerance c.neighbour m least largest)
            (value_in i (omega (arith, c.neighbour)))
            (value_in (i + 1) c.neighbour)
            (opposed_crossing (measured_at vs i) (measured_at vs (i + 1)) c.product);
      }

-- a refusal is no number of pairs
no_refusal : {X : Type 0} (number i n : ℕ) → Err (refusal number i) ≡ Ok n → X
no_refusal number i n e = let f : ◌≡◌ {A = ℕ} 0 1 = cc in absurd (omega arith)

found : (lowest pitch : ℤ) (vs : List ℤ) (list : List ℕ) (n : ℕ) → surveyed_of lowest pitch vs (length list) ≡ Ok n
    → PairsFound lowest pitch vs list (list_of lowest pitch vs list) n
found lowest pitch vs list n e =
    go (is_misplaced lowest pitch (length vs)) (ltb (large_at vs) (length vs)) (ltb (length list) (length (crossings_of vs))) refl refl refl
  where
    go : (a b c : Bool) → is_misplaced lowest pitch (length vs) ≡ a → ltb (large_at vs) (length vs) ≡ b → ltb (length list) (length (crossings_of vs)) ≡ c
        → PairsFound lowest pitch vs list (list_of lowest pitch vs list) n
    go true b c x y z = no_refusal _ _ n (sym (says_misplaced lowest pitch vs (length list) x) ∙ e)
    go false true c x y z = no_refusal _ _ n (sym (says_large lowest pitch vs (length list) x (ltb-true _ _ y)) ∙ e)
    go false false true x y z =
        no_refusal _ _ n (sym (says_short lowest pitch vs (length list) x (ltb-false _ _ y) (ltb-true _ _ z)) ∙ e)
    go false false false x y z =
        let v = ltb-false (large_at vs) (length vs) y in
        let h = ltb-false (length list) (length (crossings_of vs)) z in
        let t = says_found lowest pitch vs (length list) x v h in
        let f : Ok (length (crossings_of vs)) ≡ Ok n = sym t ∙ e in
        let g : length (crossings_of vs) ≡ n = cc in
        rw (list_after lowest pitch vs list _ t)
        (subst (PairsFound lowest pitch vs list _) g (pairs_found lowest pitch vs list (surveyable lowest pitch (length vs) x) v h))

pub every_survey : EverySurvey
every_survey = record { misplaced = misplaced; large = large; counted = counted; kept = kept; found = found }
