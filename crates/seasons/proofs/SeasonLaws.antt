-- Laws of tallies and reports: of outcomes joined, of one more, in another order; and that the numbers stay small.
-- Assumes nothing.
use Prim.Native.Nat.{ℕ, zero, suc, ◌+◌, ◌≤◌, max}
use Rattle.std.specs.Prelude.{◌≡◌, Bool, cond, length, get_or, set}
use Rattle.std.proofs.Math.Path.{ap}
use Rattle.std.proofs.Common.{◌∙◌, arith, length-append}
use mathlib.Core.List.{List, [], ◌∷◌, ◌++◌, map, zip_with, append-nil}
use Rattle.std.proofs.Math.Dec.{eqb}
use Rattle.seasons.specs.declared.Outcome.{Outcome}
use Rattle.seasons.specs.declared.Tally.{Tally}
use Rattle.seasons.specs.Season.{has_stopped, is_unfinished, not_refused, was_refused, other, booked_as, filter, sum, maximum, tally_of, booked_under}
use Rattle.seasons.specs.Season.{tallies_of, no_tally}
use Rattle.seasons.specs.Claims.{Reordered, added}
use Rattle.seasons.proofs.ListLaws.{filter_append, map_append, sum_append, maximum_append, filter_reordered, map_reordered, length_reordered}
use Rattle.seasons.proofs.ListLaws.{sum_reordered, maximum_reordered}

-- ---- joined

module _ (test : Outcome → Bool) (os ps : List Outcome) where
  count_append : length (filter test (os ++ ps)) ≡ length (filter test os) + length (filter test ps)
  count_append = ap length (filter_append test os ps) ∙ length-append (filter test os) (filter test ps)

  module _ (f : Outcome → ℕ) where
    numbers_append : map f (filter test (os ++ ps)) ≡ map f (filter test os) ++ map f (filter test ps)
    numbers_append = ap (map f) (filter_append test os ps) ∙ map_append f (filter test os) (filter test ps)

    total_append : sum (map f (filter test (os ++ ps))) ≡ sum (map f (filter test os)) + sum (map f (filter test ps))
    total_append = ap sum numbers_append ∙ sum_append (map f (filter test os)) (map f (filter test ps))

    largest_append : maximum (map f (filter test (os ++ ps))) ≡ max (maximum (map f (filter test os))) (maximum (map f (filter test ps)))
    largest_append = ap maximum numbers_append ∙ maximum_append (map f (filter test os)) (map f (filter test ps))

pub tally_append : (os ps : List Outcome) → tally_of (os ++ ps) ≡ added (tally_of os) (tally_of ps)
unfolding tally_of
tally_append os ps =
    rw (
      count_append has_stopped os ps,
      count_append is_unfinished os ps,
      count_append was_refused os ps,
      total_append not_refused os ps (λ o. o.answers),
      total_append not_refused os ps (λ o. o.quoted),
      largest_append not_refused os ps (λ o. o.answers),
    )

booked_append : (k : ℕ) (os ps : List Outcome) → tally_of (booked_under k (os ++ ps)) ≡ added (tally_of (booked_under k os)) (tally_of (booked_under k ps))
booked_append k os ps = ap tally_of (filter_append (λ o. eqb (booked_as o) k) os ps) ∙ tally_append (booked_under k os) (booked_under k ps)

pub tallies_append : (os ps : List Outcome) → tallies_of (os ++ ps) ≡ zip_with added (tallies_of os) (tallies_of ps)
unfolding tallies_of zip_with
tallies_append os ps = rw (booked_append 0 os ps, booked_append 1 os ps, booked_append 2 os ps, booked_append other os ps)

-- ---- in another order

tally_reordered : {os ps : List Outcome} → Reordered os ps → tally_of os ≡ tally_of ps
unfolding tally_of
tally_reordered r =
    rw (
      length_reordered (filter_reordered has_stopped r),
      length_reordered (filter_reordered is_unfinished r),
      length_reordered (filter_reordered was_refused r),
      sum_reordered (map_reordered (λ o. o.answers) (filter_reordered not_refused r)),
      sum_reordered (map_reordered (λ o. o.quoted) (filter_reordered not_refused r)),
      maximum_reordered (map_reordered (λ o. o.answers) (filter_reordered not_refused r)),
    )

booked_reordered : (k : ℕ) {os ps : List Outcome} → Reordered os ps → tally_of (booked_under k os) ≡ tally_of (booked_under k ps)
booked_reordered k r = tally_reordered (filter_reordered (λ o. eqb (booked_as o) k) r)

pub tallies_reordered : {os ps : List Outcome} → Reordered os ps → tallies_of os ≡ tallies_of ps
unfolding tallies_of
tallies_reordered r = rw (booked_reordered 0 r, booked_reordered 1 r, booked_reordered 2 r, booked_reordered other r)

-- ---- one outcome more

module _ (os : List Outcome) (o : Outcome) where
  -- the tally under k, where the outcome is booked under b
  abbrev joined : ℕ → ℕ → Tally
  joined b k = tally_of (booked_under k os ++ cond (eqb b k) (o ∷ []) [])

  one_more : (k : ℕ) → tally_of (booked_under k (os ++ (o ∷ []))) ≡ joined (booked_as o) k
  unfolding filter
  one_more k = ap tally_of (filter_append (λ o. eqb (booked_as o) k) os (o ∷ []))

  grown : (k : ℕ) → tally_of (booked_under k os ++ (o ∷ [])) ≡ added (tally_of (booked_under k os)) (tally_of (o ∷ []))
  grown k = tally_append (booked_under k os) (o ∷ [])

  stays : (k : ℕ) → tally_of (booked_under k os ++ []) ≡ tally_of (booked_under k os)
  stays k = ap tally_of (append-nil (booked_under k os))

  four : tallies_of (os ++ (o ∷ [])) ≡ joined (booked_as o) 0 ∷ joined (booked_as o) 1 ∷ joined (booked_as o) 2 ∷ joined (booked_as o) other ∷ []
  unfolding tallies_of
  four = rw (one_more 0, one_more 1, one_more 2, one_more other)

  by_book : (b : ℕ) → b ≤ other
      → joined b 0 ∷ joined b 1 ∷ joined b 2 ∷ joined b other ∷ []
      ≡ set (tallies_of os) b (added (get_or (tallies_of os) b no_tally) (tally_of (o ∷ [])))
  unfolding tallies_of
  by_book zero h = rw (grown 0, stays 1, stays 2, stays other)
  by_book (suc zero) h = rw (stays 0, grown 1, stays 2, stays other)
  by_book (suc (suc zero)) h = rw (stays 0, stays 1, grown 2, stays other)
  by_book (suc (suc (suc zero))) h = rw (stays 0, stays 1, stays 2, grown other)
  by_book (suc (suc (suc (suc b)))) h = absurd (omega arith)

  -- the tally of its own method grows by the tally of it alone, and the others stay
  pub tallies_more : tallies_of (os ++ (o ∷ []))
      ≡ set (tallies_of os) (booked_as o) (added (get_or (tallies_of os) (booked_as o) no_tally) (tally_of (o ∷ [])))
  tallies_more = four ∙ by_book (booked_as o) (omega arith)
