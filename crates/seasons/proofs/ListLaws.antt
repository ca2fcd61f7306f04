-- Laws of lists: what a filter, a sum and a maximum make of lists joined, and of one in another order.
-- Assumes nothing.
use Rattle.std.specs.Prelude.{ℕ, suc, ◌+◌, max, ◌≡◌, refl, Bool, true, false, cond, List, [], ◌∷◌, ◌++◌, map, length}
use Rattle.std.proofs.Common.{ap, ◌∙◌, arith}
use Rattle.seasons.specs.declared.Outcome.{Outcome}
use Rattle.seasons.specs.Season.{filter, sum, maximum}
use Rattle.seasons.specs.Claims.{Reordered, none, behind, swapped, again}

-- ---- joined

pub filter_append : (test : Outcome → Bool) (os ps : List Outcome) → filter test (os ++ ps) ≡ filter test os ++ filter test ps
unfolding filter
filter_append test [] ps = refl
filter_append test (o ∷ os) ps = go (test o) (filter_append test os ps)
  where
    go : (b : Bool) → filter test (os ++ ps) ≡ filter test os ++ filter test ps
        → cond b (o ∷ filter test (os ++ ps)) (filter test (os ++ ps)) ≡ cond b (o ∷ filter test os) (filter test os) ++ filter test ps
    go true e = ap (λ (l : List Outcome). o ∷ l) e
    go false e = e

pub map_append : {A B : Type 0} (f : A → B) (xs ys : List A) → map f (xs ++ ys) ≡ map f xs ++ map f ys
map_append f [] ys = refl
map_append {B = B} f (x ∷ xs) ys = ap (λ (l : List B). f x ∷ l) (map_append f xs ys)

pub sum_append : (ns ms : List ℕ) → sum (ns ++ ms) ≡ sum ns + sum ms
unfolding sum
sum_append [] ms = omega arith
sum_append (n ∷ ns) ms = omega (arith, sum_append ns ms)

pub maximum_append : (ns ms : List ℕ) → maximum (ns ++ ms) ≡ max (maximum ns) (maximum ms)
unfolding maximum
maximum_append [] ms = omega arith
maximum_append (n ∷ ns) ms = omega (arith, maximum_append ns ms)

-- ---- in another order

pub same_order : {A : Type 0} (xs : List A) → Reordered xs xs
same_order [] = none
same_order (x ∷ xs) = behind (same_order xs)

-- the first goes to the end, and so does one between two lists
to_the_end : {A : Type 0} (x : A) (xs : List A) → Reordered (x ∷ xs) (xs ++ (x ∷ []))
to_the_end x [] = same_order (x ∷ [])
to_the_end x (y ∷ xs) = again swapped (behind (to_the_end x xs))

pub taken_out : {A : Type 0} (xs ys : List A) (x : A) → Reordered (xs ++ (x ∷ ys)) ((xs ++ ys) ++ (x ∷ []))
taken_out [] ys x = to_the_end x ys
taken_out (y ∷ xs) ys x = behind (taken_out xs ys x)

pub filter_reordered : (test : Outcome → Bool) {os ps : List Outcome} → Reordered os ps → Reordered (filter test os) (filter test ps)
unfolding filter
filter_reordered test none = none
filter_reordered test (behind {a = o} {xs = os} {ys = ps} r) = go (test o) (filter_reordered test r)
  where
    go : (b : Bool) → Reordered (filter test os) (filter test ps)
        → Reordered (cond b (o ∷ filter test os) (filter test os)) (cond b (o ∷ filter test ps) (filter test ps))
    go true s = behind s
    go false s = s
filter_reordered test (swapped {a = o} {b = p} {xs = os}) = go (test o) (test p)
  where
    rest : List Outcome
    rest = filter test os

    go : (b c : Bool)
        → Reordered (cond b (o ∷ cond c (p ∷ rest) rest) (cond c (p ∷ rest) rest)) (cond c (p ∷ cond b (o ∷ rest) rest) (cond b (o ∷ rest) rest))
    go true true = swapped
    go true false = same_order (o ∷ rest)
    go false true = same_order (p ∷ rest)
    go false false = same_order rest
filter_reordered test (again r s) = again (filter_reordered test r) (filter_reordered test s)

pub map_reordered : {A B : Type 0} (f : A → B) {xs ys : List A} → Reordered xs ys → Reordered (map f xs) (map f ys)
map_reordered f none = none
map_reordered f (behind r) = behind (map_reordered f r)
map_reordered f swapped = swapped
map_reordered f (again r s) = again (map_reordered f r) (map_reordered f s)

pub length_reordered : {A : Type 0} {xs ys : List A} → Reordered xs ys → length xs ≡ length ys
length_reordered none = refl
length_reordered (behind r) = ap suc (length_reordered r)
length_reordered swapped = refl
length_reordered (again r s) = length_reordered r ∙ length_reordered s

pub sum_reordered : {ns ms : List ℕ} → Reordered ns ms → sum ns ≡ sum ms
unfolding sum
sum_reordered none = refl
sum_reordered (behind r) = omega (arith, sum_reordered r)
sum_reordered swapped = omega arith
sum_reordered (again r s) = sum_reordered r ∙ sum_reordered s

pub maximum_reordered : {ns ms : List ℕ} → Reordered ns ms → maximum ns ≡ maximum ms
unfolding maximum
maximum_reordered none = refl
maximum_reordered (behind r) = omega (arith, maximum_reordered r)
maximum_reordered swapped = omega arith
maximum_reordered (again r s) = maximum_reordered r ∙ maximum_reordered s
