-- Formulas of signed 64-bit arithmetic, as the code computes them: an author writes the formula once, and one law says of it that
-- every operation on the way fits and that the machine's bits stand for the formula's number.
--     bits_of e     what a local holds after the code computed e
--     value e      the number
--     bound e      bounds its absolute value
--     ok e         every bound on the way is below 2 ^ 63: it computes where the leaves' bounds are numerals, and `tt` proves it
-- Assumes nothing.
use Rattle.std.specs.Prelude.{◌≡◌, Bool, true, ◌&&◌, ℕ, ◌+◌, ◌*◌, ◌^◌, ◌≤◌, T, ltb, ℤ, pos, neg_ℤ, ◌-ℤ◌, ◌*ℤ◌}
use Rattle.std.proofs.Common.{ap, ◌∙◌, le_refl, SFits, to_z, of_z}
use Rattle.std.specs.Int.Signed.{quot_z}
use Rattle.std.specs.Int.{w32, w64}
use Rattle.std.proofs.Math.Facts.{and_yes, sfits_widen}
use Rattle.integers.proofs.Bounds.{Within, within_nat, within_neg, within_sub, within_mul, within_quot, within_fits, zero_sub, read, read64}

-- ---- the operations of two numbers

pub data Operation : Type 0 where
  minus : Operation
  times : Operation
  over : Operation

abbrev pub apply : Operation → ℤ → ℤ → ℤ
apply minus a b = a -ℤ b
apply times a b = a *ℤ b
apply over a b = quot_z a b

abbrev pub limit : Operation → ℕ → ℕ → ℕ
limit minus m n = m + n
limit times m n = m * n
limit over m n = m

within_apply : (o : Operation) {a b : ℤ} {m n : ℕ} → Within a m → Within b n → Within (apply o a b) (limit o m n)
within_apply minus h k = within_sub h k
within_apply times h k = within_mul h k
within_apply over {b = b} h k = within_quot h b

-- ---- what a formula is

-- a value that it starts from, with the bits that hold it
pub record Leaf : Type 0 where
  pub bits : ℕ
  pub num : ℤ
  pub most : ℕ
  pub stands : to_z w64 bits ≡ num
  pub within : Within num most

pub data Formula : Type 0 where
  leaf : Leaf → Formula
  neg : Formula → Formula
  both : Operation → Formula → Formula → Formula

abbrev pub sub : Formula → Formula → Formula
sub a b = both minus a b

abbrev pub mul : Formula → Formula → Formula
mul a b = both times a b

abbrev pub quot : Formula → Formula → Formula
quot a b = both over a b

abbrev pub value : Formula → ℤ
value (leaf l) = l.num
value (neg a) = neg_ℤ (value a)
value (both o a b) = apply o (value a) (value b)

abbrev pub bits_of : Formula → ℕ
bits_of (leaf l) = l.bits
bits_of (neg a) = of_z w64 (pos 0 -ℤ to_z w64 (bits_of a))
bits_of (both o a b) = of_z w64 (apply o (to_z w64 (bits_of a)) (to_z w64 (bits_of b)))

abbrev pub bound : Formula → ℕ
bound (leaf l) = l.most
bound (neg a) = bound a
bound (both o a b) = limit o (bound a) (bound b)

abbrev pub ok : Formula → Bool
ok (leaf l) = true
ok (neg a) = ok a && ltb (bound a) (2 ^ 63)
ok (both o a b) = (ok a && ok b) && ltb (limit o (bound a) (bound b)) (2 ^ 63)

-- what the last operation asks
abbrev pub Asks : Formula → Type 0
Asks (leaf l) = Unit {0}
Asks (neg a) = SFits w64 (pos 0 -ℤ to_z w64 (bits_of a))
Asks (both o a b) = SFits w64 (apply o (to_z w64 (bits_of a)) (to_z w64 (bits_of b)))

-- ---- the laws

in_bound : (e : Formula) → Within (value e) (bound e)
in_bound (leaf l) = l.within
in_bound (neg a) = within_neg (in_bound a)
in_bound (both o a b) = within_apply o (in_bound a) (in_bound b)

computes : (e : Formula) → T (ok e) → Asks e × (to_z w64 (bits_of e) ≡ value e)
computes (leaf l) t = (tt, l.stands)
computes (neg a) t =
    let u = and_yes (ok a) _ t in
    let r = (computes a u.0).1 in
    let f : SFits w64 (pos 0 -ℤ to_z w64 (bits_of a)) = rw (r, zero_sub (value a)) (within_fits (in_bound (neg a)) u.1) in
    (f, read f ∙ rw (r, zero_sub (value a)))
computes (both o a b) t =
    let u = and_yes (ok a && ok b) _ t in
    let v = and_yes (ok a) (ok b) u.0 in
    let r = (computes a v.0).1 in
    let s = (computes b v.1).1 in
    let f : SFits w64 (apply o (to_z w64 (bits_of a)) (to_z w64 (bits_of b))) = rw (r, s) (within_fits (in_bound (both o a b)) u.1) in
    (f, read f ∙ rw (r, s))

-- the answer to the need of the last operation
pub asks : (e : Formula) → T (ok e) → Asks e
asks e t = (computes e t).0

-- what is read back from the bits is the number
pub reads : (e : Formula) → T (ok e) → to_z w64 (bits_of e) ≡ value e
reads e t = (computes e t).1

pub reads_within : (e : Formula) → T (ok e) → Within (to_z w64 (bits_of e)) (bound e)
reads_within e t = rw (reads e t) (in_bound e)

-- a test of two formulas, `lt_z` or `le_z`, is the test of their numbers
pub tests : (p : ℤ → ℤ → Bool) (a b : Formula) → T (ok a && ok b) → p (value a) (value b) ≡ p (to_z w64 (bits_of a)) (to_z w64 (bits_of b))
tests p a b t = let v = and_yes (ok a) (ok b) t in rw (reads a v.0, reads b v.1)

-- ---- the leaves

-- an `i64`, as a parameter or as a call's result
abbrev pub whole : (z : ℤ) {k : ℕ} → Within z k → T (ltb k (2 ^ 63)) → Formula
whole z {k} h t = leaf (record { bits = of_z w64 z; num = z; most = k; stands = read64 h t; within = h })

-- the answer to the need of a cast of an `i32` to an `i64`
pub widens : {z : ℤ} → SFits w32 z → SFits w64 (to_z w32 (of_z w32 z))
widens f = rw (read f) (sfits_widen tt f)

-- an `i32` that was cast to an `i64`
abbrev pub wide : (z : ℤ) {k : ℕ} → SFits w32 z → Within z k → T (ltb k (2 ^ 63)) → Formula
wide z {k} f h t =
    leaf (record {
      bits = of_z w64 (to_z w32 (of_z w32 z));
      num = z;
      most = k;
      stands = ap (λ (y : ℤ). to_z w64 (of_z w64 y)) (read f) ∙ read64 h t;
      within = h;
    })

-- an unsigned number that was cast to an `i64`
abbrev pub nat : (n : ℕ) {k : ℕ} → n ≤ k → T (ltb k (2 ^ 63)) → Formula
nat n {k} h t = leaf (record { bits = n; num = pos n; most = k; stands = read64 (within_nat h) t; within = within_nat h })

-- a literal that is not negative
abbrev pub literal : (n : ℕ) → T (ltb n (2 ^ 63)) → Formula
literal n t = nat n (le_refl n) t

-- a formula of which a smaller bound is known
abbrev pub tight : (e : Formula) {k : ℕ} → Within (value e) k → T (ok e) → Formula
tight e {k} h t = leaf (record { bits = bits_of e; num = value e; most = k; stands = reads e t; within = h })
