-- `search::quote` meets its contract: t and the most answers of an accepted opening are the definition's, and small enough that every
-- sum and product fits.
-- Assumes nothing.
use Rattle.std.proofs.Common.{◌≡◌, ap, ap₂, ◌∙◌, ◌+◌, ◌*◌, ◌≤◌, FitsSigned, w32, arith, rules}
use Rattle.std.proofs.Math.IntN.{nat_abs}
use Rattle.std.proofs.lemmas.Bool.{ne_eqb}
use Rattle.integers.proofs.Bounds.{read}
use Rattle.rules.specs.Rules.{slots, method_of, allowed}
use Rattle.rules.proofs.RefusalsLaws.{Opened, opened, none_is, some_is, some_above}
use Rattle.rules.specs.Search.{distance_of, turns_of, t_of, quote_of}
use Rattle.search.proofs.Laws.{quote_fits, quote_is}
use Rattle.search.proofs.quote.Goals.{After-unsigned_abs-3, After-allowed_streak}
use Rattle.search.proofs.quote.Goals as goal

pub returns-in-Some : goal.returns-in-Some
unfolding quote_of
returns-in-Some c =
    let e = c.in-Some.ensures in
    rw (← some_is _ _ e) (simp (ne_eqb c.in-Some.number 0 (some_above _ _ e)))

-- ---- the numbers, as the definition has them

fits : (c : After-unsigned_abs-3) → Opened c.args.o
fits c = opened c.args.o (record { accepted = none_is _ c.in_default.ensures })

distance_is : (c : After-unsigned_abs-3) → c.abs_diff-distance.result ≡ distance_of c.args.o
distance_is c =
    let f : FitsSigned w32 c.args.o.first = search rules in
    let g : FitsSigned w32 c.args.o.second = search rules in
    c.abs_diff-distance.ensures ∙ rw (c.unsigned_abs.ensures.value, c.unsigned_abs-2.ensures.value, read f, read g)

tolerance_is : (c : After-unsigned_abs-3) → c.unsigned_abs-3.result ≡ nat_abs c.args.o.tolerance
tolerance_is c =
    let f : FitsSigned w32 c.args.o.tolerance = search rules in
    c.unsigned_abs-3.ensures.value ∙ rw (read f)

pub turns-t-requires : goal.turns-t-requires
turns-t-requires c =
    let op = fits c in
    rw (tolerance_is c, distance_is c) (op.tolerance.least, omega (arith, op.tolerance.most), omega (arith, op.apart))

streak_is : (c : After-allowed_streak) → c.allowed_streak.result ≡ allowed (method_of c.args.o)
streak_is c = c.allowed_streak.ensures ∙ ap allowed c.method_of.ensures

t_is : (c : After-allowed_streak) → c.turns-t.result ≡ t_of c.args.o
t_is c =
    let p = (goal.at.overflow_mul-result c).After-unsigned_abs-3 in
    c.turns-t.ensures ∙ ap₂ turns_of (tolerance_is p) (distance_is p)

most_fits : (c : After-allowed_streak) → 2 + (c.allowed_streak.result + 1) * c.turns-t.result ≤ slots
most_fits c = quote_fits c.args.o _ _ (streak_is c) (t_is c) (fits (goal.at.overflow_mul-result c).After-unsigned_abs-3)

pub overflow_mul-result : goal.overflow_mul-result
overflow_mul-result c = omega (arith, most_fits c)

pub overflow_add-result-2 : goal.overflow_add-result-2
overflow_add-result-2 c = omega (arith, most_fits c)

pub returns : goal.returns
returns c = quote_is c.args.o _ _ (streak_is c) (t_is c) (none_is _ c.in_default.ensures)
