-- A trial for each branch of rules 1 to 8, worked by hand: with that branch changed, the report is another. The statement is that of
-- `Trials`, and the tolerance is 1 where none is named.
-- Where two branches meet, at u = τ and at u = L/2, both give the same D, so that no trial tells them apart.
-- Assumes nothing.
use Rattle.std.specs.Prelude.{ℕ, refl, List, [], ◌∷◌, ℤ, pos}
use Rattle.rules.specs.declared.Report.{Report}
use Rattle.rules.specs.declared.Report.TheVariants.{Next, Stop}
use Rattle.rules.specs.Trials.{Trial, trial, minus, reported, AllHold}

-- the ends and the values, at tolerance 1
abbrev by_m : (x0 x1 : ℕ) → List ℤ → Report → Trial
by_m x0 x1 vs r = trial (pos 1) (pos x0) (pos x1) (pos 1) vs r

abbrev by_r : (x0 x1 : ℕ) → List ℤ → Report → Trial
by_r x0 x1 vs r = trial (pos 2) (pos x0) (pos x1) (pos 1) vs r

-- at tolerance 10
abbrev within10 : (x0 x1 : ℕ) → List ℤ → Report → Trial
within10 x0 x1 vs r = trial (pos 1) (pos x0) (pos x1) (pos 10) vs r

-- ---- Rule 1: the better end, with x0 below x1 and above

abbrev pub rule1 : List Trial
rule1 =
    -- |F(x1)| < |F(x0)|: b is x1, and D = 33 of u = 100/3
    by_m 0 100 (pos 2 ∷ minus 1 ∷ []) (Next 67 2)
    ∷ by_m 100 0 (pos 2 ∷ minus 1 ∷ []) (Next 33 2)
    -- |F(x1)| = |F(x0)|: b is x1, and D = 50 of u = 101/2
    ∷ by_m 0 101 (pos 1 ∷ minus 1 ∷ []) (Next 51 2)
    ∷ by_m 101 0 (pos 1 ∷ minus 1 ∷ []) (Next 50 2)
    -- |F(x1)| > |F(x0)|: b is x0
    ∷ by_m 0 100 (pos 1 ∷ minus 2 ∷ []) (Next 33 2)
    ∷ by_m 100 0 (pos 1 ∷ minus 2 ∷ []) (Next 67 2)
    ∷ []

pub rule1_holds : AllHold rule1
unfolding reported
rule1_holds = refl

-- ---- Rule 2: the stop

abbrev pub rule2 : List Trial
rule2 =
    -- L = 20 = 2τ: stopped, whichever end is the better
    within10 0 20 (pos 1 ∷ minus 1 ∷ []) (Stop 0 20 20 2)
    ∷ within10 0 20 (pos 1 ∷ minus 2 ∷ []) (Stop 0 20 0 2)
    ∷ within10 20 0 (pos 1 ∷ minus 1 ∷ []) (Stop 0 20 0 2)
    -- L = 21 = 2τ + 1: not yet. b = 21, and D = 10 of u = 21/2
    ∷ within10 0 21 (pos 1 ∷ minus 1 ∷ []) (Next 11 2)
    ∷ []

pub rule2_holds : AllHold rule2
unfolding reported
rule2_holds = refl

-- ---- Rule 3: the displacement, with c above b and then below

abbrev pub rule3 : List Trial
rule3 =
    -- u < 0: D = L/2. At 1 the value is −1, so b = 1, a = 0 and c = 100: the estimate is 0, u = −1, L = 99 and D = 49
    by_m 0 100 (pos 0 ∷ pos 1 ∷ minus 1 ∷ []) (Next 50 3)
    ∷ by_m 100 0 (pos 0 ∷ pos 1 ∷ minus 1 ∷ []) (Next 50 3)
    -- u = 0: D = τ
    ∷ by_m 0 100 (pos 0 ∷ pos 1 ∷ []) (Next 1 2)
    ∷ by_m 100 0 (pos 0 ∷ pos 1 ∷ []) (Next 99 2)
    -- 0 < u < τ: u = 100/20 = 5 and D = 10
    ∷ within10 0 100 (pos 1 ∷ minus 19 ∷ []) (Next 10 2)
    ∷ within10 100 0 (pos 1 ∷ minus 19 ∷ []) (Next 90 2)
    -- u = τ: u = 100/10 and D = 10
    ∷ within10 0 100 (pos 1 ∷ minus 9 ∷ []) (Next 10 2)
    ∷ within10 100 0 (pos 1 ∷ minus 9 ∷ []) (Next 90 2)
    -- just above τ: u = 200/19, rounded down to 10; and u = 100/9, rounded down to 11
    ∷ within10 0 100 (pos 2 ∷ minus 17 ∷ []) (Next 10 2)
    ∷ within10 100 0 (pos 2 ∷ minus 17 ∷ []) (Next 90 2)
    ∷ within10 0 100 (pos 1 ∷ minus 8 ∷ []) (Next 11 2)
    ∷ within10 100 0 (pos 1 ∷ minus 8 ∷ []) (Next 89 2)
    -- a whole u: u = 60/3 and D = 20
    ∷ by_m 0 60 (pos 1 ∷ minus 2 ∷ []) (Next 20 2)
    ∷ by_m 60 0 (pos 1 ∷ minus 2 ∷ []) (Next 40 2)
    -- u = L/2, with L = 100; with L = 101 it stands under rule 1
    ∷ by_m 100 0 (pos 1 ∷ minus 1 ∷ []) (Next 50 2)
    ∷ by_m 0 100 (pos 1 ∷ minus 1 ∷ []) (Next 50 2)
    -- just above L/2: at 5 the value is −2, so b = 5 and L = 5: u = 2 · 5/3 = 10/3, which would give 3, and D = 2
    ∷ by_m 10 0 (pos 5 ∷ minus 5 ∷ minus 2 ∷ []) (Next 7 3)
    ∷ by_m 0 10 (pos 5 ∷ minus 5 ∷ minus 2 ∷ []) (Next 3 3)
    -- far above L/2: at 50 the value is −1, so b = 50 and L = 50: u = 50 and D = 25
    ∷ by_m 100 0 (pos 2 ∷ minus 2 ∷ minus 1 ∷ []) (Next 75 3)
    ∷ by_m 0 100 (pos 2 ∷ minus 2 ∷ minus 1 ∷ []) (Next 25 3)
    ∷ []

pub rule3_holds : AllHold rule3
unfolding reported
rule3_holds = refl

-- ---- Rule 4: the special cases of the linear estimate, with c below b and above

abbrev pub rule4 : List Trial
rule4 =
    -- F(b) = F(a) = 0: u is 0, so D = τ
    by_m 0 100 (pos 0 ∷ pos 0 ∷ []) (Next 99 2)
    ∷ by_m 100 0 (pos 0 ∷ pos 0 ∷ []) (Next 1 2)
    -- F(b) = F(a) = −1, at 50 and at the end where the value is −1 too: D = L/2 = 25
    ∷ by_m 0 100 (pos 1 ∷ minus 1 ∷ minus 1 ∷ []) (Next 25 3)
    ∷ by_m 100 0 (pos 1 ∷ minus 1 ∷ minus 1 ∷ []) (Next 75 3)
    ∷ []

pub rule4_holds : AllHold rule4
unfolding reported
rule4_holds = refl

-- ---- Rule 5: the special cases of the rational estimate, with c above b and below

abbrev pub rule5 : List Trial
rule5 =
    -- Q = S = 0: F(b) = F(a) = 0, so u is 0 and D = τ, from b = 1 and from b = 99
    by_r 0 100 (pos 0 ∷ pos 1 ∷ pos 0 ∷ []) (Next 2 3)
    ∷ by_r 100 0 (pos 0 ∷ pos 1 ∷ pos 0 ∷ []) (Next 98 3)
    -- only Q = 0: b = 20, a = 0 and d = 60, with values 2, 1 and −2. S = 2 · 3 · (−40) = −240 and Q = S − 1 · 4 · (−60) = 0: D = L/2 = 20
    ∷ by_r 0 60 (pos 1 ∷ minus 2 ∷ pos 2 ∷ []) (Next 40 3)
    ∷ by_r 60 0 (pos 1 ∷ minus 2 ∷ pos 2 ∷ []) (Next 20 3)
    ∷ []

pub rule5_holds : AllHold rule5
unfolding reported
rule5_holds = refl

-- ---- Rule 6: the new bracket

-- the partner
abbrev pub partners : List Trial
partners =
    -- the point just before, by a negative product. It is b: after 1 at 0 and −1 at 100, 1 at 50 makes the bracket 50 to 100
    by_m 0 100 (pos 1 ∷ minus 1 ∷ pos 1 ∷ []) (Next 75 3)
    -- it is c: after 0 at 0 and 1 at 100, −1 at 1 makes the bracket 1 to 100
    ∷ by_m 0 100 (pos 0 ∷ pos 1 ∷ minus 1 ∷ []) (Next 50 3)
    -- by a product of zero, x having the zero. It is b: the bracket is 50 to 100, and the point 50 + τ
    ∷ by_m 0 100 (pos 1 ∷ minus 1 ∷ pos 0 ∷ []) (Next 51 3)
    -- it is c: the bracket is 1 to 100
    ∷ by_m 0 100 (pos 0 ∷ pos 1 ∷ pos 0 ∷ []) (Next 2 3)
    -- the point just before having the zero, and both having one
    ∷ by_m 0 100 (pos 0 ∷ pos 0 ∷ pos 1 ∷ []) (Stop 99 100 100 3)
    ∷ by_m 0 100 (pos 0 ∷ pos 0 ∷ pos 0 ∷ []) (Stop 99 100 99 3)
    -- the other end, by a positive product. The point just before is b: −1 at 50 makes the bracket 0 to 50
    ∷ by_m 0 100 (pos 1 ∷ minus 1 ∷ minus 1 ∷ []) (Next 25 3)
    -- it is c: 1 at 1 makes the bracket 0 to 1
    ∷ by_m 0 100 (pos 0 ∷ pos 1 ∷ pos 1 ∷ []) (Stop 0 1 0 3)
    ∷ []

pub partners_hold : AllHold partners
unfolding reported
partners_hold = refl

-- the new b with a
abbrev pub betters : List Trial
betters =
    -- x is closer: b = 28 with 1, and a is the old b, 0 with 2. u = 1 · 28/1
    by_m 0 100 (pos 2 ∷ minus 5 ∷ pos 1 ∷ []) (Next 56 3)
    -- x is as close: b = 99
    ∷ by_m 0 100 (pos 0 ∷ pos 0 ∷ pos 0 ∷ []) (Stop 99 100 99 3)
    -- the partner is closer: b = 100 with 1, and a = c = x, 1 with −2. u = 1 · 99/3
    ∷ by_m 0 100 (pos 0 ∷ pos 1 ∷ minus 2 ∷ []) (Next 67 3)
    ∷ []

pub betters_hold : AllHold betters
unfolding reported
betters_hold = refl

-- the new d, seen by R
abbrev pub thirds : List Trial
thirds =
    -- the new b is x: d is the old a, 0 with 1. b = 60 with −1 and a = 20 with 2: S = −1 · 1 · 60 and Q = S − 2 · (−2) · 20 = 20, so
    -- u = −120 and D = L/2 = 20. With the old b, 20, for d, Q = S = 0 and D = τ
    by_r 0 100 (pos 1 ∷ minus 4 ∷ pos 2 ∷ minus 1 ∷ []) (Next 40 4)
    -- the new b is the old b: d is the old a, 0 with 1. b = 100 with −1 and a = 50 with 2: S = −1 · 1 · 100 and
    -- Q = S − 2 · (−2) · 50 = 100, so u = −50 and D = L/2 = 25. With b for d, Q = S = 0
    ∷ by_r 0 100 (pos 1 ∷ minus 1 ∷ pos 2 ∷ []) (Next 75 3)
    -- the new b is the old c: d is the old b, 0 with 0. b = 100 with 1 and a = 1 with −2: S = 1 · (−2) · 100 and
    -- Q = S − (−2) · 1 · 1 = −198, so u = 100 and D = L/2 = 49. With the old a, 100, for d, Q = S = 0
    ∷ by_r 0 100 (pos 0 ∷ pos 1 ∷ minus 2 ∷ []) (Next 51 3)
    ∷ []

pub thirds_hold : AllHold thirds
unfolding reported
thirds_hold = refl

-- ---- Rule 7: a halving step starts s anew, seen by M, which is linear at 0 and 1 and rational at 2

abbrev pub rule7 : List Trial
rule7 =
    -- L = 67, and the smaller part of 33: s = 0. b = 67 with −1 and a = 34 with 2: u = 33/3
    by_m 100 0 (minus 1 ∷ pos 2 ∷ minus 1 ∷ pos 2 ∷ []) (Next 56 4)
    -- L = 67, and the larger part of 34: s = 0. F(b) = F(a) = −1, so D = L/2 = 17; at s = 2, Q = S = 0 and D = τ
    ∷ by_m 0 100 (pos 2 ∷ minus 1 ∷ minus 1 ∷ minus 1 ∷ []) (Next 17 4)
    -- L = 50, and a part of 25: s = 0. u = 25/2 and D = 12
    ∷ by_m 0 100 (pos 1 ∷ minus 1 ∷ minus 1 ∷ pos 1 ∷ []) (Next 37 4)
    -- L = 67, and a part of 19: s = 0. b = 81 with 1 and a = 100 with −2: u = 19/3
    ∷ by_m 100 0 (minus 2 ∷ pos 1 ∷ pos 5 ∷ pos 1 ∷ []) (Next 87 4)
    -- L = 17, and a part of 10, one too wide: s = 2. b = 79, a = 72 and d = 89, with 1, 3 and −4: S = 1 · 7 · (−10) = −70 and
    -- Q = S − 3 · 5 · (−17) = 185, so u = 490/185 and D = 2; the linear u is 7/2
    ∷ by_m 100 0 (minus 2 ∷ pos 5 ∷ pos 3 ∷ minus 4 ∷ pos 1 ∷ []) (Next 81 5)
    -- L = 6, and a part of 4, one too wide: s = 2. b = 97, a = 93 and d = 91, with 3, −4 and −2: S = 3 · (−2) · 6 = −36 and
    -- Q = S − (−4) · 5 · 2 = 4, so u = −36 and D = L/2 = 2; the linear u is 12/7
    ∷ by_m 0 100 (minus 10 ∷ pos 1 ∷ minus 2 ∷ pos 3 ∷ minus 4 ∷ []) (Next 95 5)
    -- L = 67, and a part of 45: s = 2. b = 33, a = 78 and d = 100, with −4, 5 and 2: S = −4 · 3 · (−67) = 804 and
    -- Q = S − 5 · (−6) · (−22) = 144, so u = 804 · 45/144 and D = L/2 = 22; the linear u is 4 · 45/9 = 20
    ∷ by_m 100 0 (pos 2 ∷ minus 1 ∷ minus 4 ∷ pos 5 ∷ []) (Next 55 4)
    ∷ []

pub rule7_holds : AllHold rule7
unfolding reported
rule7_holds = refl

-- ---- Rule 8: each s

abbrev pub rule8_m : List Trial
rule8_m =
    -- s = 0: linear, u = 100/3
    by_m 0 100 (pos 1 ∷ minus 2 ∷ []) (Next 33 2)
    -- s = 1: linear, b = 100 with 1 and a = 1 with −2: u = 99/3
    ∷ by_m 0 100 (pos 0 ∷ pos 1 ∷ minus 2 ∷ []) (Next 67 3)
    -- s = 2: rational, b = 61, a = 100 and d = c = 1, with 1, 2 and −3: S = 1 · 5 · 60 = 300 and Q = S − 2 · 4 · 99 = −492, so
    -- u = 11700/492 and D = 23; the linear u is 39
    ∷ by_m 0 100 (pos 0 ∷ pos 2 ∷ minus 3 ∷ pos 1 ∷ []) (Next 38 4)
    -- s = 3: D = L/2, b = 92 and c = 40; the linear u is 5
    ∷ by_m 0 100 (pos 2 ∷ minus 3 ∷ pos 50 ∷ minus 2 ∷ minus 1 ∷ []) (Next 66 5)
    ∷ []

pub rule8_m_holds : AllHold rule8_m
unfolding reported
rule8_m_holds = refl

abbrev pub rule8_r : List Trial
rule8_r =
    -- the first step: linear, u = 100/3
    by_r 0 100 (pos 1 ∷ minus 2 ∷ []) (Next 33 2)
    -- s = 0: rational, b = 0, a = c = 16 and d = 100, with 1, −2 and −5: S = 1 · 3 · (−100) = −300 and Q = S − (−2) · 6 · (−84) = −1308,
    -- so u = 4800/1308 and D = 3; the linear u is 16/3
    ∷ by_r 0 100 (pos 1 ∷ minus 5 ∷ minus 2 ∷ []) (Next 3 3)
    -- s = 1: rational, b = 28, a = 0 and d = c = 100, with 1, 2 and −5: S = 1 · 7 · (−72) = −504 and Q = S − 2 · 6 · (−100) = 696, so
    -- u = 504 · 28/696 and D = 20; the linear u is 28
    ∷ by_r 0 100 (pos 2 ∷ minus 5 ∷ pos 1 ∷ []) (Next 48 3)
    -- s = 2: rational, b = 49, a = 33 and d = 0, with 1, 2 and 5: S = 1 · (−3) · 49 = −147 and Q = S − 2 · (−4) · 33 = 117, so
    -- u = 147 · 16/117 and D = 20; the linear u is 16
    ∷ by_r 0 100 (pos 5 ∷ minus 10 ∷ pos 2 ∷ pos 1 ∷ []) (Next 69 4)
    -- s = 3: rational and doubled, b = 24, a = 21 and d = 16, with 1, 2 and 5: S = 1 · (−3) · 8 = −24 and Q = S − 2 · (−4) · 5 = 16, so
    -- u = 24 · 3/16 = 9/2, and doubled 9
    ∷ by_r 0 100 (pos 20 ∷ minus 100 ∷ pos 5 ∷ pos 2 ∷ pos 1 ∷ []) (Next 33 5)
    -- s = 4: D = L/2, b = 5 and c = 100; the linear u is 1
    ∷ by_r 0 100 (pos 20 ∷ minus 800 ∷ pos 10 ∷ pos 6 ∷ pos 2 ∷ pos 1 ∷ []) (Next 52 6)
    ∷ []

pub rule8_r_holds : AllHold rule8_r
unfolding reported
rule8_r_holds = refl
