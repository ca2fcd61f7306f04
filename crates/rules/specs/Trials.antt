-- Trials: the report on an opening and its values is the one stated, each list by one statement. First the starred trials of document 01,
-- then the other rows of its table and refusals in its order, then the whole range, then a tolerance that grows with the setting. `Branches`
-- has a trial for each branch of rules 1 to 8.
-- Assumes nothing.
use Rattle.std.specs.Prelude.{ℕ, ◌≡◌, refl, List, [], ◌∷◌, map, ℤ, pos, neg_ℤ}
use Rattle.rules.specs.declared.Opening.{Opening}
use Rattle.rules.specs.declared.Report.{Report}
use Rattle.rules.specs.declared.Report.TheVariants.{Next, Stop, Refused}
use Rattle.rules.specs.Rules.{method_of, tolerance_at, start_of, stopped_of, forward_of, displacement_of, linear_of, cross_of, rational_of}
use Rattle.rules.specs.Rules.{doubled_of, opposed, partner_of, streak_of, renewed_of, advance_of, step_of, reach_of, offset_of, next_of}
use Rattle.rules.specs.Refusals.{opening_refusal, answer_refusal, same_side}
use Rattle.rules.specs.Search.{begin_of, offer_of, take_of, progress_of, bracket_report, report_at, report_of}

pub record Trial : Type 0 where
  pub opening : Opening
  pub values : List ℤ
  pub report : Report

-- method, x0, x1, τ and p, the values and the report
abbrev pub trial_with_share : (method first second tolerance share : ℤ) → List ℤ → Report → Trial
trial_with_share method first second tolerance share vs r =
    record {
      opening = record { method = method; first = first; second = second; tolerance = tolerance; share = share };
      values = vs;
      report = r;
    }

-- with p = 0
abbrev pub trial : (method first second tolerance : ℤ) → List ℤ → Report → Trial
trial method first second tolerance vs r = trial_with_share method first second tolerance (pos 0) vs r

abbrev pub minus : ℕ → ℤ
minus n = neg_ℤ (pos n)

-- what the search over the values reports. Where this is unfolded, so is every definition that it computes with
unfoldable pub reported : Trial → Report
unfolding method_of tolerance_at start_of stopped_of forward_of displacement_of linear_of cross_of rational_of doubled_of opposed partner_of
    streak_of renewed_of advance_of step_of reach_of offset_of next_of opening_refusal answer_refusal same_side begin_of offer_of take_of progress_of
    bracket_report report_at report_of
reported t = report_of t.opening t.values

-- each trial's report is the one stated
abbrev pub AllHold : List Trial → Type 0
AllHold ts = map reported ts ≡ map (λ (t : Trial). t.report) ts

-- ---- the starred trials

abbrev pub starred : List Trial
starred =
    trial (pos 1) (pos 0) (pos 100) (pos 1) (minus 50 ∷ pos 100 ∷ []) (Next 33 2)
    ∷ trial (pos 1) (pos 0) (pos 100) (pos 1) (minus 50 ∷ pos 100 ∷ minus 10 ∷ []) (Next 41 3)
    ∷ trial (pos 1) (pos 0) (pos 100) (pos 1) (minus 50 ∷ pos 100 ∷ minus 10 ∷ minus 2 ∷ []) (Next 43 4)
    ∷ trial (pos 1) (pos 0) (pos 100) (pos 1) (minus 50 ∷ pos 100 ∷ minus 10 ∷ minus 2 ∷ pos 1 ∷ []) (Stop 41 43 43 5)
    ∷ trial (pos 1) (pos 0) (pos 100) (pos 1) (minus 50 ∷ pos 100 ∷ minus 10 ∷ minus 2 ∷ minus 1 ∷ []) (Next 71 5)
    ∷ trial (pos 1) (pos 0) (pos 100) (pos 1) (minus 50 ∷ pos 100 ∷ minus 50 ∷ []) (Next 66 3)
    ∷ trial (pos 1) (pos 0) (pos 100) (pos 1) (pos 0 ∷ pos 5 ∷ minus 3 ∷ []) (Next 50 3)
    ∷ trial (pos 2) (pos 0) (pos 100) (pos 1) (minus 50 ∷ pos 100 ∷ minus 10 ∷ []) (Next 40 3)
    ∷ trial (pos 2) (pos 0) (pos 100) (pos 1) (minus 50 ∷ pos 100 ∷ minus 10 ∷ minus 5 ∷ minus 1 ∷ []) (Next 53 5)
    ∷ trial (pos 2) (pos 0) (pos 100) (pos 1) (minus 50 ∷ pos 100 ∷ minus 10 ∷ minus 5 ∷ minus 1 ∷ minus 1 ∷ []) (Next 76 6)
    ∷ trial (pos 1) (pos 0) (pos 3) (pos 1) (minus 1 ∷ pos 1 ∷ []) (Next 2 2)
    ∷ trial (pos 1) (pos 0) (pos 2) (pos 1) (minus 1 ∷ pos 1 ∷ []) (Stop 0 2 2 2)
    ∷ []

pub starred_hold : AllHold starred
unfolding reported
starred_hold = refl

-- ---- further trials

abbrev pub further : List Trial
further =
    -- method 0 is R since request 2026-08: M would call for 41, as the second starred trial does
    trial (pos 0) (pos 0) (pos 100) (pos 1) (minus 50 ∷ pos 100 ∷ minus 10 ∷ []) (Next 40 3)
    -- no answer, and one
    ∷ trial (pos 1) (pos 30) (pos 10) (pos 1) [] (Next 30 0)
    ∷ trial (pos 1) (pos 30) (pos 10) (pos 1) (minus 7 ∷ []) (Next 10 1)
    -- the opening: the first refusal in the table's order, and the limits themselves
    ∷ trial (pos 3) (pos 5) (pos 5) (pos 0) [] (Refused 1 0)
    ∷ trial (minus 1) (pos 0) (pos 100) (pos 1) [] (Refused 1 0)
    ∷ trial (pos 0) (minus 1) (minus 1) (pos 0) [] (Refused 2 0)
    ∷ trial (pos 1) (minus 1) (pos 5) (pos 1) [] (Refused 2 0)
    ∷ trial (pos 0) (pos 5) (pos 5) (pos 0) [] (Refused 3 0)
    ∷ trial (pos 1) (pos 0) (pos 100) (pos 5000) [] (Next 0 0)
    ∷ trial (pos 1) (pos 0) (pos 100) (pos 5001) [] (Refused 4 0)
    ∷ trial (pos 1) (pos 0) (pos 100) (pos 0) [] (Refused 4 0)
    -- the values: 5 before 7, and 7 before 8
    ∷ trial (pos 1) (pos 0) (pos 100) (pos 1) (minus 10000 ∷ []) (Next 100 1)
    ∷ trial (pos 1) (pos 0) (pos 100) (pos 1) (minus 10001 ∷ []) (Refused 7 0)
    ∷ trial (pos 1) (pos 0) (pos 100) (pos 1) (pos 5 ∷ pos 10001 ∷ []) (Refused 7 1)
    ∷ trial (pos 1) (pos 0) (pos 100) (pos 1) (pos 5 ∷ pos 7 ∷ []) (Refused 8 1)
    ∷ trial (pos 1) (pos 0) (pos 100) (pos 1) (minus 5 ∷ minus 7 ∷ []) (Refused 8 1)
    ∷ trial (pos 1) (pos 0) (pos 100) (pos 1) (pos 0 ∷ pos 7 ∷ []) (Next 1 2)
    ∷ trial (pos 1) (pos 0) (pos 100) (pos 1) (pos 7 ∷ pos 0 ∷ []) (Next 99 2)
    ∷ trial (pos 1) (pos 0) (pos 2) (pos 1) (minus 1 ∷ pos 1 ∷ pos 5 ∷ []) (Refused 5 2)
    ∷ trial (pos 1) (pos 0) (pos 2) (pos 1) (minus 1 ∷ pos 1 ∷ pos 10001 ∷ []) (Refused 5 2)
    -- once refused, refused: the values after it are not looked at
    ∷ trial (pos 1) (pos 0) (pos 100) (pos 1) (pos 5 ∷ pos 7 ∷ minus 10001 ∷ []) (Refused 8 1)
    ∷ []

pub further_hold : AllHold further
unfolding reported
further_hold = refl

-- ---- the whole range, 0 to 60,000 since request 2026-06

abbrev pub wide : List Trial
wide =
    -- these two stand for document 01's trials of an end, 20,000 taken and 20,001 refused
    trial (pos 1) (pos 0) (pos 60000) (pos 1) [] (Next 0 0)
    ∷ trial (pos 1) (pos 0) (pos 60001) (pos 1) [] (Refused 2 0)
    ∷ trial (pos 1) (pos 60001) (pos 0) (pos 1) [] (Refused 2 0)
    -- the old border, on both sides
    ∷ trial (pos 1) (pos 0) (pos 20000) (pos 1) [] (Next 0 0)
    ∷ trial (pos 1) (pos 0) (pos 20001) (pos 1) [] (Next 0 0)
    ∷ trial (pos 1) (pos 20001) (pos 0) (pos 1) [] (Next 20001 0)
    -- a stop at the upper end, and the largest tolerance
    ∷ trial (pos 1) (pos 59998) (pos 60000) (pos 1) (minus 1 ∷ pos 1 ∷ []) (Stop 59998 60000 60000 2)
    ∷ trial (pos 2) (pos 60000) (pos 0) (pos 5000) (minus 10000 ∷ pos 10000 ∷ []) (Next 30000 2)
    -- linear: b = 0 and a = 59,994, with −9,999 and 10,000: u = 599,880,006/19,999
    ∷ trial (pos 1) (pos 60000) (pos 0) (pos 1) (pos 1 ∷ minus 9999 ∷ pos 10000 ∷ []) (Next 29995 3)
    -- rational, at s = 2: u = 59,979,002,433,223,335/5,998,566,766,665
    ∷ trial (pos 1) (pos 60000) (pos 0) (pos 1) (pos 1 ∷ minus 9999 ∷ pos 10000 ∷ minus 3333 ∷ []) (Next 39993 4)
    -- u = 89,959,505,899,695,005/5,998,450,154,995
    ∷ trial (pos 1) (pos 0) (pos 60000) (pos 1) (minus 9999 ∷ pos 1 ∷ pos 10000 ∷ minus 4999 ∷ []) (Next 44992 4)
    -- rational by R: u = 359,892,010,799,640,000/5,998,200,060,000 is more than L/2 = 29,997
    ∷ trial (pos 2) (pos 0) (pos 60000) (pos 1) (minus 1 ∷ pos 9999 ∷ minus 10000 ∷ []) (Next 30003 3)
    -- doubled: 2u = 124,093,824,145,920/22,556,450,256
    ∷ trial (pos 2) (pos 60000) (pos 0) (pos 1) (minus 7721 ∷ pos 4218 ∷ pos 2198 ∷ pos 946 ∷ pos 162 ∷ []) (Next 52858 5)
    -- 2u = 718,333,070,233,087,584/5,990,901,019,952 is more than L/2 = 29,960
    ∷ trial (pos 2) (pos 0) (pos 60000) (pos 1) (minus 5 ∷ pos 9999 ∷ minus 2 ∷ minus 1 ∷ minus 10000 ∷ []) (Next 30040 5)
    ∷ []

pub wide_hold : AllHold wide
unfolding reported
wide_hold = refl

-- ---- a tolerance that grows with the setting, since request 2026-07

abbrev pub shares : List Trial
shares =
    -- at b = 21,000 the tolerance is 25 + 42 = 67. L = 134: stopped, with b the lower end, and the upper. At c and in the middle of
    -- the second it is 66
    trial_with_share (pos 1) (pos 21000) (pos 21134) (pos 25) (pos 2) (pos 1 ∷ minus 2 ∷ []) (Stop 21000 21134 21000 2)
    ∷ trial_with_share (pos 1) (pos 20866) (pos 21000) (pos 25) (pos 2) (minus 2 ∷ pos 1 ∷ []) (Stop 20866 21000 21000 2)
    -- L = 135: not yet. u = 45, so D is the tolerance, 67
    ∷ trial_with_share (pos 1) (pos 21000) (pos 21135) (pos 25) (pos 2) (pos 1 ∷ minus 2 ∷ []) (Next 21067 2)
    ∷ trial_with_share (pos 1) (pos 20865) (pos 21000) (pos 25) (pos 2) (minus 2 ∷ pos 1 ∷ []) (Next 20933 2)
    -- the whole part of p × b / 1,000 with p = 1: 0 at 999, 1 at 1,000
    ∷ trial_with_share (pos 1) (pos 999) (pos 1002) (pos 1) (pos 1) (pos 1 ∷ minus 2 ∷ []) (Next 1000 2)
    ∷ trial_with_share (pos 1) (pos 1000) (pos 1004) (pos 1) (pos 1) (pos 1 ∷ minus 2 ∷ []) (Stop 1000 1004 1000 2)
    ∷ trial_with_share (pos 1) (pos 1000) (pos 1005) (pos 1) (pos 1) (pos 1 ∷ minus 2 ∷ []) (Next 1002 2)
    -- nothing is added at b = 0; the largest, at 60,000, is 5,000 + 6,000
    ∷ trial_with_share (pos 1) (pos 0) (pos 3) (pos 1) (pos 100) (pos 1 ∷ minus 2 ∷ []) (Next 1 2)
    ∷ trial_with_share (pos 1) (pos 60000) (pos 38000) (pos 5000) (pos 100) (pos 1 ∷ minus 2 ∷ []) (Stop 38000 60000 60000 2)
    ∷ trial_with_share (pos 1) (pos 60000) (pos 37999) (pos 5000) (pos 100) (pos 1 ∷ minus 2 ∷ []) (Next 49000 2)
    -- b on target: D is 10 + 20 from 2,000, and 10 + 40 from 4,000; by R too
    ∷ trial_with_share (pos 1) (pos 2000) (pos 4000) (pos 10) (pos 10) (pos 0 ∷ pos 5 ∷ []) (Next 2030 2)
    ∷ trial_with_share (pos 2) (pos 4000) (pos 2000) (pos 10) (pos 10) (pos 0 ∷ pos 5 ∷ []) (Next 3950 2)
    -- p × b first, then the whole part: at 21,789 it is 25 + 43 = 68. L = 136: stopped
    ∷ trial_with_share (pos 1) (pos 21653) (pos 21789) (pos 25) (pos 2) (minus 5 ∷ pos 1 ∷ []) (Stop 21653 21789 21789 2)
    -- a rational step, u = 62 and a part, from b = 21,727: D is 68; then the stop
    ∷ trial_with_share (pos 2) (pos 18000) (pos 26000) (pos 25) (pos 2) (pos 690 ∷ minus 169 ∷ minus 134 ∷ pos 41 ∷ pos 5 ∷ []) (Next 21795 5)
    ∷ trial_with_share (pos 2) (pos 18000) (pos 26000) (pos 25) (pos 2) (pos 690 ∷ minus 169 ∷ minus 134 ∷ pos 41 ∷ pos 5 ∷ minus 1 ∷ [])
    (Stop 21727 21795 21795 6)
    -- 17 comes after 4, and the limits of p are taken
    ∷ trial_with_share (pos 1) (pos 0) (pos 100) (pos 0) (pos 101) [] (Refused 4 0)
    ∷ trial_with_share (pos 1) (pos 0) (pos 100) (pos 1) (pos 101) [] (Refused 17 0)
    ∷ trial_with_share (pos 1) (pos 0) (pos 100) (pos 1) (minus 1) [] (Refused 17 0)
    ∷ trial_with_share (pos 1) (pos 0) (pos 100) (pos 1) (pos 100) [] (Next 0 0)
    ∷ []

pub shares_hold : AllHold shares
unfolding reported
shares_hold = refl
