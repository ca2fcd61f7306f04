-- `steps::reach` meets its contract: each arm takes its estimate and its displacement as the definition does.
-- Assumes nothing.
use Rattle.std.proofs.Common.{refl}
use Rattle.rules.specs.Rules.{reach_of}
use Rattle.steps.proofs.reach.Goals as goal

pub returns-in-Linear : goal.returns-in-Linear
unfolding reach_of
returns-in-Linear c = rw (c.in-Linear.is, c.displacement.ensures, c.linear.ensures.value, c.width-length.ensures) refl

pub returns-in-Rational : goal.returns-in-Rational
unfolding reach_of
returns-in-Rational c = rw (c.in-Rational.is, c.displacement-in-Rational.ensures, c.rational.ensures.value, c.width-length.ensures) refl

pub returns-in-Doubled : goal.returns-in-Doubled
unfolding reach_of
returns-in-Doubled c =
    rw (c.in-Doubled.is, c.displacement-in-Doubled.ensures, c.doubled.ensures.value, c.rational-u.ensures.value, c.width-length.ensures) refl

pub returns-in-Bisection : goal.returns-in-Bisection
unfolding reach_of
returns-in-Bisection c = rw (c.in-Bisection.is, c.width-length.ensures) refl
