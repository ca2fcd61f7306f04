-- A call written down in lists, by its kind.
-- Assumes nothing.
use Rattle.std.specs.Prelude.{ℕ, ◌≡◌}
use Rattle.std.proofs.Common.{eq-eqb, ne_eqb}
use Rattle.rules.specs.declared.Opening.{Opening}
use Rattle.rules.specs.declared.Answer.{Answer}
use Rattle.dispatching.specs.Calls.{opening, answer}
use Rattle.dispatch_calls.specs.Listed.{call_with}

module _ (k i : ℕ) (o : Opening) (a : Answer) where
  pub call_opening : k ≡ 0 → call_with k i o a ≡ opening i o
  call_opening h = simp (eq-eqb k 0 h)

  pub call_answer : (k ≡ 0 → ⊥) → call_with k i o a ≡ answer i a
  call_answer h = simp (ne_eqb k 0 h)
