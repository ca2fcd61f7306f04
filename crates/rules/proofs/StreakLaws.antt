-- The running number is rule 7's s: it begins so with the first bracket, and stays so with each step.
-- Assumes nothing.
use Rattle.std.specs.Prelude.{ℕ, ◌+◌, ◌≡◌, refl, Bool, true, false, cond}
use Rattle.std.proofs.Common.{ap, ◌∙◌}
use mathlib.Core.List.{List, [], ◌∷◌, ◌++◌, reverse, reverse-append, zip_with}
use Rattle.rules.specs.Rules.{halves, streak_of}
use Rattle.rules.specs.Streak.{halved_of, since_halving, streak_over}

-- a step from L to the new L, after the brackets of other widths
halved_more : (ws : List ℕ) (L new : ℕ) → halved_of (ws ++ (L ∷ new ∷ [])) ≡ halved_of (ws ++ (L ∷ [])) ++ (halves L new ∷ [])
unfolding zip_with
halved_more [] L new = refl
halved_more (w ∷ []) L new = refl
halved_more (w ∷ w' ∷ ws) L new = ap (λ (steps : List Bool). halves w w' ∷ steps) (halved_more (w' ∷ ws) L new)

since_more : (latest : Bool) (earlier : List Bool) → since_halving (latest ∷ earlier) ≡ cond latest 0 (since_halving earlier + 1)
since_more true earlier = refl
since_more false earlier = refl

-- after the second answer
pub streak_first : (W : ℕ) → streak_over (W ∷ []) ≡ 0
unfolding streak_over zip_with
streak_first W = refl

-- after each step
pub streak_more : (ws : List ℕ) (L new : ℕ) → streak_over (ws ++ (L ∷ new ∷ [])) ≡ streak_of L new (streak_over (ws ++ (L ∷ [])))
unfolding streak_over streak_of
streak_more ws L new =
    ap (λ (steps : List Bool). since_halving (reverse steps)) (halved_more ws L new)
    ∙ ap since_halving (reverse-append (halved_of (ws ++ (L ∷ []))) (halves L new ∷ []))
    ∙ since_more (halves L new) (reverse (halved_of (ws ++ (L ∷ []))))
