-- The running number that a journal's brackets keep is rule 7's s, by looking back over their widths.
-- Assumes nothing.
use Rattle.std.specs.Prelude.{ℕ, ◌≡◌, refl, List, [], ◌∷◌, ◌++◌, map}
use Rattle.std.proofs.Common.{sym, ap, ◌∙◌}
use Rattle.std.proofs.Math.Seq.{append_snoc}
use Rattle.rules.specs.declared.Answer.{Answer}
use Rattle.rules.specs.declared.Sample.{Sample}
use Rattle.rules.specs.declared.Bracket.{Bracket}
use Rattle.rules.specs.Rules.{start_of, width_of, partner_of, streak_of, renewed_of, advance_of}
use Rattle.rules.proofs.RulesLaws.{advance_by, advance_counts, start_counts}
use Rattle.rules.specs.Streak.{streak_over}
use Rattle.rules.proofs.StreakLaws.{streak_first, streak_more}
use Rattle.journal.specs.Journal.{sample_of, advanced_by, bracket_of, brackets_from, brackets_of}

-- after the brackets of other widths
streak_from : (ws : List ℕ) (k : Bracket) (rest : List Answer) → k.streak ≡ streak_over (ws ++ (width_of k ∷ []))
    → (advanced_by k rest).streak ≡ streak_over (ws ++ map width_of (brackets_from k rest))
streak_from ws k [] e = e
streak_from ws k (a ∷ rest) e =
    let k' = advance_of k (sample_of a) in
    let e' : k'.streak ≡ streak_over (ws ++ (width_of k ∷ []) ++ (width_of k' ∷ [])) =
    (advance_counts k (sample_of a)).0
    ∙ ap (streak_of (width_of k) (width_of k')) e
    ∙ sym (streak_more ws (width_of k) (width_of k'))
    ∙ ap streak_over (sym (append_snoc ws (width_of k) (width_of k' ∷ []))) in
    streak_from (ws ++ (width_of k ∷ [])) k' rest e'
    ∙ ap streak_over (append_snoc ws (width_of k) (map width_of (brackets_from k' rest)))

pub streak_back : (a b : Answer) (rest : List Answer) → (bracket_of a b rest).streak ≡ streak_over (map width_of (brackets_of (a ∷ b ∷ rest)))
unfolding brackets_of
streak_back a b rest =
    let k = start_of (sample_of a) (sample_of b) in
    streak_from [] k rest ((start_counts (sample_of a) (sample_of b)).0 ∙ sym (streak_first (width_of k)))

-- ---- s by looking back knows nothing of the running number: whatever number a bracket keeps, the same answers give the same widths

abbrev pub keeping : ℕ → Bracket → Bracket
keeping s k =
    record {
      better = k.better;
      other = k.other;
      previous = k.previous;
      third = k.third;
      last = k.last;
      streak = s;
      taken = k.taken;
    }

advance_keeping : (s : ℕ) (k : Bracket) (x : Sample)
    → advance_of (keeping s k) x ≡ keeping (streak_of (width_of k) (width_of (advance_of k x)) s) (advance_of k x)
unfolding advance_of renewed_of partner_of
advance_keeping s k x =
    advance_by (λ k'. advance_of (keeping s k) x ≡ keeping (streak_of (width_of k) (width_of k') s) k') k x (λ e. simp e) (λ e. simp e)

pub widths_keeping : (s : ℕ) (k : Bracket) (rest : List Answer) → map width_of (brackets_from (keeping s k) rest) ≡ map width_of (brackets_from k rest)
widths_keeping s k [] = refl
widths_keeping s k (a ∷ rest) =
    let k' = advance_of k (sample_of a) in
    ap (λ (ws : List ℕ). width_of k ∷ ws)
    (ap (λ (j : Bracket). map width_of (brackets_from j rest)) (advance_keeping s k (sample_of a))
    ∙ widths_keeping (streak_of (width_of k) (width_of k') s) k' rest)
