-- The claims on trial loads hold.
-- Assumes nothing.
use Rattle.std.specs.Prelude.{ℕ, ◌≤◌, ◌≡◌, refl, Bool, true, false, not, List, ℤ, length}
use Rattle.std.proofs.Math.Path.{sym, ap}
use Rattle.std.proofs.Common.{◌∙◌, arith, eq-eqb, take_at}
use Rattle.rules.specs.Rules.{slots, padded}
use Rattle.rules.specs.Refusals.{opening_refusal}
use Rattle.rules.specs.Search.{is_refusal, quote_of}
use Rattle.held.specs.declared.Entered.{Entered}
use Rattle.held.specs.Held.{values_of, held_report}
use Rattle.outcomes.specs.Sheet.{sheet_of}
use Rattle.clean_sheets.specs.Clean.{clean_of}
use Rattle.clean_sheets.proofs.ClaimsHold.{clean_sheets}
use Rattle.loading.specs.Loading.{load_opening, load_values, values_drawn, load_part, held_part, is_seed, load_of}
use Rattle.loading.specs.Claims.{Stopped, Load, EveryLoad}
use Rattle.loading.proofs.DrawLaws.{seed_is, is_seed_lem, draws, accepted}
use Rattle.loading.proofs.PartLaws.{values_length, drawn, most_fits, going_drawn, slots_full, fresh_part, part_stopped, goes}

-- ---- of a seed in range

module _ (seed : ℕ) (is : is_seed seed ≡ true) where
  load_is : load_of seed ≡ held_part seed (values_drawn seed)
  unfolding load_of
  load_is = simp is

  few : values_drawn seed ≤ slots
  few = omega (arith, (drawn seed).1, most_fits seed)

  has_stopped : Stopped (values_drawn seed) (held_report (load_part seed (values_drawn seed)))
  has_stopped = part_stopped seed (values_drawn seed) few (going_drawn seed) (drawn seed).0.holds

  not_refused : is_refusal (held_report (load_part seed (values_drawn seed))) ≡ false
  not_refused = ap is_refusal has_stopped.told

  values_held : values_of (load_part seed (values_drawn seed)) ≡ load_values seed (values_drawn seed)
  values_held = take_at (load_values seed (values_drawn seed)) _ _ refl

  read_back : sheet_of (clean_of (load_part seed (values_drawn seed))) ≡ held_part seed (values_drawn seed)
  read_back =
      (clean_sheets (load_part seed (values_drawn seed)) (record { accepted = not_refused; full = slots_full seed (values_drawn seed) few })).restored
      ∙ ap (λ (vs : List ℤ). record {
        report = held_report (load_part seed (values_drawn seed));
        search = record { opening = load_opening seed; count = length (load_values seed (values_drawn seed)); slots = padded vs };
      }) values_held

  load : Load seed
  unfolding quote_of
  load =
      record {
        until = (drawn seed).0;
        opening = ap (λ (e : Entered). e.search.opening) load_is;
        count = ap (λ (e : Entered). e.search.count) load_is ∙ values_length seed (values_drawn seed);
        values = ap (λ (e : Entered). values_of e.search) load_is ∙ values_held;
        fresh = fresh_part seed;
        goes = λ n h. goes seed n (λ m l. going_drawn seed m (omega arith)) (going_drawn seed n h);
        ends = load_is;
        stopped =
            record {
              lower = has_stopped.lower;
              upper = has_stopped.upper;
              better = has_stopped.better;
              told = ap (λ (e : Entered). e.report) load_is ∙ has_stopped.told;
            };
        quoted = simp (eq-eqb (opening_refusal (load_opening seed)) 0 (accepted seed).accepted);
        within = (drawn seed).1;
        sheet = ap (λ (e : Entered). sheet_of (clean_of e.search)) load_is ∙ read_back ∙ sym load_is;
      }

-- ---- of every number

refused : (seed : ℕ) → is_refusal (load_of seed).report ≡ not (is_seed seed)
unfolding load_of
refused seed = go (is_seed seed) refl
  where
    go : (b : Bool) → is_seed seed ≡ b → is_refusal (load_of seed).report ≡ not b
    go true e = simp e (not_refused seed e)
    go false e = simp e

pub every_load : EveryLoad
every_load = record { refused = refused; each = load; draws = λ seed n e. is_seed_lem _ (draws seed n (seed_is seed e)) }
