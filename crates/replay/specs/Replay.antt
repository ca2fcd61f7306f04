-- A run of calls written down in lists, and what `replay` promises of it, in the words of the journal.
-- Assumes nothing.
use Rattle.std.specs.Prelude.{ℕ, zero, suc, ◌/◌, ◌≡◌, cond, List, [], ◌∷◌, map, eqb, ℤ, length}
use Rattle.rules.specs.declared.Opening.{Opening}
use Rattle.rules.specs.declared.Answer.{Answer}
use Rattle.rules.specs.declared.Report.{Report}
use Rattle.rules.specs.Refusals.{opening_refusal, Accepted}
use Rattle.rules.specs.Rows.{numbers_each, written_over}
use Rattle.held.specs.Held.{blank}
use Rattle.journal.specs.Journal.{journal_report, told_all}
use Rattle.journal.specs.Run.{Call, by_value, into, offered, journal_of, holding, Run}
use Rattle.replay.specs.declared.Replayed.{Replayed}

-- ---- the calls

-- kind 0 is by value, any other into the host's own search
abbrev pub call_with : ℕ → Answer → Call
call_with kind a = cond (eqb kind 0) (by_value a) (into a)

-- at most n calls, of the kinds, points and values in turn, as far as all three lists go
unfoldable pub calls_up_to : ℕ → List ℕ → List ℤ → List ℤ → List Call
calls_up_to zero ks xs vs = []
calls_up_to (suc n) [] xs vs = []
calls_up_to (suc n) (k ∷ ks) [] vs = []
calls_up_to (suc n) (k ∷ ks) (x ∷ xs) [] = []
calls_up_to (suc n) (k ∷ ks) (x ∷ xs) (v ∷ vs) = call_with k (record { point = x; value = v }) ∷ calls_up_to n ks xs vs

-- as many calls as the lent list has room for their reports, each written as the numbers of its row
abbrev pub calls_in : List ℕ → List ℤ → List ℤ → List ℕ → List Call
calls_in ks xs vs list = calls_up_to (length list / numbers_each) ks xs vs

-- ---- what is promised

-- An accepted opening: the journal's report before the first answer, and the search that holds the journal's values after the calls.
-- A refused one makes no fresh search: its first refusal, beside a blank.
unfoldable pub replay_of : Opening → List Call → Replayed
replay_of o calls =
    cond (eqb (opening_refusal o) 0)
    (record { opened = journal_report o []; search = holding o (journal_of o calls) })
    (record { opened = Report.Refused (opening_refusal o) 0; search = blank })

-- An accepted opening: the lent list holds what the journal answers to each call in turn. A refused one: no call is made, and the list
-- stays as it is.
unfoldable pub list_after : Opening → List Call → List ℕ → List ℕ
list_after o calls list =
    cond (eqb (opening_refusal o) 0) (written_over (told_all o [] (map offered calls)) list) list

-- r is what `replay` returns, and the list, which held `before`, holds `after`. All that demand 3 says of runs holds of this one
pub record Replays (o : Opening) (ks : List ℕ) (xs vs : List ℤ) (before : List ℕ) (r : Replayed) (after : List ℕ) : Type 0 where
  pub returned : r ≡ replay_of o (calls_in ks xs vs before)
  pub written : after ≡ list_after o (calls_in ks xs vs before) before
  pub run : Accepted o → Run o (calls_in ks xs vs before)
