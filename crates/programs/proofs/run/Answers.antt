-- `programs::run` writes what lies within `out`, and what it writes is the reply to all that the input had.
use Rattle.std.proofs.Common.{◌≡◌, ◌≢◌, ℕ, length, Bool, true, false, List, ◌++◌, take, drop, refl, sym, ap, ◌∙◌, subst, append-nil, length-take-le}
use Rattle.std.proofs.Common.{Option, None, Some, Result, Ok, Err, OnOk, IfSome}
use Rattle.std.specs.Prelude.{cond, leb}
use Rattle.std.specs.Result.{is_err}
use Rattle.std.proofs.lemmas.Bool.{false≢true}
use Rattle.std.proofs.Math.Seq.{take-append_seam}
use Rattle.std.specs.Io.KnownBytes.{Appends}
use Rattle.printing.specs.Printed.{placed, placed_length}
use Rattle.input.specs.declared.Filled.{Filled}
use Rattle.input.specs.Input.{Took}
use Rattle.replies.specs.declared.Reply.{Reply}
use Rattle.replies.specs.Reply.{Replied, Answers, reply_of}
use Rattle.replies.specs.ReplyLaws.{answers_within}
use Rattle.programs.proofs.run.Goals as goal

-- what was written of a text that found room is the text
whole : (text buffer after : List ℕ) (n : ℕ) → n ≡ placed_length text buffer → after ≡ placed text buffer → n ≢ 0 → take n after ≡ text
unfolding placed placed_length
whole text buffer after n e f some = go (leb (length text) (length buffer)) refl
  where
    go : (b : Bool) → leb (length text) (length buffer) ≡ b → take n after ≡ text
    go true t =
        let long : n ≡ length text = e ∙ ap (λ b. cond b (length text) 0) t in
        let made : after ≡ text ++ drop (length text) buffer = f ∙ ap (λ b. cond b (text ++ drop (length text) buffer) buffer) t in
        ap (λ k. take k after) long ∙ ap (take (length text)) made ∙ take-append_seam text (drop (length text) buffer)
    go false t = absurd (some (e ∙ ap (λ b. cond b (length text) 0) t))

-- where the reply has bytes, the input was read, and they are the reply to all of it
replied : (reply : Reply) (read : Filled) (buffer before : List ℕ) (n : ℕ) (after : List ℕ) (input left : Option (List ℕ))
    → Answers reply read buffer before n after → Took read buffer input left → n ≢ 0 → IfSome input (λ text. Replied reply text before n after)
replied reply read buffer before n after None left a t some = tt
replied reply Filled.Full buffer before n after (Some text) None a t some = absurd t
replied reply Filled.Full buffer before n after (Some text) (Some rest) a t some = subst (λ s. Replied reply s before n after) (sym t) (a rest)
replied reply (Filled.Ended k) buffer before n after (Some text) None a t some = absurd t.0
replied reply (Filled.Ended k) buffer before n after (Some text) (Some rest) r t some =
    let all : take k buffer ≡ text = sym (append-nil (take k buffer)) ∙ ap (λ l. take k buffer ++ l) (sym t.1) ∙ sym t.0 in
    subst (λ s. Replied reply s before n after) all r
replied reply Filled.Failed buffer before n after (Some text) left a t some = absurd (some a.0)

made : (reply : Reply) (before : List ℕ) (n : ℕ) (after : List ℕ) (input : Option (List ℕ)) → IfSome input (λ text. Replied reply text before n after)
    → IfSome input (λ text. after ≡ placed (reply_of reply text) before)
made reply before n after None r = tt
made reply before n after (Some text) r = r.text

told : (reply : Reply) (before : List ℕ) (n : ℕ) (after : List ℕ) (input : Option (List ℕ)) → IfSome input (λ text. Replied reply text before n after) → n ≢ 0
    → IfSome input (λ text. take n after ≡ reply_of reply text)
told reply before n after None r some = tt
told reply before n after (Some text) r some = whole (reply_of reply text) before after n r.long r.text some

-- so where the write did not fail, the output gained that reply
gained : {E : Type 0} (r : Result (Unit {0}) E) (input before after : Option (List ℕ)) (bytes : List ℕ) (of : List ℕ → List ℕ)
    → OnOk r (Appends before after bytes) → is_err r ≡ false → IfSome input (λ text. bytes ≡ of text) → IfSome input (λ text. Appends before after (of text))
gained r None before after bytes of w ok e = tt
gained (Ok x) (Some text) before after bytes of w ok e = subst (Appends before after) e w
gained (Err x) (Some text) before after bytes of w failed e = absurd (false≢true (sym failed))

pub slice_bounds-write_all-end : goal.slice_bounds-write_all-end
slice_bounds-write_all-end g c = answers_within _ _ _ _ _ _ c.write_reply-length.ensures

pub slice_bounds-write_all-end-else-length-eq0 : goal.slice_bounds-write_all-end-else-length-eq0
slice_bounds-write_all-end-else-length-eq0 g c = sym (length-take-le _ _ (answers_within _ _ _ _ _ _ c.write_reply-length.ensures))

pub returns-else-is_err-clause-told : goal.returns-else-is_err-clause-told
returns-else-is_err-clause-told g c =
    let wrote = c.write_all-else-length-eq0.ensures.bytes in
    let r = replied _ _ _ _ _ _ _ _ c.write_reply-length.ensures c.fill-filled.ensures.took c.if-length-eq0.false in
    gained _ _ _ _ _ _ wrote (sym c.is_err.ensures.value ∙ c.if-is_err.false) (told _ _ _ _ _ r c.if-length-eq0.false)

pub returns-else-is_err-clause-made : goal.returns-else-is_err-clause-made
returns-else-is_err-clause-made g c =
    made _ _ _ _ _ (replied _ _ _ _ _ _ _ _ c.write_reply-length.ensures c.fill-filled.ensures.took c.if-length-eq0.false)

pub returns-then-is_err-clause-made : goal.returns-then-is_err-clause-made
returns-then-is_err-clause-made g c =
    made _ _ _ _ _ (replied _ _ _ _ _ _ _ _ c.write_reply-length.ensures c.fill-filled.ensures.took c.if-length-eq0.false)
