-- `panel::panel` meets its contract: a short buffer is left alone, and another takes the reply that was made.
-- Assumes nothing.
use Rattle.std.proofs.Common.{◌<◌, ◌≤◌, ◌∙◌, arith, length}
use borrow.Author.Tests.{lt-ltb}
use Rattle.registers.specs.Exchange.{longest_reply, exchanged_of, reply_buffer}
use Rattle.registers.proofs.PanelLaws.{every_value}
use Rattle.registers.proofs.ClaimsHold.{exchanged, panel_run, fresh_panel_run}
use Rattle.panel.specs.Told.{few, told_is, buffer_is}
use Rattle.panel.proofs.panel.Goals as goal

-- the four claims hold whatever is asked
pub returns-then-reply-lt-LONGEST_REPLY : goal.returns-then-reply-lt-LONGEST_REPLY
unfolding exchanged_of reply_buffer
returns-then-reply-lt-LONGEST_REPLY c =
    let short : length c.args.reply.now < longest_reply = omega arith in
    record {
      value = simp (lt-ltb _ _ short);
      reply_after = simp (lt-ltb _ _ short);
      panel_exchange = exchanged _ _;
      every_value = every_value;
      every_panel_run = panel_run;
      every_fresh_panel_run = fresh_panel_run;
    }

-- there is room for it
pub overflow_cast-length : goal.overflow_cast-length
overflow_cast-length c =
    let s = c.args in
    let text = c.as_slice.ensures.value ∙ c.respond-told.ensures.reply in
    omega (arith, few s.search s.request.now s.reply.now (omega arith) _ (rw text at c.place_text-length.ensures.value))

pub returns : goal.returns
returns c =
    let s = c.args in
    let text = c.as_slice.ensures.value ∙ c.respond-told.ensures.reply in
    let p = rw text at c.place_text-length.ensures in
    let room : longest_reply ≤ length s.reply.now = omega arith in
    record {
      value = told_is s.search s.request.now s.reply.now room _ _ p.value c.respond-told.ensures.search;
      reply_after = buffer_is s.search s.request.now s.reply.now room _ p.out_after;
      panel_exchange = exchanged _ _;
      every_value = every_value;
      every_panel_run = panel_run;
      every_fresh_panel_run = fresh_panel_run;
    }
