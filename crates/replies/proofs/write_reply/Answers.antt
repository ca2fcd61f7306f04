-- `replies::write_reply` meets its contract: an input that fills the buffer is too long, however it goes on.
-- Assumes nothing.
use Rattle.std.proofs.Common.{rules, ◌≡◌, ◌+◌, length, arith}
use Rattle.forms.specs.Entries.{longest_text}
use Rattle.replies.specs.ReplyLaws.{goes_on}
use Rattle.replies.proofs.write_reply.Goals as goal

pub returns-in-Full : goal.returns-in-Full
returns-in-Full c =
    let long : length c.args.text.now ≡ longest_text + 1 = search rules in
    rw c.in-Full.is (goes_on (omega (arith, long)) c.reply_to.ensures)
