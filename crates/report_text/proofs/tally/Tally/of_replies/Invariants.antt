use Rattle.std.proofs.Common.{◌≡◌, take, ◌≤◌}
use Rattle.report_text.specs.Tally.{tally_of_replies}
use Rattle.report_text.proofs.tally.Tally.of_replies.Given as goal

abbrev pub invariant-loop-reply : goal.invariant-loop-reply
invariant-loop-reply l = record {
  tally : l.tally ≡ tally_of_replies (take l.reply-index l.replies);
  no_fit : l.tally.no_fit ≤ l.reply-index;
  not_live : l.tally.not_live ≤ l.reply-index;
  past : l.tally.past ≤ l.reply-index;
}
