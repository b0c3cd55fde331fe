use Rattle.minimax.specs.Writing.{IsWrittenUpTo}
use Rattle.minimax.proofs.writing.write_replies.Given as goal

abbrev pub invariant-loop-reply : goal.invariant-loop-reply
invariant-loop-reply l = IsWrittenUpTo l.space l.replies l.root l.told l.budget l.reply-index l.written
