use Rattle.std.proofs.Common.{◌<◌, ◌∙◌, []}
use Rattle.std.proofs.lemmas.List.Elements.{All-nil}
use Rattle.online_play.proofs.WonLemmas.{run-nil}
use Rattle.referee_session.specs.Talk.{answers_from}
use Rattle.referee_session.proofs.TalkLemmas.{talk-nil}
use Rattle.referee_session.proofs.session.Session.begin.Goals as goal

pub invariant_of-result : goal.invariant_of-result
invariant_of-result c =
    let pool = c.args.pool in
    rw c.new.ensures (
      c.requires.root,
      All-nil (λ bin. bin < pool.game.bins),
      talk-nil pool.game pool.nodes c.args.root,
      rw c.game.ensures.value at c.zero-loads.ensures.value ∙ run-nil pool.game (answers_from []),
    )
