use Rattle.online_play.proofs.WonLemmas.{forced_not_below}
use Rattle.adversary_graph.proofs.WonLemmas.{legal_strategy_forces}
use Rattle.algorithm_graph.specs.Replies.{replies}
use Rattle.algorithm_graph.proofs.BelowLemmas.{legal_replies_keep_below}
use Rattle.algorithm_graph.proofs.ReplayLemmas.{replies_are_an_algorithm}
use Rattle.match_player.proofs.laws.no_game_has_both.Goals as goal

pub returns : goal.returns
returns c = record {
  both = λ game format other adversary algorithm wins keeps.
      let answer = replies game algorithm in
      let forced = legal_strategy_forces format game adversary wins answer (replies_are_an_algorithm game algorithm keeps.of_game) in
      forced_not_below game answer forced (legal_replies_keep_below other game algorithm keeps);
}
