use Rattle.online_play.proofs.WonLemmas.{won_forces, won_game_forces, empty_is}
use Rattle.online_play.proofs.laws.won_positions_force.Goals as goal

pub returns : goal.returns
returns c = record {
  position = λ game allowed answer history position algorithm at won. won_forces game allowed answer algorithm won.0 history position at won.1;
  game = won_game_forces;
  empty = empty_is;
}
