use Rattle.monotone.proofs.SmallGame.{small_game_has_ten_reachable}
use Rattle.monotone.proofs.laws.a_small_game_has_ten_reachable_positions.Goals as goal

pub returns : goal.returns
returns c = small_game_has_ten_reachable
