use Rattle.online_play.proofs.TestLists.{of_1_1_2}
use Rattle.online_play.proofs.tests.a_boxed_player_plays_as_it_is.Goals as goal

pub loads_after-requires : goal.loads_after-requires
loads_after-requires g c = record { packable = of_1_1_2 c.in_ok-game.game c.in_ok-game.ensures.exact.0 }
