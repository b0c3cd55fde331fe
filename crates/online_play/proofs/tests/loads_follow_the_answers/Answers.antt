use Rattle.online_play.proofs.TestLists.{of_1_1_2}
use Rattle.online_play.proofs.tests.loads_follow_the_answers.Goals as goal

pub loads_after-requires-2 : goal.loads_after-requires-2
loads_after-requires-2 g c = record { packable = of_1_1_2 c.in_ok-game.game c.in_ok-game.ensures.exact.0 }
