use Rattle.online_play.proofs.TestLists.{of_3, of_3_2, of_3_5, of_3_5_1, of_4_4_1, of_3_2_1}
use Rattle.online_play.proofs.tests.the_named_players_follow_their_rules.Goals as goal

pub answers-requires-clause-packable : goal.answers-requires-clause-packable
answers-requires-clause-packable g c = of_3 c.in_ok-game.game c.in_ok-game.ensures.exact.0

pub answers-requires-2-clause-packable : goal.answers-requires-2-clause-packable
answers-requires-2-clause-packable g c = of_3_2 c.in_ok-game.game c.in_ok-game.ensures.exact.0

pub answers-requires-3-clause-packable : goal.answers-requires-3-clause-packable
answers-requires-3-clause-packable g c = of_3_5 c.in_ok-game.game c.in_ok-game.ensures.exact.0

pub answers-requires-4-clause-packable : goal.answers-requires-4-clause-packable
answers-requires-4-clause-packable g c = of_3_5_1 c.in_ok-game.game c.in_ok-game.ensures.exact.0

pub answers-requires-5-clause-packable : goal.answers-requires-5-clause-packable
answers-requires-5-clause-packable g c = of_4_4_1 c.in_ok-game.game c.in_ok-game.ensures.exact.0

pub answers-requires-6-clause-packable : goal.answers-requires-6-clause-packable
answers-requires-6-clause-packable g c = of_3_2_1 c.in_ok-game.game c.in_ok-game.ensures.exact.0
