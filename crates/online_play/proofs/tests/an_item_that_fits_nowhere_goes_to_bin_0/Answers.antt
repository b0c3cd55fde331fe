use Rattle.online_play.proofs.TestLists.{of_1_1_2_2}
use Rattle.online_play.proofs.tests.an_item_that_fits_nowhere_goes_to_bin_0.Goals as goal

pub answers-requires-clause-packable : goal.answers-requires-clause-packable
answers-requires-clause-packable g c = of_1_1_2_2 c.in_ok-game.game c.in_ok-game.ensures.exact.0
