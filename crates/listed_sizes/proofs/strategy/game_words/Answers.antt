use Rattle.listed_sizes.proofs.TextLemmas.{game_said, said}
use Rattle.listed_sizes.proofs.strategy.game_words.Goals as goal

pub returns : goal.returns
returns c =
    said _ _ _ c.format.ensures.ok
    (game_said c.args.game.now _ _ _ c.m-bins.ensures.value c.g-capacity.ensures.value c.t-target.ensures.value)
