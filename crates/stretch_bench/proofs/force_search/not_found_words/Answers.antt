use Rattle.stretch_bench.proofs.LineLemmas.{not_found_text, said}
use Rattle.stretch_bench.proofs.force_search.not_found_words.Goals as goal

pub returns : goal.returns
returns c =
    said _ _ _ c.format.ensures.ok
    (not_found_text c.args.game.now c.args.visits _ _ _ c.m-bins.ensures.value c.g-capacity.ensures.value c.t-target.ensures.value)
