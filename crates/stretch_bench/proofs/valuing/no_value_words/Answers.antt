use Rattle.stretch_bench.proofs.LineLemmas.{no_value_text, said}
use Rattle.stretch_bench.proofs.valuing.no_value_words.Goals as goal

pub returns : goal.returns
returns c = said _ _ _ c.format.ensures.ok (no_value_text c.args.bins c.args.capacity)
