use Rattle.stretch_bench.proofs.LineLemmas.{said, value_text}
use Rattle.stretch_bench.proofs.valuing.value_words.Goals as goal

pub returns : goal.returns
returns c = said _ _ _ c.format.ensures.ok (value_text c.args.bins c.args.capacity c.args.target)
