use Rattle.stretch_bench.proofs.LineLemmas.{no_transfer_text, said}
use Rattle.stretch_bench.proofs.scaling.no_transfer_words.Goals as goal

pub returns : goal.returns
returns c = said _ _ _ c.format.ensures.ok (no_transfer_text c.args.bins c.args.capacity c.args.target)
