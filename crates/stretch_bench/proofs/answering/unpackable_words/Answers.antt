use Rattle.stretch_bench.proofs.LineLemmas.{said, unpackable_text}
use Rattle.stretch_bench.proofs.answering.unpackable_words.Goals as goal

pub returns : goal.returns
returns c = said _ _ _ c.format.ensures.ok (unpackable_text c.args.place)
