use Rattle.stretch_bench.proofs.LineLemmas.{said, accepted_text}
use Rattle.stretch_bench.proofs.checking.accepted_words.Goals as goal

pub returns : goal.returns
returns c = said _ _ _ c.format.ensures.ok (accepted_text c.args.accepted.now _ _ _ _ c.word-side.ensures.value
    c.m-bins.ensures.value c.g-capacity.ensures.value c.t-target.ensures.value)
