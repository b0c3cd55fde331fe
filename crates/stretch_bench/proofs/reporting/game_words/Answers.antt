use Rattle.stretch_bench.proofs.LineLemmas.{said, report_text}
use Rattle.stretch_bench.proofs.reporting.game_words.Goals as goal

pub returns : goal.returns
returns c =
    said _ _ _ c.format.ensures.ok
    (report_text c.args.report.now _ _ _ _ c.word-side.ensures.value c.m-bins.ensures.value c.g-capacity.ensures.value c.t-target.ensures.value)
