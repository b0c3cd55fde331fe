use Rattle.std.proofs.Common.{◌∙◌}
use Rattle.stretch_bench.proofs.LineLemmas.{report_parts}
use Rattle.stretch_bench.proofs.reporting.line_of_report.Goals as goal

pub returns : goal.returns
returns c =
    report_parts c.args.report.now _ _ _ _ _ c.in_ok-shown.ensures (c.as_bytes.ensures.value ∙ c.in_ok-measured.ensures.ok)
    (c.in_ok-text.ensures ∙ c.as_str.ensures.value) c.in_ok-push_all.ensures.ok c.in_ok-push.ensures.ok
