use Rattle.std.proofs.Common.{◌∙◌}
use Rattle.stretch_bench.proofs.LegalLemmas.{no_fault}
use Rattle.stretch_bench.proofs.drilling.see_accepted.Goals as goal

pub unreachable-requires-in-Err-Rejected : goal.unreachable-requires-in-Err-Rejected
unreachable-requires-in-Err-Rejected c =
    no_fault c.in-Err-Rejected.field-0 c.in-Err-Rejected.field-0-0 c.in-Err-Rejected.field-0-1 c.args.text _ _ c.in-Err-Rejected.field-0-is
    (c.new.ensures ∙ c.as_slice.ensures.value) c.requires c.in-Err-Rejected.ensures.fault
