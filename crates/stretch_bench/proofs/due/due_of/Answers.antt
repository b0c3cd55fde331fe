use Rattle.stretch_bench.proofs.OutcomeLemmas.{fault_due}
use Rattle.stretch_bench.proofs.due.due_of.Goals as goal

pub returns-in-Err-clause-due : goal.returns-in-Err-clause-due
returns-in-Err-clause-due g c =
    fault_due _ _ _ c.args.command.now c.in-Err.fault c.due_of_fault.result c.in-Err.ensures.fault c.due_of_fault.ensures.line c.due_of_fault.ensures.front
    c.due_of_fault.ensures.memory
