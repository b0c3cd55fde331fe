use Rattle.std.proofs.Common.{sym, ap, ◌∙◌, arith}
use Rattle.strategy_text.specs.Reading.{algorithm_at}
use Rattle.strategy_text.proofs.NodeLines.{algorithm_line_takes, algorithm_refused}
use Rattle.strategy_text.proofs.algorithm.read_algorithm.Goals as goal

pub returns-in-Ok-clause-spelled : goal.returns-in-Ok-clause-spelled
returns-in-Ok-clause-spelled c =
    algorithm_line_takes c.args.format c.args.number c.args.line.now c.fill_algorithm.new.node (omega arith)
    (sym (ap (algorithm_at c.args.format c.args.number) c.new.ensures) ∙ c.in-Ok.ensures)

pub returns-in-Err-Form-clause-refused : goal.returns-in-Err-Form-clause-refused
returns-in-Err-Form-clause-refused c =
    let refused = rw c.in-Err-Form.field-0-is at c.in-Err-Form.ensures in
    algorithm_refused c.args.format c.args.number c.args.line.now (omega (arith, c.ranges.number)) (sym (ap (algorithm_at c.args.format c.args.number) c.new.ensures) ∙ refused)
