use Rattle.port_io.proofs.LineLemmas.{NoLfBelow-none, EndsAt-found}
use Rattle.std.proofs.Common.{arith}
use Rattle.port_io.proofs.lines.line_length.Goals as goal

pub returns-in_err-length-clause-none : goal.returns-in_err-length-clause-none
returns-in_err-length-clause-none c =
    rw c.from_residual.ensures (NoLfBelow-none c.args.bytes.now c.args.searched c.min-top.result 16385 (omega arith) (omega arith)
    (omega arith) c.requires.no_lf c.in_err-length.ensures)

pub returns-clause-some : goal.returns-clause-some
returns-clause-some c =
    EndsAt-found c.args.bytes.now c.args.searched c.min-top.result c.in_ok-length.length (omega arith) (omega arith)
    (omega arith) c.requires.no_lf c.in_ok-length.ensures.0 c.in_ok-length.ensures.1
