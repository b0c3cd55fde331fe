use Rattle.stretch_bench.proofs.LineLemmas.{more_moves, moves_put, some_moves}
use Rattle.stretch_bench.proofs.searching.put_moves.Goals as goal

pub loop-step-preserved : goal.loop-step-preserved
loop-step-preserved c =
    more_moves c.args.path.now c.loop-step.step-index _ _ _ _ c.loop-step-test.true c.loop-step.invariant c.in_ok-put_move.ensures

pub returns : goal.returns
returns c =
    moves_put c.args.path.now c.loop-step.step-index c.args.text.now c.loop-step.text c.loop-step-test.false (some_moves c.args.path.now c.if-is_empty.ensures)
    c.loop-step.invariant
