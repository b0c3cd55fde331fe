use Rattle.strategy_text.proofs.Written.{writes_past}
use Rattle.strategy_text.proofs.buffer.Buffer.put.Goals as goal

pub returns : goal.returns
returns g c =
    writes_past c.put_all.result _ _ _ _ _ c.flush.new.self c.args.piece.now c.in_ok-flush.ensures.writes c.in_ok-flush.ensures.empty c.put_all.ensures.ok c.put_all.ensures.failed
    c.put_all.ensures.err c.put_all.ensures.count
