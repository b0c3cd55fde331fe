use Rattle.strategy_text.specs.Text.{text_of}
use Rattle.strategy_text.proofs.Written.{writes_stopped, writes_flushed, written_count, written_rose, written_prefix, written_whole, failed_not_ok}
use Rattle.strategy_text.proofs.writing.write_strategy.Goals as goal

pub returns-in_err-write_lines : goal.returns-in_err-write_lines
returns-in_err-write_lines g c =
    let text = text_of c.args.strategy.now in
    let w = writes_stopped c.from_residual.result _ _ text c.from_residual.ensures.0 c.in_err-write_lines.ensures in
    record {
      count = written_count c.from_residual.result _ _ text w;
      ok = failed_not_ok c.from_residual.result _ c.from_residual.ensures.0;
      failed = written_rose c.from_residual.result _ _ text w;
      err = written_prefix c.from_residual.result _ _ text c.new-buffer.ensures w;
    }

pub returns : goal.returns
returns g c =
    let text = text_of c.args.strategy.now in
    let w = writes_flushed c.flush.result _ _ _ text c.in_ok-write_lines.ensures c.flush.ensures.writes in
    record {
      count = written_count c.flush.result _ _ text w;
      ok = written_whole c.flush.result _ _ text c.new-buffer.ensures c.flush.ensures.empty w;
      failed = written_rose c.flush.result _ _ text w;
      err = written_prefix c.flush.result _ _ text c.new-buffer.ensures w;
    }
