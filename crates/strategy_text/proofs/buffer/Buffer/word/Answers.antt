use Rattle.strategy_text.proofs.Spaced.{writes_word, stops_word}
use Rattle.strategy_text.proofs.buffer.Buffer.word.Goals as goal

pub returns-in_err-put : goal.returns-in_err-put
returns-in_err-put g c = stops_word c.from_residual.result _ _ c.args.word.now c.from_residual.ensures.0 c.in_err-put.ensures

pub returns : goal.returns
returns g c = writes_word c.put-2.result _ _ _ c.args.word.now c.in_ok-put.ensures c.put-2.ensures
