use Rattle.strategy_text.specs.Text.{position_words, act_words}
use Rattle.strategy_text.proofs.Spaced.{writes_words, stops_words}
use Rattle.strategy_text.proofs.writing.AlgNodeSpelled.put.Goals as goal

pub returns-in_err-write_position : goal.returns-in_err-write_position
returns-in_err-write_position g c =
    stops_words c.from_residual.result _ _ (position_words c.args.self.now.loads c.args.self.now.items) (act_words c.args.self.now.act) c.from_residual.ensures.0
    (rw (c.as_slice.ensures.value, c.as_slice-2.ensures.value) at c.in_err-write_position.ensures)

pub returns : goal.returns
returns g c =
    writes_words c.put.result _ _ _ (position_words c.args.self.now.loads c.args.self.now.items) (act_words c.args.self.now.act)
    (rw (c.as_slice.ensures.value, c.as_slice-2.ensures.value) at c.in_ok-write_position.ensures) c.put.ensures
