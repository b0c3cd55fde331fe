use Rattle.std.proofs.Common.{[], ◌∷◌, codes}
use Rattle.strategy_text.specs.Text.{entries_words}
use Rattle.strategy_text.proofs.Spaced.{writes_words, stops_words}
use Rattle.strategy_text.proofs.spelled.write_reply.Goals as goal

pub returns-in_err-word : goal.returns-in_err-word
returns-in_err-word g c = stops_words c.from_residual.result _ _ (codes "reply" ∷ []) (entries_words c.args.list.now) c.from_residual.ensures.0 c.in_err-word.ensures

pub returns : goal.returns
returns g c = writes_words c.write_entries.result _ _ _ (codes "reply" ∷ []) (entries_words c.args.list.now) c.in_ok-word.ensures c.write_entries.ensures
