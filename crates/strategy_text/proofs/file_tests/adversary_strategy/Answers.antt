use Rattle.std.proofs.Common.{arith}
use Rattle.strategy_text.proofs.Spellable.{adversary_spellable}
use Rattle.strategy_text.proofs.file_tests.adversary_strategy.Goals as goal

pub returns : goal.returns
returns c =
    adversary_spellable c.args.format c.args.game c.in_ok-list.list c.requires.legal (omega (arith, c.in_ok-list.ensures.0)) (omega (arith, c.in_ok-list.ensures.0))
    c.in_ok-list.ensures.1
