use Rattle.checker.proofs.ForcedLemmas.{loaded_force}
use Rattle.checker.proofs.TextLemmas.{loaded_from}
use Rattle.checker.proofs.reading.load.Goals as goal

pub returns-clause-loaded : goal.returns-clause-loaded
returns-clause-loaded g c =
    loaded_from c.args.wanted c.read_whole-read.result c.strategy_of.result c.read_whole-read.new.kept (g.S.Source.left c.args.source.now)
    (g.S.Source.left c.read_whole-read.new.source) c.strategy_of.ensures c.read_whole-read.ensures.ok

pub returns-clause-forced : goal.returns-clause-forced
returns-clause-forced g c =
    loaded_force c.args.wanted c.strategy_of.result (g.S.Source.left c.args.source.now) (g.S.Source.left c.read_whole-read.new.source) (returns-clause-loaded g c)
