use Rattle.checker.specs.Accepted.{IsTextFaultOf}
use Rattle.checker.proofs.ExactLemmas.{exact_from, text_fault_of}
use Rattle.checker.proofs.ForcedLemmas.{spelled_force}
use Rattle.checker.proofs.TextLemmas.{spelled_from, open_from, refused_from, failed_from}
use Rattle.checker.proofs.reading.load_from.Goals as goal

pub returns-clause-loaded : goal.returns-clause-loaded
returns-clause-loaded g c =
    spelled_from c.args.wanted c.read_text-read.result c.strategy_of.result c.read_text-read.new.kept c.args.lines.now c.read_text-read.new.lines
    (g.S.Source.left c.args.source.now) (g.S.Source.left c.read_text-read.new.source) c.strategy_of.ensures c.read_text-read.ensures.ok

pub returns-clause-open : goal.returns-clause-open
returns-clause-open g c =
    open_from c.args.wanted c.read_text-read.result c.strategy_of.result c.read_text-read.new.kept c.args.lines.now c.read_text-read.new.lines
    (g.S.Source.left c.args.source.now) (g.S.Source.left c.read_text-read.new.source) c.strategy_of.ensures c.read_text-read.ensures.ok

pub returns-clause-forced : goal.returns-clause-forced
returns-clause-forced g c =
    spelled_force c.args.wanted c.strategy_of.result c.args.lines.now.held c.read_text-read.new.lines.held (g.S.Source.left c.args.source.now)
    (g.S.Source.left c.read_text-read.new.source) (returns-clause-loaded g c)

pub returns-clause-fault : goal.returns-clause-fault
returns-clause-fault g c =
    refused_from c.read_text-read.result c.strategy_of.result c.read_text-read.new.kept
    (λ fault. IsTextFaultOf c.args.wanted c.args.lines.now.held fault (g.S.Source.left c.args.source.now)
    (g.S.Source.left c.read_text-read.new.source)) c.strategy_of.ensures
    (text_fault_of c.args.wanted c.read_text-read.result c.args.lines.now.held (g.S.Source.left c.args.source.now)
    (g.S.Source.left c.read_text-read.new.source) c.read_text-read.ensures.refused)

pub returns-clause-exact : goal.returns-clause-exact
returns-clause-exact g c =
    exact_from c.args.wanted c.strategy_of.result c.args.lines.now.held c.read_text-read.new.lines.held (g.S.Source.left c.args.source.now)
    (g.S.Source.left c.read_text-read.new.source) (g.S.Source.faults c.args.source.now) (g.S.Source.faults c.read_text-read.new.source) (returns-clause-loaded g c)
    (returns-clause-fault g c)
    (failed_from c.read_text-read.result c.strategy_of.result c.read_text-read.new.kept _ c.strategy_of.ensures c.read_text-read.ensures.read)
