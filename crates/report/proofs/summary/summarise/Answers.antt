use Rattle.report.proofs.LeadLemmas.{legal_leads, legal_length}
use Rattle.report.proofs.summary.summarise.Goals as goal

pub depth_of-requires-clause-some : goal.depth_of-requires-clause-some
depth_of-requires-clause-some c = let s = c.args.strategy.now in (legal_length s.format s.game s.nodes c.requires.legal).0

pub depth_of-requires-clause-leads : goal.depth_of-requires-clause-leads
depth_of-requires-clause-leads c = let s = c.args.strategy.now in legal_leads s.format s.game s.nodes c.requires.legal
