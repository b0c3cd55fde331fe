use Rattle.stretch_bench.proofs.TalkLemmas.{refereed_by}
use Rattle.stretch_bench.proofs.talking.refereed.Goals as goal

pub returns-clause-talk : goal.returns-clause-talk
returns-clause-talk g c =
    refereed_by c.args.strategy c.in-Ok.pool c.len-root.result c.begin-session.result c.referee.new.session.answers c.args.lines.now c.referee.new.lines _ _ _ _ _ _ _ _
    c.referee.result c.status_of.result c.in-Ok.ensures.terms c.in-Ok.ensures.nodes c.len-root.ensures.legal c.len-root.ensures.value c.in-Ok.ensures.root
    c.begin-session.ensures.begun c.requires.open c.status_of.ensures c.referee.ensures.outcome c.referee.ensures.read c.referee.ensures.write
