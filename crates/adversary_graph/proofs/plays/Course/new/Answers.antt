use Rattle.std.proofs.Common.{refl}
use Rattle.online_play.proofs.WonLemmas.{run-nil}
use Rattle.adversary_graph.proofs.plays.Course.new.Goals as goal

pub returns-clause-course : goal.returns-clause-course
returns-clause-course c =
    λ answer. rw (c.new.ensures.empty, c.new-2.ensures.empty, c.zero.ensures.value) (record { bins = refl; actual = run-nil c.args.game.now answer })
