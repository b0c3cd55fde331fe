use Rattle.std.proofs.Common.{◌+◌, ◌∙◌, []}
use Rattle.adversary_graph.specs.Play.{end_at}
use Rattle.adversary_graph.proofs.EndLemmas.{ends_lost}
use Rattle.adversary_graph.proofs.PlayLemmas.{root_ready}
use Rattle.adversary_graph.proofs.plays.refute_by.Goals as goal

pub packing_for-requires : goal.packing_for-requires
packing_for-requires g c =
    let pool = c.args.pool.now in
    let p = c.pool_is_legal.ensures in
    let answer = g.O.Online.answer c.args.player.now pool.game in
    let algorithm = g.O.Online.is_algorithm c.args.player.now pool.game p.of_game in
    let facts = ends_lost pool p answer algorithm (c.args.root + 1) c.args.root [] (end_at c.play_on.new.course.items c.in_ok-end.end)
    (root_ready pool answer c.args.root p c.requires.root) c.in_ok-end.ensures.end in
    record { end = (facts.node, facts.is, rw c.as_slice.ensures.value facts.same) }

pub returns-clause-lost : goal.returns-clause-lost
returns-clause-lost g c =
    let pool = c.args.pool.now in
    let p = c.pool_is_legal.ensures in
    let answer = g.O.Online.answer c.args.player.now pool.game in
    let algorithm = g.O.Online.is_algorithm c.args.player.now pool.game p.of_game in
    let facts = ends_lost pool p answer algorithm (c.args.root + 1) c.args.root [] (end_at c.play_on.new.course.items c.in_ok-end.end)
    (root_ready pool answer c.args.root p c.requires.root) c.in_ok-end.ensures.end in
    record {
      packable = facts.packable;
      packed = rw c.as_slice.ensures.value at c.in_ok-packing.ensures.packed;
      reached = rw (c.in_ok-loads.ensures.ok ∙ c.as_slice-2.ensures.value ∙ c.in_ok-end.ensures.course.actual) facts.reached;
    }
