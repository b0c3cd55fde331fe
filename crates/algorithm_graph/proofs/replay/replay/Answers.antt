use Rattle.std.proofs.Common.{ℕ, ◌+◌, ◌<◌, List, length, get_or, sum, refl, sym, ap, ◌∙◌, subst, arith}
use Rattle.std.proofs.lemmas.List.{length-replicate, length-set}
use Rattle.std.proofs.lemmas.List.Folds.{sum_by-replicate}
use Rattle.online_play.proofs.RuleLemmas.{replay_fits, replay_total}
use Rattle.good_situations.specs.KeptOrder.{CanAdd}
use Rattle.node_pool.specs.Pools.{nodes_up_to}
use Rattle.algorithm_graph.specs.Replies.{move_at}
use Rattle.algorithm_graph.specs.Replaying.{stand_of}
use Rattle.algorithm_graph.proofs.StepLemmas.{replay_begins, replay_goes_on, replies_with, can_add_next}
use Rattle.algorithm_graph.proofs.replay.replay.Goals as goal

pub loop-size-init : goal.loop-size-init
loop-size-init c =
    let game = c.args.game.now in
    let zero = c.zero-actual.ensures.value in
    record {
      at = replay_begins game c.args.pool.now.nodes c.args.root c.zero-actual.result c.requires.root zero;
      stand = tt;
      one_each = ap length zero ∙ length-replicate game.bins 0;
      total = omega (arith, ap sum zero, sum_by-replicate (λ x. x) game.bins 0);
      bin = λ l. absurd (omega (arith, l));
    }

pub step_at-step-requires-clause-fits : goal.step_at-step-requires-clause-fits
step_at-step-requires-clause-fits c =
    let size : ℕ = get_or c.args.history.now c.loop-size.size-index 0 in
    subst (λ (xs : List ℕ). CanAdd xs size) (sym c.as_slice.ensures.value)
    (can_add_next c.args.game.now c.args.history.now c.loop-size.actual c.loop-size.size-index size c.zero-actual.ensures.legal c.requires.packable c.loop-size-test.true
    c.loop-size.invariant.total refl)

pub put-requires-clause-fits : goal.put-requires-clause-fits
put-requires-clause-fits c =
    replay_fits c.args.game.now c.args.history.now c.loop-size.actual c.loop-size.size-index c.step_at-step.result.bin c.zero-actual.ensures.legal c.requires.packable
    c.loop-size-test.true c.loop-size.invariant.total (omega (arith, c.step_at-step.ensures.in_range, c.loop-size.invariant.one_each))

pub loop-size-preserved : goal.loop-size-preserved
loop-size-preserved c =
    let game = c.args.game.now in
    let nodes = nodes_up_to c.args.root c.args.pool.now.nodes in
    let history = c.args.history.now in
    let actual = c.loop-size.actual in
    let i = c.loop-size.size-index in
    let size : ℕ = get_or history i 0 in
    let bin = c.step_at-step.result.bin in
    let stand = stand_of c.loop-size.stand in
    let next = stand_of c.step_at-step.result.next in
    let kept = c.loop-size.invariant in
    let added = c.put.ensures.added in
    let within : bin < length actual = omega (arith, c.step_at-step.ensures.in_range, kept.one_each) in
    let move = c.step_at-step.ensures.is ∙ ap (λ (xs : List ℕ). move_at game nodes xs size stand) c.as_slice.ensures.value in
    record {
      at = replay_goes_on game nodes history actual i size bin stand next kept.at c.loop-size-test.true refl move c.put.new.self added;
      stand = c.step_at-step.ensures.stand;
      one_each = ap length added ∙ length-set actual bin (get_or actual bin 0 + size) ∙ kept.one_each;
      total = omega (arith, ap sum added, replay_total history actual i bin c.loop-size-test.true kept.total within);
      bin = λ _. replies_with game nodes history actual i size bin stand next kept.at c.loop-size-test.true refl move (omega (arith, c.zero-actual.ensures.legal.bins.low));
    }
