use Rattle.std.proofs.Common.{◌<◌, codes, length, arith}
use Rattle.strategy_text.specs.Words.{after}
use Rattle.strategy_text.specs.Reading.{placement_at}
use Rattle.strategy_text.proofs.Loops.{many_more, many_stops, many_ends, from_none, after_shrinks}
use Rattle.strategy_text.proofs.StepsTaken.{placement_shrinks}
use Rattle.strategy_text.proofs.adversary.read_each_placement.Goals as goal

pub returns-in_default : goal.returns-in_default
returns-in_default c =
    let less = after_shrinks (codes "on") c.loop-words.words c.accept.new.self c.loop-words-test.ensures in
    from_none c.args.empty _ _ c.requires (many_stops (after (codes "on")) placement_at c.loop-words.placements c.loop-words.words c.accept.new.self
    _ c.loop-words-test.ensures c.in_default.ensures (omega (arith, less)) c.loop-words.invariant)

pub loop-words-smaller : goal.loop-words-smaller
loop-words-smaller c =
    omega (
      arith,
      after_shrinks (codes "on") c.loop-words.words c.accept.new.self c.loop-words-test.ensures,
      placement_shrinks c.accept.new.self
          (c.in-Some.placement, c.read_placement.new.words) c.in-Some.ensures,
    )

pub loop-words-preserved : goal.loop-words-preserved
loop-words-preserved c =
    let less : length c.read_placement.new.words < length c.loop-words.words = omega (
      arith,
      after_shrinks (codes "on") c.loop-words.words c.accept.new.self c.loop-words-test.ensures,
      placement_shrinks c.accept.new.self (c.in-Some.placement, c.read_placement.new.words) c.in-Some.ensures,
    ) in
    rw c.in_ok-push.ensures.ok (many_more (after (codes "on")) placement_at c.loop-words.placements c.loop-words.words c.accept.new.self
    c.read_placement.new.words c.in-Some.placement _
    c.loop-words-test.ensures c.in-Some.ensures less c.loop-words.invariant)

pub returns : goal.returns
returns c =
    let stays = c.loop-words-test.ensures.1 in
    rw stays (from_none c.args.empty _ _ c.requires
    (many_ends (after (codes "on")) placement_at c.loop-words.placements c.loop-words.words _ c.loop-words-test.ensures.0 c.loop-words.invariant))
