use Rattle.std.proofs.Common.{ℕ, arith, subst}
use Rattle.items.specs.Game.{numbers}
use Rattle.minimax.specs.Answers.{IsAnswer}
use Rattle.bound_value.specs.Targets.{FallsShortIfUndecided}
use Rattle.bound_value.proofs.ValueLemmas.{enough_positions, found_next, made_game, none_past_twice, open_at}
use Rattle.bound_value.proofs.targets.value.Goals as goal

pub loop-target-preserved : goal.loop-target-preserved
loop-target-preserved c =
    let target : ℕ = c.loop-target.target in
    let game = made_game (numbers c.args.m c.args.g target) c.new.result c.unwrap-game.result c.new.ensures.exact c.unwrap-game.ensures in
    let answer = subst (λ game. IsAnswer game c.args.budget c.in_ok-strategy.field-0) game.0 c.in_ok-strategy.ensures.answer in
    let wins = subst (IsAnswer (numbers c.args.m c.args.g target) c.args.budget) c.in-Adversary.is answer in
    record {
      found = found_next c.args.m c.args.g c.args.budget target c.in-Adversary.strategy game.1.target (record { legal = wins.0; for_game = wins.1 });
    }

pub returns-in-Algorithm-clause-answer : goal.returns-in-Algorithm-clause-answer
returns-in-Algorithm-clause-answer c =
    let target : ℕ = c.loop-target.target in
    let game = made_game (numbers c.args.m c.args.g target) c.new.result c.unwrap-game.result c.new.ensures.exact c.unwrap-game.ensures in
    let answer = subst (λ game. IsAnswer game c.args.budget c.in_ok-strategy.field-0) game.0 c.in_ok-strategy.ensures.answer in
    let kept = subst (IsAnswer (numbers c.args.m c.args.g target) c.args.budget) c.in-Algorithm.is answer in
    c.valued.ensures.shown c.args.m c.args.g c.args.budget c.loop-target.invariant.found (record { legal = kept.0; for_game = kept.1 })

pub returns-in-Undecided-clause-answer : goal.returns-in-Undecided-clause-answer
returns-in-Undecided-clause-answer c =
    let target : ℕ = c.loop-target.target in
    let game = made_game (numbers c.args.m c.args.g target) c.new.result c.unwrap-game.result c.new.ensures.exact c.unwrap-game.ensures in
    let answer = subst (λ game. IsAnswer game c.args.budget c.in_ok-strategy.field-0) game.0 c.in_ok-strategy.ensures.answer in
    let due = subst (IsAnswer (numbers c.args.m c.args.g target) c.args.budget) c.in-Undecided.is answer in
    open_at c.args.m c.args.g c.args.budget target c.loop-target.below c.in-Undecided.visits c.in-Undecided.pass c.in-Undecided.path game.1.target
    c.loop-target.invariant.found due

pub returns-in-Undecided-clause-all_positions : goal.returns-in-Undecided-clause-all_positions
returns-in-Undecided-clause-all_positions c all counts room enough =
    let target : ℕ = c.loop-target.target in
    let game = made_game (numbers c.args.m c.args.g target) c.new.result c.unwrap-game.result c.new.ensures.exact c.unwrap-game.ensures in
    let short = subst (λ game. FallsShortIfUndecided game c.args.budget c.args.table c.in_ok-strategy.field-0) game.0 c.in_ok-strategy.ensures.short in
    enough_positions c.args.m c.args.g target c.args.budget c.args.table all game.1.target.high
    (subst (FallsShortIfUndecided (numbers c.args.m c.args.g target) c.args.budget c.args.table) c.in-Undecided.is short) counts room enough

pub unreachable-requires : goal.unreachable-requires
unreachable-requires c =
    none_past_twice c.args.m c.args.g c.args.budget c.loop-target.target c.loop-target.below c.requires.bins c.requires.capacity
    (omega (arith, c.loop-target-test.false, c.loop-target.auto.target, c.loop-target.auto.target-end, c.requires.capacity.low)) c.loop-target.invariant.found
