use Rattle.listed_sizes.proofs.AnswerLemmas.{adversary_found, algorithm_found, room_decides}
use Rattle.listed_sizes.proofs.solving.solve_listed.Goals as goal

pub returns-in-Adversary-clause-answer : goal.returns-in-Adversary-clause-answer
returns-in-Adversary-clause-answer g c =
    let found = adversary_found c.args.listed.now c.game-game.result c.set.result.now c.args.budget c.in_ok-strategy.field-0 c.in-Adversary.strategy
    c.game-game.ensures.value c.set.ensures.value c.set.ensures.legal c.in-Adversary.is c.in_ok-strategy.ensures.answer in
    c.found.ensures.legal c.args.budget found.0 found.1

pub returns-in-Algorithm-clause-answer : goal.returns-in-Algorithm-clause-answer
returns-in-Algorithm-clause-answer g c =
    let found = algorithm_found c.args.listed.now c.game-game.result c.set.result.now c.args.budget c.in_ok-strategy.field-0 c.in-Algorithm.strategy
    c.game-game.ensures.value c.set.ensures.value c.set.ensures.legal c.in-Algorithm.is c.in_ok-strategy.ensures.answer in
    c.found-in-Algorithm.ensures.legal c.args.budget found.0 found.1

pub returns-in-Undecided-clause-all_positions : goal.returns-in-Undecided-clause-all_positions
returns-in-Undecided-clause-all_positions g c =
    room_decides c.args.listed.now c.game-game.result c.set.result.now (g.M.Memo.room c.args.memo.now) c.args.budget c.in-Undecided.visits c.in-Undecided.pass
    c.in-Undecided.path c.in_ok-strategy.field-0 c.game-game.ensures.value c.set.ensures.value c.in-Undecided.is c.in_ok-strategy.ensures.all_positions
