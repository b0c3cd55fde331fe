use Rattle.std.proofs.Common.{sym, subst, arith}
use Rattle.std.specs.Prelude.{All}
use Rattle.items.specs.Multiset.{IsSize}
use Rattle.items.proofs.SizesLemmas.{sizes_are_sizes}
use Rattle.monotone.specs.Passes.{whole_game}
use Rattle.minimax.proofs.FreshLemmas.{decided_by_all, decided_by_passes, on_whole, won_by_pass}
use Rattle.minimax.proofs.RootLemmas.{IsAnswer-over, decided_by_visits}
use Rattle.minimax.proofs.game_search.solve.Goals as goal

pub search_passes-requires-clause-sizes : goal.search_passes-requires-clause-sizes
search_passes-requires-clause-sizes g c =
    subst (All (IsSize c.args.game.now.capacity)) (sym c.of_game.ensures.value) (sizes_are_sizes c.args.game.now)

pub search_passes-requires-clause-first : goal.search_passes-requires-clause-first
search_passes-requires-clause-first g c = omega (arith, c.game_is_legal.ensures.capacity.low)

pub returns-clause-answer : goal.returns-clause-answer
returns-clause-answer g c =
    on_whole c.args.game.now c.of_game.result (g.M.Memo.room c.args.memo.now) c.args.budget c.search_passes.result c.of_game.ensures.value
    c.search_passes.ensures.answer c.search_passes.ensures.within
    (λ answer is within. IsAnswer-over c.args.game.now c.args.budget answer is)

pub returns-clause-many_visits : goal.returns-clause-many_visits
returns-clause-many_visits g c enough =
    on_whole c.args.game.now c.of_game.result (g.M.Memo.room c.args.memo.now) c.args.budget c.search_passes.result c.of_game.ensures.value
    c.search_passes.ensures.answer c.search_passes.ensures.within
    (λ answer is within. decided_by_visits (whole_game c.args.game.now) c.args.budget answer is enough)

pub returns-clause-all_positions : goal.returns-clause-all_positions
returns-clause-all_positions g c all counts few enough =
    on_whole c.args.game.now c.of_game.result (g.M.Memo.room c.args.memo.now) c.args.budget c.search_passes.result c.of_game.ensures.value
    c.search_passes.ensures.answer c.search_passes.ensures.within
    (λ answer is within. decided_by_all c.args.game.now (g.M.Memo.room c.args.memo.now) c.args.budget answer is within all counts few enough)

pub returns-clause-each_pass : goal.returns-clause-each_pass
returns-clause-each_pass g c numbers are room enough =
    on_whole c.args.game.now c.of_game.result (g.M.Memo.room c.args.memo.now) c.args.budget c.search_passes.result c.of_game.ensures.value
    c.search_passes.ensures.answer c.search_passes.ensures.within
    (λ answer is within. decided_by_passes c.args.game.now (g.M.Memo.room c.args.memo.now) c.args.budget answer is within room numbers are enough)

pub returns-clause-won_pass : goal.returns-clause-won_pass
returns-clause-won_pass g c numbers pass are room won enough =
    on_whole c.args.game.now c.of_game.result (g.M.Memo.room c.args.memo.now) c.args.budget c.search_passes.result c.of_game.ensures.value
    c.search_passes.ensures.answer c.search_passes.ensures.within
    (λ answer is within. won_by_pass c.args.game.now (g.M.Memo.room c.args.memo.now) c.args.budget answer is within room numbers are pass won enough)
