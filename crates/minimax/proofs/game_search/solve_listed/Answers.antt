use Rattle.std.proofs.Common.{◌-◌, sym, ap, subst, arith}
use Rattle.std.specs.Prelude.{All}
use Rattle.items.specs.Multiset.{IsSize}
use Rattle.monotone.specs.Passes.{listed_sizes}
use Rattle.minimax.proofs.FreshLemmas.{decided_by_listed, on_listed, visits_of_one_pass}
use Rattle.minimax.proofs.RootLemmas.{decided_by_visits}
use Rattle.minimax.proofs.game_search.solve_listed.Goals as goal

pub search_passes-requires-clause-sizes : goal.search_passes-requires-clause-sizes
search_passes-requires-clause-sizes g c =
    subst (All (IsSize c.args.game.now.capacity)) (sym c.copy.ensures.same) c.requires.sizes

pub search_passes-requires-clause-first : goal.search_passes-requires-clause-first
search_passes-requires-clause-first g c = omega (arith, c.g.ensures.value, c.game_is_legal.ensures.capacity.low)

pub returns-clause-answer : goal.returns-clause-answer
returns-clause-answer g c =
    on_listed c.args.game.now c.args.sizes.now c.copy.result (g.M.Memo.room c.args.memo.now) c.args.budget (c.g.result - 1) c.search_passes.result
    c.copy.ensures.same (ap (λ n. n - 1) c.g.ensures.value) c.search_passes.ensures.answer c.search_passes.ensures.within
    (λ answer is within. is)

pub returns-clause-many_visits : goal.returns-clause-many_visits
returns-clause-many_visits g c enough =
    on_listed c.args.game.now c.args.sizes.now c.copy.result (g.M.Memo.room c.args.memo.now) c.args.budget (c.g.result - 1) c.search_passes.result
    c.copy.ensures.same (ap (λ n. n - 1) c.g.ensures.value) c.search_passes.ensures.answer c.search_passes.ensures.within
    (λ answer is within. decided_by_visits (listed_sizes c.args.game.now c.args.sizes.now) c.args.budget answer is
    (visits_of_one_pass c.args.game.now c.args.sizes.now c.args.budget c.game_is_legal.ensures.capacity.low enough))

pub returns-clause-all_positions : goal.returns-clause-all_positions
returns-clause-all_positions g c all counts few enough =
    on_listed c.args.game.now c.args.sizes.now c.copy.result (g.M.Memo.room c.args.memo.now) c.args.budget (c.g.result - 1) c.search_passes.result
    c.copy.ensures.same (ap (λ n. n - 1) c.g.ensures.value) c.search_passes.ensures.answer c.search_passes.ensures.within
    (λ answer is within. decided_by_listed c.args.game.now c.args.sizes.now (g.M.Memo.room c.args.memo.now) c.args.budget answer is within all counts few enough)
