use Rattle.std.proofs.Common.{◌≡◌, true, false, refl, arith, subst, sym}
use Rattle.items.specs.Multiset.{Same}
use Rattle.std.proofs.Common.{◌+◌, take}
use Rattle.match_player.proofs.AnswerLemmas.{Same_more, may_come_packable, total_small}
use Rattle.match_player.proofs.answers.multiset_of.Goals as goal

pub returns-then-not-may_come : goal.returns-then-not-may_come
returns-then-not-may_come c = λ packable.
    let come = may_come_packable c.args.game.now c.args.list.now c.loop-size.size-index _ c.loop-size.items c.loop-size-test.true refl c.loop-size.invariant packable in
    let wrong : false ≡ true = c.if-not-may_come.ensures.exact.1 come in
    absurd cc

pub put-requires-clause-high : goal.put-requires-clause-high
put-requires-clause-high c = let of_game = c.if-not-may_come.ensures.exact.0 refl in omega (arith, of_game.0.high, c.game_is_legal.ensures.capacity.high)

pub put-requires-clause-fits : goal.put-requires-clause-fits
put-requires-clause-fits c = let of_game = c.if-not-may_come.ensures.exact.0 refl in total_small c.args.game.now _ c.game_is_legal.ensures of_game.1

pub loop-size-preserved : goal.loop-size-preserved
loop-size-preserved c =
    subst (λ items. Same (take (c.loop-size.size-index + 1) c.args.list.now) items) (sym c.put.ensures.added)
    (Same_more c.args.list.now c.loop-size.size-index _ c.loop-size.items c.loop-size-test.true refl c.loop-size.invariant)
