use Rattle.std.proofs.Common.{◌∙◌, subst, arith}
use Rattle.std.specs.Prelude.{MatchOption}
use Rattle.items.specs.Packable.{IsPacking, Packable}
use Rattle.adversary_graph.proofs.RuleLemmas.{game_volume}
use Rattle.minimax.proofs.NodeLemmas.{MayComeNext-win}
use Rattle.minimax.proofs.PlayableLemmas.{total_with}
use Rattle.minimax.proofs.nodes.push_win.Goals as goal

pub add-requires-clause-fits : goal.add-requires-clause-fits
add-requires-clause-fits c =
    let game = c.args.space.now.game in
    omega (arith, total_with game c.args.position.now c.args.size c.requires.may_come, game_volume game c.game_is_legal.ensures)

pub push-requires : goal.push-requires
push-requires c =
    let game = c.args.space.now.game in
    let packing = subst (λ xs. MatchOption c.in_ok-pack.pack (Packable game xs → ⊥) (λ bins. IsPacking game bins xs))
    c.add.ensures.added c.in_ok-pack.ensures.exact in
    record {
      next = MayComeNext-win c.args.space.now c.args.wins.now c.args.position.now c.args.size c.in_ok-pack.pack c.args.placements c.in_ok-from_slice.field-0
          c.in_ok-list.field-0 (c.in_ok-from_slice.ensures.ok ∙ c.as_slice.ensures.value) c.in_ok-list.ensures.ok c.requires.playable c.requires.listed
          c.requires.may_come c.requires.format c.requires.room c.requires.places packing;
    }
