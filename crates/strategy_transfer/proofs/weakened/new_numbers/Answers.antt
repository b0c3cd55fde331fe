use Rattle.std.proofs.Common.{ℕ, ◌+◌, ◌++◌, ◌∷◌, [], ◌∙◌, cond, ap, arith, length, refl, sym}
use Rattle.std.proofs.lemmas.Option.{slice_get_read}
use Rattle.strategy_transfer.specs.Weakened.{stays}
use Rattle.strategy_transfer.proofs.LinkLemmas.{numbered_more}
use Rattle.strategy_transfer.proofs.WeakenLemmas.{number_more, number_up_to}
use Rattle.strategy_transfer.proofs.weakened.new_numbers.Goals as goal

pub number_after-number-requires : goal.number_after-number-requires
number_after-number-requires c =
    let nodes = c.args.nodes.now in
    let l = c.loop-node in
    omega (arith, l.invariant.1, number_up_to c.args.t nodes l.node-index, c.loop-node-test.true, c.requires.linked.few)

pub loop-node-preserved : goal.loop-node-preserved
loop-node-preserved c =
    let nodes = c.args.nodes.now in
    let l = c.loop-node in
    let node = c.node-item.result in
    let here = slice_get_read nodes (length nodes) l.node-index node refl c.loop-node-test.true c.node-item.is in (
      numbered_more c.args.t nodes l.node-index l.numbers.items c.push.new.self.items l.invariant.0
          (c.in_ok-push.ensures.items ∙ ap (λ (n : ℕ). l.numbers.items ++ n ∷ []) l.invariant.1),
      c.number_after-number.ensures
          ∙ ap (λ (n : ℕ). n + cond (stays c.args.t node) 1 0) l.invariant.1
          ∙ sym (number_more c.args.t nodes l.node-index node here),
    )
