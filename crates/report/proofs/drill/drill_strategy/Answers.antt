use Rattle.std.proofs.Common.{List, length, ap, arith, subst, sym}
use Rattle.std.proofs.lemmas.List.{length-map}
use Rattle.items.specs.Game.{GameNumbers, numbers}
use Rattle.items.specs.Multiset.{sizes_of}
use Rattle.strategy_text.specs.Text.{of_adversary}
use Rattle.strategy_text.specs.declared.node.AdvNode.{AdvNode}
use Rattle.strategy_text.specs.declared.node.Format.TheVariants.{One}
use Rattle.adversary_graph.specs.Legal.{IsLegal}
use Rattle.report.proofs.DrillLemmas.{drill_is_legal, drill_length}
use Rattle.report.proofs.drill.drill_strategy.Goals as goal

pub returns-clause-number : goal.returns-clause-number
returns-clause-number c =
    let nodes = c.in_ok-nodes.nodes in
    omega (arith, length-map nodes of_adversary, ap length c.in_ok-nodes.ensures, drill_length c.args.number c.args.copies)

pub returns-clause-legal : goal.returns-clause-legal
returns-clause-legal c =
    subst (λ (game : GameNumbers). IsLegal One game (sizes_of game) c.in_ok-nodes.nodes) (sym c.drill_game.ensures)
    (subst (λ (nodes : List AdvNode). IsLegal One (numbers 2 3 4) (sizes_of (numbers 2 3 4)) nodes) (sym c.in_ok-nodes.ensures)
    (drill_is_legal c.args.number c.args.copies c.requires.low c.requires.high))
