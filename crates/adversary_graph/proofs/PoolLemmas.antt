-- The rules that a node of a pool meets, and the legal strategy of a pool.
use Rattle.std.proofs.Common.{◌≡◌, ℕ, false, List, Some, take, map, sym, subst}
use Rattle.std.specs.List.{slice_get}
use Rattle.items.specs.Game.{GameNumbers}
use Rattle.items.specs.Multiset.{sizes_of}
use Rattle.strategy_text.specs.declared.node.AdvNode.{AdvNode}
use Rattle.strategy_text.specs.declared.node.Format.{Format}
use Rattle.strategy_text.specs.declared.node.Nodes.{Nodes}
use Rattle.strategy_text.specs.declared.node.Nodes.TheVariants as sides
use Rattle.strategy_text.specs.declared.node.Strategy.{Strategy}
use Rattle.node_pool.specs.Pools as pools
use Rattle.node_pool.specs.Pools.{terms_in}
use Rattle.adversary_graph.specs.Legal.{IsLegal, IsNodeOfFormat, MeetsRulesUnder}
use Rattle.adversary_graph.specs.Nodes.{position_of}
use Rattle.adversary_graph.specs.Pools.{AreLegal, IsLegalOfAdversary, IsPool, Pool}
use Rattle.adversary_graph.proofs.WonLemmas.{Met, met}

-- the rules that a node of a pool meets
pub rules_of : (pool : Pool) → IsPool pool → (number : ℕ) (node : AdvNode) → slice_get pool.nodes number ≡ Some node
    → Met pool.format pool.game pool.sizes (map position_of (take number pool.nodes)) node
rules_of pool p number node e =
    met pool.format pool.game pool.sizes (map position_of (take number pool.nodes)) false node (p.follow number node e)

-- the strategy of a pool of the whole game is legal
legal_nodes : (format : Format) (game : GameNumbers) (list : Nodes) (nodes : List AdvNode) → list ≡ sides.Adversary nodes → IsLegal format game (sizes_of game) nodes
    → AreLegal format game list
legal_nodes format game list nodes e legal = subst (AreLegal format game) (sym e) legal

pub IsLegal-of_pool : (strategy : Strategy) (pool : Pool) (nodes : List AdvNode) → pool.sizes ≡ sizes_of pool.game → strategy.format ≡ pool.format → strategy.game ≡ pool.game
    → strategy.nodes ≡ sides.Adversary nodes → pools.AreLegal position_of IsNodeOfFormat MeetsRulesUnder (terms_in pool) nodes → IsLegalOfAdversary strategy
IsLegal-of_pool strategy pool nodes whole format game is legal =
    legal_nodes strategy.format strategy.game strategy.nodes nodes is
    (subst (λ (f : Format). IsLegal f strategy.game (sizes_of strategy.game) nodes) (sym format)
    (subst (λ (g : GameNumbers). IsLegal pool.format g (sizes_of g) nodes) (sym game)
    (subst (λ (sizes : List ℕ). IsLegal pool.format pool.game sizes nodes) whole legal)))
