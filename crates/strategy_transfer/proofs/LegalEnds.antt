-- The root of a legal strategy, the end packings of its nodes, and what they lead to.
use Rattle.std.proofs.Common.{◌≡◌, ℕ, ◌+◌, ◌-◌, length, Some, None, List, ◌++◌, arith}
use Rattle.std.specs.Prelude.{slice_get}
use Rattle.items.specs.Game.{GameNumbers}
use Rattle.items.proofs.SizesLemmas.{sizes_are_sizes}
use Rattle.items.specs.Multiset.{sizes_of}
use Rattle.strategy_text.specs.declared.node.AdvNode.{AdvNode}
use Rattle.strategy_text.specs.declared.node.Format.{Format}
use Rattle.node_pool.specs.Terms.{whole_game}
use Rattle.node_pool.proofs.PoolLemmas.{IsPool-from_legal, root_of_legal}
use Rattle.adversary_graph.specs.Legal.{IsLegal, IsNodeOfFormat, MeetsRulesUnder}
use Rattle.adversary_graph.specs.Nodes.{packing_of, position_of, sent_items}
use Rattle.adversary_graph.specs.NodesAreJudged.{root_is_asked_last}
use Rattle.adversary_graph.specs.Pools.{IsPool, IsRoot, pool_of}
use Rattle.adversary_graph.proofs.EndLemmas.{HasEndPacking, has_end_packing, no_packing}
use Rattle.strategy_transfer.specs.Weakening.{HasFirstChild}

module _ (format : Format) (game : GameNumbers) (nodes : List AdvNode) (legal : IsLegal format game (sizes_of game) nodes) where
  -- the last node has the empty position
  pub legal_root : IsRoot nodes (length nodes - 1)
  legal_root = root_of_legal position_of IsNodeOfFormat MeetsRulesUnder root_is_asked_last (whole_game format game) nodes legal

  legal_pool : IsPool (pool_of format game nodes)
  legal_pool =
      IsPool-from_legal position_of IsNodeOfFormat MeetsRulesUnder root_is_asked_last (whole_game format game) nodes
      (record { of_game = legal.of_game; sizes = sizes_are_sizes game }) legal

  -- each node has an end packing, of its items with what it sends and maybe more
  pub legal_ends : (number : ℕ) (node : AdvNode) → slice_get nodes number ≡ Some node
      → HasEndPacking game nodes (number + 1) number (node.items ++ sent_items node.step)
  legal_ends number node e =
      has_end_packing (pool_of format game nodes) legal_pool (number + 1) number node (omega arith) e

  -- a node without a packing leads to one before it
  pub legal_first : (number : ℕ) (node : AdvNode) → slice_get nodes number ≡ Some node → packing_of node.step ≡ None → HasFirstChild number node.step
  legal_first number node e none =
      no_packing (pool_of format game nodes) legal_pool node.loads node.items node.step number e none
