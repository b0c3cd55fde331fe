-- Strategies of one side that have a text.
use Rattle.std.proofs.Common.{◌≤◌, List, [], ◌∷◌, length, map, arith, All}
use Rattle.std.specs.List.{AllByRecursion}
use Rattle.std.proofs.lemmas.List.{length-map}
use Rattle.std.proofs.lemmas.List.Elements.{recursion_from_All, All-from_recursion}
use Rattle.items.specs.Game.{GameNumbers, IsGame}
use Rattle.strategy_text.specs.declared.node.AdvNode.{AdvNode}
use Rattle.strategy_text.specs.declared.node.AlgNode.{AlgNode}
use Rattle.strategy_text.specs.declared.node.Format.{Format}
use Rattle.strategy_text.specs.declared.node.Nodes.TheVariants.{Adversary, Algorithm}
use Rattle.strategy_text.specs.Text.{of_adversary, of_algorithm}
use Rattle.strategy_text.specs.Spelling.{most_nodes, IsSpellableAdversary, IsSpellableAlgorithm, IsSpellableNode, IsSpellable}

each_adversary : (format : Format) (list : List AdvNode) → AllByRecursion (IsSpellableAdversary format) list → AllByRecursion (IsSpellableNode format) (map of_adversary list)
each_adversary format [] h = tt
each_adversary format (x ∷ xs) h = (h.0, each_adversary format xs h.1)

each_algorithm : (format : Format) (list : List AlgNode) → AllByRecursion (IsSpellableAlgorithm format) list → AllByRecursion (IsSpellableNode format) (map of_algorithm list)
each_algorithm format [] h = tt
each_algorithm format (x ∷ xs) h = (h.0, each_algorithm format xs h.1)

-- nodes of the adversary that lines can spell
pub adversary_nodes : (format : Format) (list : List AdvNode) → All (IsSpellableAdversary format) list → All (IsSpellableNode format) (map of_adversary list)
adversary_nodes format list h =
    All-from_recursion (IsSpellableNode format) (map of_adversary list) (each_adversary format list (recursion_from_All (IsSpellableAdversary format) list h))

-- nodes of the algorithm that lines can spell
pub algorithm_nodes : (format : Format) (list : List AlgNode) → All (IsSpellableAlgorithm format) list → All (IsSpellableNode format) (map of_algorithm list)
algorithm_nodes format list h =
    All-from_recursion (IsSpellableNode format) (map of_algorithm list) (each_algorithm format list (recursion_from_All (IsSpellableAlgorithm format) list h))

pub adversary_spellable : (format : Format) (game : GameNumbers) (list : List AdvNode) → IsGame game → 1 ≤ length list → length list ≤ most_nodes
    → All (IsSpellableAdversary format) list
    → IsSpellable (record { format = format; game = game; nodes = Adversary list })
adversary_spellable format game list legal low high h = record {
  bins = omega (arith, legal.bins.high);
  capacity = omega (arith, legal.capacity.high);
  target = omega (arith, legal.capacity.high, legal.target.high);
  low = omega (arith, length-map list of_adversary);
  high = omega (arith, length-map list of_adversary);
  each = adversary_nodes format list h;
}

pub algorithm_spellable : (format : Format) (game : GameNumbers) (list : List AlgNode) → IsGame game → 1 ≤ length list → length list ≤ most_nodes
    → All (IsSpellableAlgorithm format) list
    → IsSpellable (record { format = format; game = game; nodes = Algorithm list })
algorithm_spellable format game list legal low high h = record {
  bins = omega (arith, legal.bins.high);
  capacity = omega (arith, legal.capacity.high);
  target = omega (arith, legal.capacity.high, legal.target.high);
  low = omega (arith, length-map list of_algorithm);
  high = omega (arith, length-map list of_algorithm);
  each = algorithm_nodes format list h;
}
