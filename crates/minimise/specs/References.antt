-- What a node leads to, and the node with its references renamed.
use Rattle.std.specs.Prelude.{ℕ, List, map}
use Rattle.std.specs.List.{filter_map}
use Rattle.strategy_text.specs.declared.node.Act.{Act}
use Rattle.strategy_text.specs.declared.node.Act.TheVariants.{Finish, Big, Reply}
use Rattle.strategy_text.specs.declared.node.AdvNode.{AdvNode}
use Rattle.strategy_text.specs.declared.node.AlgNode.{AlgNode}
use Rattle.strategy_text.specs.declared.node.Entry.{Entry}
use Rattle.strategy_text.specs.declared.node.Placement.{Placement}
use Rattle.strategy_text.specs.declared.node.Step.{Step}
use Rattle.strategy_text.specs.declared.node.Step.TheVariants.{Send, Burst}
use Rattle.adversary_graph.specs.Nodes.{placements_of}
use Rattle.adversary_graph.specs.Play.{child_of}
use Rattle.adversary_graph.specs.Renamed.{renamed_then}
use Rattle.algorithm_graph.specs.Nodes.{entries_of}

-- ---- the adversary's nodes

-- the references of a node, in the order of its placements
abbrev pub adversary_references : AdvNode → List ℕ
adversary_references node = filter_map (λ placement. child_of placement.next) (placements_of node.step)

abbrev pub renamed_placement : (ℕ → ℕ) → Placement → Placement
renamed_placement name placement = record placement { next = renamed_then name placement.next }

abbrev pub renamed_step : (ℕ → ℕ) → Step → Step
renamed_step name (Send size pack placements) = Send size pack (map (renamed_placement name) placements)
renamed_step name (Burst count size pack) = Burst count size pack

-- the node, each of its references renamed
abbrev pub renamed_adversary : (ℕ → ℕ) → AdvNode → AdvNode
renamed_adversary name node = record node { step = renamed_step name node.step }

-- ---- the algorithm's nodes

-- the references of a node, in the order of its replies
abbrev pub algorithm_references : AlgNode → List ℕ
algorithm_references node = map (λ entry. entry.to) (entries_of node.act)

abbrev pub renamed_entry : (ℕ → ℕ) → Entry → Entry
renamed_entry name entry = record entry { to = name entry.to }

abbrev pub renamed_act : (ℕ → ℕ) → Act → Act
renamed_act name Finish = Finish
renamed_act name (Big bins) = Big bins
renamed_act name (Reply entries) = Reply (map (renamed_entry name) entries)

-- the node, each of its references renamed
abbrev pub renamed_algorithm : (ℕ → ℕ) → AlgNode → AlgNode
renamed_algorithm name node = record node { act = renamed_act name node.act }
