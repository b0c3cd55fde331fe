use Rattle.std.specs.Prelude.{◌≡◌, ◌<◌, ℕ, List, All, Contains}
use Rattle.items.specs.Game.{GameNumbers, IsGame}
use Rattle.items.specs.Multiset.{sizes_of}
use Rattle.items.specs.Packable.{Packable}
use Rattle.online_play.specs.Algorithm.{IsAlgorithm, KeepsBelow, run}
use Rattle.strategy_text.specs.declared.node.AlgNode.{AlgNode}
use Rattle.strategy_text.specs.declared.node.Format.{Format}
use Rattle.algorithm_graph.specs.Legal.{IsLegal}
use Rattle.algorithm_graph.specs.Replies.{replies, replayed}

-- the replies of nodes to a game are an algorithm of it, whatever the nodes
abbrev pub RepliesAreAnAlgorithm : Type 0
RepliesAreAnAlgorithm =
    (game : GameNumbers) (nodes : List AlgNode) → IsGame game → IsAlgorithm game (replies game nodes)

-- the loads of a replay are those of the run of the replies
abbrev pub RunsAreReplays : Type 0
RunsAreReplays =
    (game : GameNumbers) (nodes : List AlgNode) (items : List ℕ) → IsGame game
    → run game (replies game nodes) items ≡ (replayed game nodes items).actual

-- over the sizes that items may have: the loads of a replay of a legal strategy stay below the target, on every
-- packable list of items of these sizes
abbrev pub LegalReplaysStayBelow : Type 0
LegalReplaysStayBelow =
    (format : Format) (game : GameNumbers) (sizes : List ℕ) (nodes : List AlgNode) (items : List ℕ)
    → IsLegal format game sizes nodes → Packable game items → All (Contains sizes) items
    → All (λ load. load < game.target) (replayed game nodes items).actual

-- the replies of a legal strategy keep every load below the target, on every packable list of items
abbrev pub LegalRepliesKeepBelow : Type 0
LegalRepliesKeepBelow =
    (format : Format) (game : GameNumbers) (nodes : List AlgNode) → IsLegal format game (sizes_of game) nodes
    → KeepsBelow game (replies game nodes)
