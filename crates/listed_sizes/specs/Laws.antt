-- What a legal strategy with listed sizes shows: the theorem T6.
use Rattle.std.specs.Prelude.{◌≢◌, ℕ, ◌<◌, List, [], All, Contains}
use Rattle.checker.specs.Listed.{IsLegalOver}
use Rattle.items.specs.Game.{GameNumbers}
use Rattle.items.specs.Multiset.{IsSize, sizes_of}
use Rattle.items.specs.Packable.{Packable}
use Rattle.online_play.specs.Algorithm.{ForcesEvery, IsForcedOn, run}
use Rattle.adversary_graph.specs.Legal as adversary
use Rattle.algorithm_graph.specs.Legal as algorithm
use Rattle.algorithm_graph.specs.Replies.{replies}
use Rattle.strategy_text.specs.declared.node.AdvNode.{AdvNode}
use Rattle.strategy_text.specs.declared.node.AlgNode.{AlgNode}
use Rattle.strategy_text.specs.declared.node.Format.{Format}

-- a deterministic online algorithm of the game with these sizes: it answers a bin for the last item of each nonempty
-- packable list of them
abbrev pub IsListedAlgorithm : GameNumbers → List ℕ → (List ℕ → ℕ) → Type 0
IsListedAlgorithm game sizes answer =
    (items : List ℕ) → items ≢ [] → Packable game items → All (Contains sizes) items → answer items < game.bins

-- the algorithm is forced by these sizes alone: there is a packable list of them on which one of its loads reaches the
-- target
abbrev pub ListedForced : GameNumbers → List ℕ → (List ℕ → ℕ) → Type 0
ListedForced game sizes answer = (items : List ℕ) × IsForcedOn game answer items × All (Contains sizes) items

-- the game with these sizes forces every algorithm of it
abbrev pub ListedForcesEvery : GameNumbers → List ℕ → Type 0
ListedForcesEvery game sizes = (answer : List ℕ → ℕ) → IsListedAlgorithm game sizes answer → ListedForced game sizes answer

-- on every packable list of these sizes all loads of the algorithm are below the target
abbrev pub ListedKeepsBelow : GameNumbers → List ℕ → (List ℕ → ℕ) → Type 0
ListedKeepsBelow game sizes answer =
    (items : List ℕ) → Packable game items → All (Contains sizes) items
    → All (λ load. load < game.target) (run game answer items)

-- a legal strategy of the adversary with listed sizes forces every algorithm of the game with these sizes
abbrev pub LegalListedStrategiesForce : Type 0
LegalListedStrategiesForce =
    (format : Format) (game : GameNumbers) (sizes : List ℕ) (nodes : List AdvNode) → All (IsSize game.capacity) sizes
    → adversary.IsLegal format game sizes nodes → ListedForcesEvery game sizes

-- its nodes are a legal strategy over all sizes of the game too, so every algorithm of the whole game is forced
abbrev pub ListedAdversariesAreLegal : Type 0
ListedAdversariesAreLegal =
    (format : Format) (game : GameNumbers) (sizes : List ℕ) (nodes : List AdvNode) → All (IsSize game.capacity) sizes
    → adversary.IsLegal format game sizes nodes → adversary.IsLegal format game (sizes_of game) nodes

abbrev pub ListedAdversariesForceEvery : Type 0
ListedAdversariesForceEvery =
    (format : Format) (game : GameNumbers) (sizes : List ℕ) (nodes : List AdvNode) → All (IsSize game.capacity) sizes
    → adversary.IsLegal format game sizes nodes → ForcesEvery game

-- the replies of a legal strategy of the algorithm with listed sizes keep every load below the target, on every packable
-- list of these sizes
abbrev pub LegalListedRepliesKeepBelow : Type 0
LegalListedRepliesKeepBelow =
    (format : Format) (game : GameNumbers) (sizes : List ℕ) (nodes : List AlgNode)
    → algorithm.IsLegal format game sizes nodes → ListedKeepsBelow game sizes (replies game nodes)
