-- Serves private contracts: how the wins that a search kept become a strategy.
use Rattle.std.specs.Prelude.{◌≡◌, ℕ, ◌<◌, ◌≤◌, ◌⊎◌, Bool, false, List, Some, ◌∷◌, [], ◌++◌, length, map}
use Rattle.std.specs.Prelude.{slice_get, slice_index_or, All, Contains}
use Rattle.minimax.specs.declared.space.Space.{Space}
use Rattle.items.specs.Packable.{Packable}
use Rattle.loads.specs.Position.{StandsAt}
use Rattle.loads.specs.Wins.{empty_position}
use Rattle.strategy_text.specs.Spelling.{most_nodes}
use Rattle.strategy_text.specs.declared.node.Placement.{Placement}
use Rattle.strategy_text.specs.declared.node.Then.{Then}
use Rattle.strategy_text.specs.declared.node.Then.TheVariants.{Over, To}
use Rattle.adversary_graph.specs.Nodes as adversary
use Rattle.adversary_graph.specs.Pools as adversary_pools
use Rattle.minimax.specs.Reached.{IsMarked, LeadsBelow}
use Rattle.minimax.specs.State.{AreReadyWins, IsPlain, IsPlayable, PlacesAll, PutsWin, position_of_win}
use Rattle.minimax.specs.declared.wins.Win.{Win}

-- the wins lead to one another, and the root stands among them
pub record MayWriteWins (space : Space) (wins : List Win) (root : ℕ) : Type 0 where
  pub ready : AreReadyWins space wins
  pub is_root : StandsAt (map position_of_win wins) root (empty_position space.game)
  pub few : length wins ≤ most_nodes

-- what follows, with the number in a list in place of each number
abbrev pub renumbered_next : List ℕ → Then → Then
renumbered_next numbers Over = Over
renumbered_next numbers (To child) = To (slice_index_or numbers child 0)

abbrev pub renumbered : List ℕ → Placement → Placement
renumbered numbers placement = record { load = placement.load; next = renumbered_next numbers placement.next }

-- the node of a win may be put: with the numbers of the nodes it leads to nodes of the pool
pub record MayPutWin (space : Space) (pool : adversary_pools.Pool) (numbers : List ℕ) (win : Win) : Type 0 where
  pub playable : IsPlayable space win.position
  pub listed : Contains space.sizes win.size
  pub may_come : Packable space.game (win.position.items ++ win.size ∷ [])
  pub of_format : IsPlain space pool
  pub room : length pool.nodes < most_nodes
  pub below : All (λ placement. LeadsBelow (length numbers) placement.next) win.placements
  pub places : PlacesAll space.game (map adversary.position_of pool.nodes) win.position win.size
      (map (renumbered numbers) win.placements)

-- a win that is reached got its node
abbrev pub WritesWin : adversary_pools.Pool → adversary_pools.Pool → Win → Bool → ℕ → Type 0
WritesWin before after win reached number =
    ((reached ≡ false) × (after ≡ before)) ⊎ PutsWin before after win.position number

-- the first wins, so many, have numbers, and each that is marked has that of a node at its position
pub record AreWritten (space : Space) (wins : List Win) (marks : List Bool) (k : ℕ) (pool : adversary_pools.Pool)
    (numbers : List ℕ) : Type 0 where
  pub of_game : pool.game ≡ space.game
  pub of_format : IsPlain space pool
  pub few : length pool.nodes ≤ k
  pub one_each : length numbers ≡ k
  pub stand : (j : ℕ) (win : Win) → j < k → slice_get wins j ≡ Some win → IsMarked marks j
      → StandsAt (map adversary.position_of pool.nodes) (slice_index_or numbers j 0) win.position
