use Rattle.std.specs.Prelude.{ℕ, ◌==◌, ◌&&◌, Bool, List, if◌then◌else◌}
use Rattle.items.specs.Game.{GameNumbers}
use Rattle.algorithm_graph.specs.Pools.{Pool}
use Rattle.algorithm_graph.specs.Replies.{replies}

-- whether two games have the same numbers
abbrev pub is_same_game : GameNumbers → GameNumbers → Bool
is_same_game one other =
    one.bins == other.bins && (one.capacity == other.capacity && one.target == other.target)

-- what the nodes of a file answer as a player: to its own game their replies, to any other game bin 0
abbrev pub file_answer : Pool → GameNumbers → List ℕ → ℕ
file_answer file game history = if is_same_game game file.game then replies game file.nodes history else 0
