-- A session: a talk over the nodes of a pool.
use Rattle.std.specs.Prelude.{ℕ, List, Option}
use Rattle.adversary_graph.specs.Pools.{Pool}
use Rattle.referee_session.specs.Talk.{IsEnd, Talk, due_at, packing_at, talk}

-- the pool, the number of the node at which the play begins, and the answers so far
pub record SessionState : Type 0 where
  pub pool : Pool
  pub root : ℕ
  pub answers : List ℕ

abbrev pub state_of : Pool → ℕ → List ℕ → SessionState
state_of pool root answers = record { pool = pool; root = root; answers = answers }

-- the talk over the nodes of a pool
abbrev pub talk_in : Pool → ℕ → List ℕ → Talk
talk_in pool root answers = talk pool.game pool.nodes root answers

-- the talk of the answers so far
abbrev pub talk_of : SessionState → Talk
talk_of state = talk_in state.pool state.root state.answers

-- the item that waits for its bin
abbrev pub due_of : SessionState → Option ℕ
due_of state = due_at state.pool.nodes (talk_of state).stand

-- the play has ended
abbrev pub HasEnded : SessionState → Type 0
HasEnded state = IsEnd (talk_of state).stand

-- the packing of the play, where it has ended
abbrev pub packing_of : SessionState → Option (List (List ℕ))
packing_of state = packing_at state.pool.game state.pool.nodes (talk_of state).items (talk_of state).stand
