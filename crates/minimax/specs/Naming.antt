-- Serves private contracts: the nodes of positions that finish, which are put where a reply leads to them.
use Rattle.std.specs.Prelude.{◌≡◌, ℕ, ◌+◌, ◌<◌, ◌≤◌, ◌⊎◌, List, Option, Some, None, IsSome, length, map}
use Rattle.std.specs.Prelude.{slice_index_or, if◌then◌else◌}
use Rattle.std.specs.Prelude.{All, Contains}
use Rattle.minimax.specs.declared.space.Space.{Space}
use Rattle.loads.specs.Position.{are_equal}
use Rattle.loads.specs.Position.{StandsAt}
use Rattle.loads.specs.declared.position.Position.{Position}
use Rattle.good_situations.specs.Finish.{Finishes}
use Rattle.strategy_text.specs.Spelling.{most_nodes}
use Rattle.strategy_text.specs.declared.node.Entry.{Entry}
use Rattle.algorithm_graph.specs.Nodes as algorithm
use Rattle.transposition.specs.Bounded.{found}
use Rattle.minimax.specs.Serving.{led_to}
use Rattle.minimax.specs.State.{IsLed, IsPending, IsPlain, IsPlayable, IsReply, PutsReply, position_of_reply}
use Rattle.minimax.specs.declared.replies.Reply.{Reply}
use Rattle.minimax.specs.declared.writing.Written.{Written}
use Rattle.minimax.specs.declared.finish_nodes.TheConstants.{FINISHES}

-- the algorithm's pool is of the whole game and of format 1
pub record HasReplies (space : Space) (written : Written) : Type 0 where
  pub of_game : written.pool.game ≡ space.game
  pub of_format : IsPlain space written.pool

-- the number of the node that finishes at a position, where it was put
abbrev pub number_of : List (Position × ℕ) → Position → Option ℕ
number_of finishes position = found are_equal finishes position

-- a node that finishes may be put at the position where there is none
pub record MayFinish (space : Space) (written : Written) (position : Position) : Type 0 where
  pub replies : HasReplies space written
  pub playable : IsPlayable space position
  pub finishes : Finishes space.game position.loads
  pub room : number_of written.finishes position ≡ None → length written.pool.nodes < most_nodes

-- a node that finishes was put at a position that had none
pub record NamesNew (before after : Written) (position : Position) (number : ℕ) : Type 0 where
  pub none : number_of before.finishes position ≡ None
  pub puts : PutsReply before.pool after.pool position number
  pub same : after ≡ record before { pool = after.pool; finishes = after.finishes }
  pub numbers : (other : Position) → number_of after.finishes other
      ≡ (if are_equal position other then Some number else number_of before.finishes other)

-- the number is that of the node that finishes at the position, which was there or was put
abbrev pub Names : Written → Written → Position → ℕ → Type 0
Names before after position number =
    ((after ≡ before) × (number_of before.finishes position ≡ Some number)) ⊎ NamesNew before after position number

-- each of the replies has a number, which is that of a node at its position
pub record AreNumbered (earlier : List Reply) (written : Written) : Type 0 where
  pub one_each : length written.numbers.items ≡ length earlier
  pub stand : (k : ℕ) (position : Position) → StandsAt (map position_of_reply earlier) k position
      → StandsAt (map algorithm.position_of written.pool.nodes) (slice_index_or written.numbers.items k 0) position

-- replies of this number stand at the position, or a node that finishes may be put there
pub record MayNumber (space : Space) (earlier : List Reply) (written : Written) (position : Position)
    (told : ℕ) : Type 0 where
  pub replies : HasReplies space written
  pub playable : IsPlayable space position
  pub led : IsLed space earlier position told
  pub numbered : AreNumbered earlier written
  pub few : length earlier ≤ most_nodes
  pub room : told ≡ FINISHES → number_of written.finishes position ≡ None → length written.pool.nodes < most_nodes

-- the number of a node at the position, or of one that finishes
abbrev pub Numbers : Written → Written → Position → ℕ → ℕ → Type 0
Numbers before after position told number =
    ((after ≡ before) × StandsAt (map algorithm.position_of before.pool.nodes) number position)
    ⊎ ((told ≡ FINISHES) × Names before after position number)

-- the entry may get the number of a node
pub record MayName (space : Space) (earlier : List Reply) (written : Written) (position : Position)
    (entry : Entry) : Type 0 where
  pub playable : IsPlayable space position
  pub pending : IsPending space earlier position entry
  pub number : MayNumber space earlier written (led_to position entry) entry.to

-- the entry with the number of a node, of the size and load that it had
pub record IsNamed (before after : Written) (position : Position) (entry named : Entry) : Type 0 where
  pub size : named.size ≡ entry.size
  pub load : named.load ≡ entry.load
  pub number : Numbers before after (led_to position entry) entry.to named.to

-- nodes that finish were put where entries lead
pub data NamesAll (space : Space) (position : Position) (entries : List Entry) : Written → Written → Type 0 where
  none_named : (written : Written) → NamesAll space position entries written written
  one_named : (before middle after : Written) (entry : Entry) (number : ℕ)
      → NamesAll space position entries before middle
      → Contains entries entry → entry.to ≡ FINISHES → Names middle after (led_to position entry) number
      → NamesAll space position entries before after

-- so many nodes may be put beside those of the list, and each number that was given is that of a node at the position
pub record LeavesRoom (limit spare : ℕ) (unnamed : List Position) (written : Written) : Type 0 where
  pub few : length unnamed + length written.pool.nodes + spare ≤ limit
  pub named : (position : Position) (number : ℕ) → number_of written.finishes position ≡ Some number
      → StandsAt (map algorithm.position_of written.pool.nodes) number position

-- a position that finishes is on the list, or has a node
abbrev pub IsPlaced : List Position → Written → Position → Type 0
IsPlaced unnamed written position = Contains unnamed position ⊎ IsSome (number_of written.finishes position)

abbrev pub IsEntryPlaced : List Position → Written → Position → Entry → Type 0
IsEntryPlaced unnamed written position entry = entry.to ≡ FINISHES → IsPlaced unnamed written (led_to position entry)

-- each entry may get the number of a node, and each that leads to a position that finishes is placed
pub record MayNameAll (space : Space) (earlier : List Reply) (written : Written) (position : Position)
    (entries : List Entry) : Type 0 where
  pub replies : HasReplies space written
  pub playable : IsPlayable space position
  pub pending : All (IsPending space earlier position) entries
  pub numbered : AreNumbered earlier written
  pub few : length earlier ≤ most_nodes
  pub limit : ℕ
  pub within : limit ≤ most_nodes
  pub unnamed : List Position
  pub under : LeavesRoom limit 1 unnamed written
  pub placed : All (IsEntryPlaced unnamed written position) entries

-- the entries are the same but for the numbers, and each leads to a node
pub record AreNamed (space : Space) (written : Written) (position : Position)
    (entries named : List Entry) : Type 0 where
  pub sizes : map (λ (entry : Entry). entry.size) named ≡ map (λ (entry : Entry). entry.size) entries
  pub each : All (IsReply space.game written.pool.nodes position) named

-- nodes that finish were put where entries lead, and then the node that replies at the position
pub record PutsNamed (space : Space) (before after : Written) (position : Position) (entries : List Entry)
    (number : ℕ) : Type 0 where
  pub between : Written
  pub all : NamesAll space position entries before between
  pub puts : PutsReply between.pool after.pool position number
  pub same : after ≡ record between { pool = after.pool }
