-- Serves private contracts: how the replies that a search kept become a strategy.
use Rattle.std.specs.Prelude.{◌≡◌, ℕ, ◌+◌, ◌-◌, ◌≤◌, List, [], ◌∷◌, ◌++◌, length, take}
use Rattle.std.specs.Prelude.{All, Contains}
use Rattle.minimax.specs.declared.space.Space.{Space}
use Rattle.loads.specs.Wins.{empty_position}
use Rattle.loads.specs.declared.position.Position.{Position}
use Rattle.strategy_text.specs.Spelling.{most_nodes}
use Rattle.minimax.specs.Naming.{AreNumbered, HasReplies, IsEntryPlaced, IsPlaced, LeavesRoom, MayNameAll, PutsNamed}
use Rattle.minimax.specs.Serving.{IsEntryServed}
use Rattle.minimax.specs.State.{AreReady, IsLed, IsPlayable, IsReady}
use Rattle.minimax.specs.declared.finish_nodes.TheConstants.{FINISHES}
use Rattle.minimax.specs.declared.replies.Reply.{Reply}
use Rattle.minimax.specs.declared.writing.Written.{Written}

-- the replies lead to one another and to positions of a list, with which they are no more than the budget, and the root
-- stands among them
pub record MayWrite (space : Space) (replies : List Reply) (root : Position) (told budget : ℕ) : Type 0 where
  pub ready : AreReady space replies
  pub playable : IsPlayable space root
  pub is_root : root ≡ empty_position space.game
  pub led : IsLed space replies root told
  pub unnamed : List Position
  pub few : length unnamed + length replies ≤ budget
  pub limit : budget ≤ most_nodes
  pub served : (reply : Reply) → Contains replies reply → All (IsEntryServed unnamed reply.position) reply.entries.items
  pub root_served : told ≡ FINISHES → Contains unnamed root

-- a reply may be written over the earlier ones
pub record MayPut (space : Space) (written : Written) (reply : Reply) : Type 0 where
  pub earlier : List Reply
  pub ready : IsReady space earlier reply
  pub may : MayNameAll space earlier written reply.position reply.entries.items

-- a reply was written, and its number put at the end
pub record Puts (space : Space) (before after : Written) (reply : Reply) : Type 0 where
  pub number : ℕ
  pub between : Written
  pub puts : PutsNamed space before between reply.position reply.entries.items number
  pub same : after ≡ record between { numbers = after.numbers }
  pub numbers : after.numbers.items ≡ before.numbers.items ++ number ∷ []

-- the first replies, so many, are written; the others have room, and so have the positions of a list that have no node;
-- each position that finishes and to which replies lead is on it, or has a node
pub record IsWrittenUpTo (space : Space) (replies : List Reply) (root : Position) (told budget k : ℕ)
    (written : Written) : Type 0 where
  pub has : HasReplies space written
  pub numbered : AreNumbered (take k replies) written
  pub left : List Position
  pub under : LeavesRoom budget (length replies - k) left written
  pub placed : (reply : Reply) → Contains replies reply
      → All (IsEntryPlaced left written reply.position) reply.entries.items
  pub root_placed : told ≡ FINISHES → IsPlaced left written root
