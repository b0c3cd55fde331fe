-- What a command is: how it is spelled, what it reads, and what is written when it is done.
use Rattle.std.specs.Prelude.{◌≡◌, ℕ, List, ◌++◌, Option}
use Rattle.checker.specs.Accepted.{IsGone, IsLoaded}
use Rattle.checker.specs.FirstFault.{IsWanted}
use Rattle.checker.specs.declared.fault.Wanted.{Wanted}
use Rattle.strategies.specs.AnyNode.{IsLegal}
use Rattle.strategy_text.specs.Text.{side_of, text_of}
use Rattle.strategy_text.specs.declared.node.Strategy.{Strategy}

-- what a command reads
pub data Reads : Type 0 where
  -- nothing
  reads_nothing : Reads
  -- the text of a strategy of this side, which is the whole input
  reads_whole : Wanted → Reads
  -- the text of a strategy of this side, which is the front of the input, and then lines
  reads_front : Wanted → Reads

-- what a command reads, and which text is written when it is done
pub data Work : Type 1 where
  -- nothing is read, and a text of this kind is written
  of_words : (List ℕ → Type 0) → Work
  -- a strategy of this side is read, and a text of this kind, which stands in a relation to it, is written
  of_strategy : Wanted → (Strategy → List ℕ → Type 0) → Work
  -- a strategy of this side is read, and then lines are read and written in turns. The whole text that is written is of
  -- this kind: it stands in a relation to the strategy, to the bytes that were read after its text, and to those that
  -- the source has left
  in_turns : Wanted → (Strategy → List ℕ → Option (List ℕ) → List ℕ → Type 0) → Work

-- the name of a command, the words after it, what is asked of what these tell, and its work
pub record Form : Type 1 where
  pub name : List ℕ
  pub arguments : List (List ℕ)
  pub IsAllowed : Type 0
  pub work : Work

-- what is read for a work
abbrev pub reads_of : Work → Reads
reads_of (of_words Is) = reads_nothing
reads_of (of_strategy wanted Is) = reads_whole wanted
reads_of (in_turns wanted Is) = reads_front wanted

-- a legal strategy of a wanted side was read, and this is so of it
pub record IsRead (wanted : Wanted) (left new_left : Option (List ℕ)) (Is : Strategy → Type 0) : Type 0 where
  pub strategy : Strategy
  pub loaded : IsLoaded wanted strategy left new_left
  pub is : Is strategy

-- the bytes that were read are the text of a legal strategy of a wanted side and more, and this is so of it and of the
-- bytes after its text
pub record IsReadFirst (wanted : Wanted) (left new_left : Option (List ℕ)) (Is : Strategy → List ℕ → Type 0)
    : Type 0 where
  pub strategy : Strategy
  pub legal : IsLegal strategy
  pub wanted_side : IsWanted wanted (side_of strategy.nodes)
  pub rest : List ℕ
  pub gone : IsGone (text_of strategy ++ rest) left new_left
  pub is : Is strategy rest

-- a work was done, over what the source had left and has left, and this text is due
abbrev pub IsDone : Work → Option (List ℕ) → Option (List ℕ) → List ℕ → Type 0
IsDone (of_words Is) left new_left text = (new_left ≡ left) × Is text
IsDone (of_strategy wanted Is) left new_left text = IsRead wanted left new_left (λ strategy. Is strategy text)
IsDone (in_turns wanted Is) left new_left text =
    IsReadFirst wanted left new_left (λ strategy rest. Is strategy rest new_left text)
