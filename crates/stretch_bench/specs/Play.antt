-- The command `play`: a strategy of the adversary against a player.
use Rattle.std.specs.Prelude.{◌≡◌, ◌≢◌, ℕ, ◌-◌, ◌<◌, List, [], ◌∷◌, Some, codes, length, slice_get, unwrap_or}
use Rattle.adversary_graph.specs.Play.{IsLost, play}
use Rattle.adversary_graph.specs.Told.{play_of}
use Rattle.checker.specs.declared.fault.Wanted.TheVariants.{Only}
use Rattle.items.specs.Game.{GameNumbers}
use Rattle.match_player.specs.Lines.{play_text}
use Rattle.online_play.specs.declared.transcript.Transcript.{Transcript}
use Rattle.strategy_text.specs.declared.node.AdvNode.{AdvNode}
use Rattle.strategy_text.specs.declared.node.Nodes.TheVariants as nodes_of_side
use Rattle.strategy_text.specs.declared.node.Side.TheVariants.{Adversary}
use Rattle.strategy_text.specs.declared.node.Strategy.{Strategy}
use Rattle.stretch_bench.specs.Call.{Players}
use Rattle.stretch_bench.specs.Form.{Form, of_strategy}

-- the first player with this name stands at this place, counted from 0
pub record IsFirstNamed (names : List (List ℕ)) (name : List ℕ) (place : ℕ) : Type 0 where
  pub here : slice_get names place ≡ Some name
  pub first : (earlier : ℕ) → earlier < place → slice_get names earlier ≢ Some name

-- the name of the player at a place
abbrev pub name_at : List (List ℕ) → ℕ → List ℕ
name_at names place = unwrap_or (slice_get names place) []

-- the lines of the play of a strategy of the adversary, from its last node on, against a player, who loses
pub record IsPlayOf (name : List ℕ) (answer : GameNumbers → List ℕ → ℕ) (strategy : Strategy)
    (text : List ℕ) : Type 0 where
  pub nodes : List AdvNode
  pub of_adversary : strategy.nodes ≡ nodes_of_side.Adversary nodes
  pub transcript : Transcript
  pub played : play strategy.game nodes (length nodes - 1) (answer strategy.game) ≡ Some (play_of transcript)
  pub lost : IsLost strategy.game (play_of transcript)
  pub lines : text ≡ play_text name strategy.game transcript

-- the play against the player at a place
pub record IsPlayAt (players : Players) (place : ℕ) (strategy : Strategy) (text : List ℕ) : Type 0 where
  pub name : List ℕ
  pub named : slice_get players.names place ≡ Some name
  pub answer : GameNumbers → List ℕ → ℕ
  pub answers_so : slice_get players.answers place ≡ Some answer
  pub play : IsPlayOf name answer strategy text

abbrev pub play_against : Players → ℕ → Form
play_against players place = record {
  name = codes "play";
  arguments = name_at players.names place ∷ [];
  IsAllowed = IsFirstNamed players.names (name_at players.names place) place;
  work = of_strategy (Only Adversary) (IsPlayAt players place);
}
