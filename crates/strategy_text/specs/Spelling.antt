use Rattle.std.specs.Prelude.{ℕ, ◌≡◌, ◌≤◌, ◌≢◌, List, [], length, Option, Some, None, All}
use Rattle.items.specs.Game.{GameNumbers}
use Rattle.port_io.specs.Lines.{longest_line}
use Rattle.strategy_text.specs.declared.node.AdvNode.{AdvNode}
use Rattle.strategy_text.specs.declared.node.AlgNode.{AlgNode}
use Rattle.strategy_text.specs.declared.node.Act.{Act}
use Rattle.strategy_text.specs.declared.node.Act.TheVariants.{Finish, Big, Reply}
use Rattle.strategy_text.specs.declared.node.Entry.{Entry}
use Rattle.strategy_text.specs.declared.node.Format.{Format}
use Rattle.strategy_text.specs.declared.node.Format.TheVariants.{Two}
use Rattle.strategy_text.specs.declared.node.Placement.{Placement}
use Rattle.strategy_text.specs.declared.node.Step.{Step}
use Rattle.strategy_text.specs.declared.node.Step.TheVariants.{Send, Burst}
use Rattle.strategy_text.specs.declared.node.Strategy.{Strategy}
use Rattle.strategy_text.specs.declared.node.Then.{Then}
use Rattle.strategy_text.specs.declared.node.Then.TheVariants.{Over, To}
use Rattle.strategy_text.specs.Text.{AnyNode, of_adversary, of_algorithm, node_line, nodes_of, game_line, count_line}

-- ---- limits of a text

-- the greatest size, load or count in a line
abbrev pub most_number : ℕ
most_number = 65535

-- the greatest number of a child
abbrev pub most_child : ℕ
most_child = 4294967295

-- the most nodes of a strategy
abbrev pub most_nodes : ℕ
most_nodes = 4000000000

-- ---- what a line can spell

-- a number other than a node's number
abbrev pub IsNumber : ℕ → Type 0
IsNumber n = n ≤ most_number

abbrev pub IsThen : Then → Type 0
IsThen Over = Unit {0}
IsThen (To child) = child ≤ most_child

pub record IsPlacement (placement : Placement) : Type 0 where
  pub load : IsNumber placement.load
  pub next : IsThen placement.next

-- at least one list, each of numbers in their range
pub record IsPack (pack : List (List ℕ)) : Type 0 where
  pub some : pack ≢ []
  pub each : All (All IsNumber) pack

-- a packing, which only a node of format 2 may lack
abbrev pub IsOptionalPack : Format → Option (List (List ℕ)) → Type 0
IsOptionalPack format None = format ≡ Two
IsOptionalPack format (Some pack) = IsPack pack

-- an item to send, with at least one placement
pub record IsSend (format : Format) (size : ℕ) (pack : Option (List (List ℕ))) (on : List Placement) : Type 0 where
  pub sent : IsNumber size
  pub packed : IsOptionalPack format pack
  pub some : on ≢ []
  pub each : All IsPlacement on

-- several items to send, in format 2
pub record IsBurst (format : Format) (count size : ℕ) (pack : List (List ℕ)) : Type 0 where
  pub second : format ≡ Two
  pub times : IsNumber count
  pub sent : IsNumber size
  pub packed : IsPack pack

abbrev pub IsStep : Format → Step → Type 0
IsStep format (Send size pack placements) = IsSend format size pack placements
IsStep format (Burst count size pack) = IsBurst format count size pack

pub record IsEntry (entry : Entry) : Type 0 where
  pub size : IsNumber entry.size
  pub load : IsNumber entry.load
  pub to : entry.to ≤ most_child

-- bins kept for big items, in format 2
pub record IsBig (format : Format) (bins : ℕ) : Type 0 where
  pub second : format ≡ Two
  pub kept : IsNumber bins

abbrev pub IsAct : Format → Act → Type 0
IsAct format Finish = Unit {0}
IsAct format (Big bins) = IsBig format bins
IsAct format (Reply entries) = All IsEntry entries

-- a node of the adversary that a line of this format can spell
pub record IsSpellableAdversary (format : Format) (node : AdvNode) : Type 0 where
  pub loads : All IsNumber node.loads
  pub items : All IsNumber node.items
  pub step : IsStep format node.step

-- a node of the algorithm that a line of this format can spell
pub record IsSpellableAlgorithm (format : Format) (node : AlgNode) : Type 0 where
  pub loads : All IsNumber node.loads
  pub items : All IsNumber node.items
  pub act : IsAct format node.act

abbrev pub IsSpellableNode : Format → AnyNode → Type 0
IsSpellableNode format (of_adversary node) = IsSpellableAdversary format node
IsSpellableNode format (of_algorithm node) = IsSpellableAlgorithm format node

-- a strategy that has a text
pub record IsSpellable (strategy : Strategy) : Type 0 where
  pub bins : IsNumber strategy.game.bins
  pub capacity : IsNumber strategy.game.capacity
  pub target : IsNumber strategy.game.target
  pub low : 1 ≤ length (nodes_of strategy.nodes)
  pub high : length (nodes_of strategy.nodes) ≤ most_nodes
  pub each : All (IsSpellableNode strategy.format) (nodes_of strategy.nodes)

-- ---- what a line spells

-- a line that spells a node of this number
pub record SpellsNode (format : Format) (number : ℕ) (line : List ℕ) (node : AnyNode) : Type 0 where
  pub spellable : IsSpellableNode format node
  pub short : length line ≤ longest_line
  pub spelled : line ≡ node_line number node

-- a line that spells three numbers of a game, be they in the ranges of a game or not
pub record SpellsGame (line : List ℕ) (game : GameNumbers) : Type 0 where
  pub bins : IsNumber game.bins
  pub capacity : IsNumber game.capacity
  pub target : IsNumber game.target
  pub spelled : line ≡ game_line game

-- a line that spells a number of nodes
pub record SpellsCount (line : List ℕ) (nodes : ℕ) : Type 0 where
  pub low : 1 ≤ nodes
  pub high : nodes ≤ most_nodes
  pub spelled : line ≡ count_line nodes
