-- What the head lines of a text tell, and the lines of nodes under a head, of either side.
use Rattle.std.specs.Prelude.{◌≡◌, ◌==◌, ℕ, ◌+◌, Bool, List, length}
use Rattle.items.specs.Game.{GameNumbers}
use Rattle.items.specs.Multiset.{sizes_of}
use Rattle.loads.specs.declared.position.Position.{Position}
use Rattle.strategy_text.specs.Spelling.{SpellsNode}
use Rattle.strategy_text.specs.Text.{AnyNode}
use Rattle.strategy_text.specs.declared.node.Format.{Format}
use Rattle.strategy_text.specs.declared.node.Side.{Side}
use Rattle.strategy_text.specs.declared.rule.Rule.{Rule}
use Rattle.strategies.specs.AnyNode.{position_of, side_of_node, MeetsRules, Breaks, EachMeetsRules}

-- what the head lines tell: the format, the game, the sizes that items may have, the side, how many nodes there are,
-- and the number of the line of the first node
pub record Head : Type 0 where
  pub format : Format
  pub game : GameNumbers
  pub sizes : List ℕ
  pub side : Side
  pub count : ℕ
  pub start : ℕ

-- the head of a text of four head lines, with all sizes of the game
abbrev pub head_of_game : Format → GameNumbers → Side → ℕ → Head
head_of_game format game side count =
    record { format = format; game = game; sizes = sizes_of game; side = side; count = count; start = 5 }

-- a node meets every rule under a head; the first rule that it breaks; each of the head's nodes meets every rule
abbrev pub MeetsUnder : Head → List Position → Bool → AnyNode → Type 0
MeetsUnder head earlier last node = MeetsRules head.format head.game head.sizes earlier last node

abbrev pub BreaksUnder : Head → List Position → Bool → AnyNode → Rule → Type 0
BreaksUnder head earlier last node rule = Breaks head.format head.game head.sizes earlier last node rule

abbrev pub EachMeetsUnder : Head → List AnyNode → Type 0
EachMeetsUnder head nodes = EachMeetsRules head.format head.game head.sizes head.count nodes

-- a line that spells a node of the head's format and side, of this number
pub record SpellsUnder (head : Head) (number : ℕ) (line : List ℕ) (node : AnyNode) : Type 0 where
  pub spells : SpellsNode head.format number line node
  pub side : side_of_node node ≡ head.side

-- a line that spells some node of the head's format and side, of this number
abbrev pub IsNodeLine : Head → ℕ → List ℕ → Type 0
IsNodeLine head number line = (node : AnyNode) × SpellsUnder head number line node

-- such a node, at this position
abbrev pub IsNodeLineAt : Head → ℕ → Position → List ℕ → Type 0
IsNodeLineAt head number position line =
    (node : AnyNode) × SpellsUnder head number line node × (position_of node ≡ position)

-- such a node, which breaks this rule first, over the positions of the nodes before it
abbrev pub IsBrokenNodeLine : Head → List Position → Rule → List ℕ → Type 0
IsBrokenNodeLine head earlier rule line =
    (node : AnyNode) × SpellsUnder head (length earlier) line node
    × BreaksUnder head earlier (length earlier + 1 == head.count) node rule
