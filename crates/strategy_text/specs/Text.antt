use Rattle.std.specs.Prelude.{ℕ, ◌+◌, List, [], ◌∷◌, ◌++◌, map, length, decimal, Option, Some, None, codes}
use Rattle.std.specs.List.{join_with_byte, flat_map}
use Rattle.items.specs.Game.{GameNumbers}
use Rattle.strategy_text.specs.declared.node.AdvNode.{AdvNode}
use Rattle.strategy_text.specs.declared.node.AlgNode.{AlgNode}
use Rattle.strategy_text.specs.declared.node.Act.{Act}
use Rattle.strategy_text.specs.declared.node.Act.TheVariants.{Finish, Big, Reply}
use Rattle.strategy_text.specs.declared.node.Entry.{Entry}
use Rattle.strategy_text.specs.declared.node.Format.{Format}
use Rattle.strategy_text.specs.declared.node.Format.TheVariants.{One, Two}
use Rattle.strategy_text.specs.declared.node.Nodes.{Nodes}
use Rattle.strategy_text.specs.declared.node.Nodes.TheVariants as nodes
use Rattle.strategy_text.specs.declared.node.Placement.{Placement}
use Rattle.strategy_text.specs.declared.node.Side.{Side}
use Rattle.strategy_text.specs.declared.node.Side.TheVariants as sides
use Rattle.strategy_text.specs.declared.node.Step.{Step}
use Rattle.strategy_text.specs.declared.node.Step.TheVariants.{Send, Burst}
use Rattle.strategy_text.specs.declared.node.Strategy.{Strategy}
use Rattle.strategy_text.specs.declared.node.Then.{Then}
use Rattle.strategy_text.specs.declared.node.Then.TheVariants.{Over, To}

-- ---- the words of a node

-- a line is words joined by one space
abbrev pub line_of : List (List ℕ) → List ℕ
line_of words = join_with_byte 32 words

-- a list of numbers: a dash for none, else the numbers
abbrev pub list_words : List ℕ → List (List ℕ)
list_words [] = codes "-" ∷ []
list_words (x ∷ xs) = map decimal (x ∷ xs)

-- the lists of a packing, with a slash between two
abbrev pub pack_words : List (List ℕ) → List (List ℕ)
pack_words [] = []
pack_words (bin ∷ []) = list_words bin
pack_words (bin ∷ next ∷ bins) = list_words bin ++ codes "/" ∷ pack_words (next ∷ bins)

-- a packing after its first word, or nothing
abbrev pub packing_words : Option (List (List ℕ)) → List (List ℕ)
packing_words None = []
packing_words (Some bins) = codes "pack" ∷ pack_words bins

abbrev pub then_words : Then → List (List ℕ)
then_words Over = codes "over" ∷ []
then_words (To child) = codes "to" ∷ decimal child ∷ []

abbrev pub placement_words : Placement → List (List ℕ)
placement_words placement = codes "on" ∷ decimal placement.load ∷ then_words placement.next

-- what is sent
abbrev pub step_words : Step → List (List ℕ)
step_words (Send size pack placements) =
    codes "send" ∷ decimal size ∷ packing_words pack ++ flat_map placement_words placements
step_words (Burst count size pack) = codes "burst" ∷ decimal count ∷ decimal size ∷ codes "pack" ∷ pack_words pack

abbrev pub entry_words : Entry → List (List ℕ)
entry_words entry = decimal entry.size ∷ codes "on" ∷ decimal entry.load ∷ codes "to" ∷ decimal entry.to ∷ []

-- the replies: a dash for none, else the entries
abbrev pub entries_words : List Entry → List (List ℕ)
entries_words [] = codes "-" ∷ []
entries_words (entry ∷ entries) = flat_map entry_words (entry ∷ entries)

-- what is done
abbrev pub act_words : Act → List (List ℕ)
act_words Finish = codes "finish" ∷ []
act_words (Big bins) = codes "big" ∷ decimal bins ∷ []
act_words (Reply entries) = codes "reply" ∷ entries_words entries

-- the loads and the items
abbrev pub position_words : List ℕ → List ℕ → List (List ℕ)
position_words loads items = codes "loads" ∷ list_words loads ++ codes "items" ∷ list_words items

-- ---- the lines

-- the line of a node of the adversary, by its number
unfoldable pub adversary_line : ℕ → AdvNode → List ℕ
adversary_line number node = line_of (decimal number ∷ position_words node.loads node.items ++ step_words node.step)

-- the line of a node of the algorithm, by its number
unfoldable pub algorithm_line : ℕ → AlgNode → List ℕ
algorithm_line number node = line_of (decimal number ∷ position_words node.loads node.items ++ act_words node.act)

-- a node of either side
pub data AnyNode : Type 0 where
  of_adversary : AdvNode → AnyNode
  of_algorithm : AlgNode → AnyNode

-- the line of a node, by its number
abbrev pub node_line : ℕ → AnyNode → List ℕ
node_line number (of_adversary node) = adversary_line number node
node_line number (of_algorithm node) = algorithm_line number node

-- the lines of nodes that are numbered from here on
abbrev pub node_lines : ℕ → List AnyNode → List (List ℕ)
node_lines number [] = []
node_lines number (node ∷ others) = node_line number node ∷ node_lines (number + 1) others

abbrev pub loads_of : AnyNode → List ℕ
loads_of (of_adversary node) = node.loads
loads_of (of_algorithm node) = node.loads

abbrev pub items_of : AnyNode → List ℕ
items_of (of_adversary node) = node.items
items_of (of_algorithm node) = node.items

-- the nodes of either side
abbrev pub nodes_of : Nodes → List AnyNode
nodes_of (nodes.Adversary list) = map of_adversary list
nodes_of (nodes.Algorithm list) = map of_algorithm list

-- whose nodes they are
abbrev pub side_of : Nodes → Side
side_of (nodes.Adversary list) = sides.Adversary
side_of (nodes.Algorithm list) = sides.Algorithm

abbrev pub first_line : Format → List ℕ
first_line One = codes "stretch 1"
first_line Two = codes "stretch 2"

unfoldable pub game_line : GameNumbers → List ℕ
game_line game = line_of (codes "game" ∷ decimal game.bins ∷ decimal game.capacity ∷ decimal game.target ∷ [])

-- the word for a side
abbrev pub side_word : Side → List ℕ
side_word sides.Adversary = codes "adversary"
side_word sides.Algorithm = codes "algorithm"

abbrev pub side_line : Side → List ℕ
side_line side = line_of (codes "side" ∷ side_word side ∷ [])

unfoldable pub count_line : ℕ → List ℕ
count_line count = line_of (codes "nodes" ∷ decimal count ∷ [])

abbrev pub end_line : List ℕ
end_line = codes "end"

-- ---- the text

-- the lines before the nodes
abbrev pub head_lines : Format → GameNumbers → Side → ℕ → List (List ℕ)
head_lines format game side count = first_line format ∷ game_line game ∷ side_line side ∷ count_line count ∷ []

-- the lines of a strategy: its head, its nodes, and the end
abbrev pub strategy_lines : Strategy → List (List ℕ)
strategy_lines strategy =
    head_lines strategy.format strategy.game (side_of strategy.nodes) (length (nodes_of strategy.nodes))
    ++ node_lines 0 (nodes_of strategy.nodes) ++ end_line ∷ []

-- lines as bytes: each followed by a line feed
abbrev pub text_of_lines : List (List ℕ) → List ℕ
text_of_lines lines = flat_map (λ line. line ++ 10 ∷ []) lines

-- the text of a strategy
abbrev pub text_of : Strategy → List ℕ
text_of strategy = text_of_lines (strategy_lines strategy)
