-- A strategy whose items have listed sizes alone: when it is legal, and its text, which has one more head line.
use Rattle.std.specs.Prelude.{◌≡◌, ℕ, List, [], ◌∷◌, ◌++◌, All, codes, length}
use Rattle.items.specs.Game.{GameNumbers}
use Rattle.items.specs.Multiset.{AreSizes}
use Rattle.strategies.specs.AnyNode.{AreLegalNodes}
use Rattle.strategy_text.specs.Spelling.{IsNumber}
use Rattle.strategy_text.specs.Text.{line_of, list_words, game_line, side_line, count_line, end_line, node_lines}
use Rattle.strategy_text.specs.Text.{nodes_of, side_of, text_of_lines}
use Rattle.strategy_text.specs.declared.node.Format.TheVariants.{One}
use Rattle.strategy_text.specs.declared.node.Side.{Side}
use Rattle.strategy_text.specs.declared.node.Strategy.{Strategy}

-- the first line
abbrev pub listed_line : List ℕ
listed_line = codes "listed 1"

-- the line of the sizes
unfoldable pub sizes_line : List ℕ → List ℕ
sizes_line sizes = line_of (codes "sizes" ∷ list_words sizes)

-- a line that spells a list of numbers as the sizes, be they sizes of a game or not
pub record SpellsSizes (line sizes : List ℕ) : Type 0 where
  pub each : All IsNumber sizes
  pub spelled : line ≡ sizes_line sizes

-- the lines before the nodes
abbrev pub listed_head_lines : GameNumbers → List ℕ → Side → ℕ → List (List ℕ)
listed_head_lines game sizes side count =
    listed_line ∷ game_line game ∷ sizes_line sizes ∷ side_line side ∷ count_line count ∷ []

-- the lines of a strategy with listed sizes: its head, its nodes, and the end
abbrev pub listed_lines : List ℕ → Strategy → List (List ℕ)
listed_lines sizes strategy =
    listed_head_lines strategy.game sizes (side_of strategy.nodes) (length (nodes_of strategy.nodes))
    ++ node_lines 0 (nodes_of strategy.nodes) ++ end_line ∷ []

-- the text of a strategy with listed sizes
abbrev pub listed_text_of : List ℕ → Strategy → List ℕ
listed_text_of sizes strategy = text_of_lines (listed_lines sizes strategy)

-- a legal strategy with listed sizes: it has format 1, the numbers and the sizes are a game with listed sizes, there are
-- 1 to 4,000,000,000 nodes, and each meets every rule of its side over these sizes
pub record IsLegalOver (sizes : List ℕ) (strategy : Strategy) : Type 0 where
  pub of_format : strategy.format ≡ One
  pub are_sizes : AreSizes strategy.game.capacity sizes
  pub nodes : AreLegalNodes strategy.format strategy.game sizes strategy.nodes

-- the bytes are the text of a legal strategy with listed sizes
pub record IsLegalListedText (bytes : List ℕ) : Type 0 where
  pub sizes : List ℕ
  pub strategy : Strategy
  pub legal : IsLegalOver sizes strategy
  pub spelled : bytes ≡ listed_text_of sizes strategy
