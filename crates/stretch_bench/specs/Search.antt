-- The command `search`: a strategy of the side that wins a game.
use Rattle.std.specs.Prelude.{◌≡◌, ℕ, ◌+◌, ◌*◌, ◌<◌, ◌≤◌, List, [], ◌∷◌, ◌++◌, codes, decimal, length, map}
use Rattle.std.specs.List.{flat_map}
use Rattle.items.specs.Game.{GameNumbers, IsGame}
use Rattle.items.specs.Multiset.{sizes_of}
use Rattle.loads.specs.Wins.{IsWon, empty_position}
use Rattle.minimax.specs.Budgets.{AreNumbersOfReachable, HasRoom, reachable_before}
use Rattle.minimax.specs.Settled as settled
use Rattle.monotone.specs.Passes.{allowed_in, whole_game}
use Rattle.monotone.specs.Positions.{CountsAllReachable}
use Rattle.monotone.specs.Visits.{most_visits, visit}
use Rattle.monotone.specs.declared.path.PathMove.{PathMove}
use Rattle.strategy_text.specs.Text.{line_of, nodes_of, text_of}
use Rattle.strategy_text.specs.declared.node.Format.TheVariants.{One}
use Rattle.strategy_text.specs.declared.node.Strategy.{Strategy}
use Rattle.stretch_bench.specs.Canonical.{IsCanonical}
use Rattle.stretch_bench.specs.Form.{Form, of_words}
use Rattle.stretch_bench.specs.declared.settings.TheConstants.{MOST_ENTRIES, MOST_VISITS}

-- how many visits a search may make, and how many entries its table may have
pub record IsSetting (budget table : ℕ) : Type 0 where
  pub some_visits : 1 ≤ budget
  pub most_visits : budget ≤ MOST_VISITS
  pub some_entries : 1 ≤ table
  pub most_entries : table ≤ MOST_ENTRIES

-- the words that tell these
abbrev pub setting_words : ℕ → ℕ → List (List ℕ)
setting_words budget table = (codes "budget=" ++ decimal budget) ∷ (codes "table=" ++ decimal table) ∷ []

-- the game, the budget and the size of the table of a search
pub record IsSearch (game : GameNumbers) (budget table : ℕ) : Type 0 where
  pub of_game : IsGame game
  pub setting : IsSetting budget table

-- the text of a legal strategy for a game, in format 1 and in canonical form, with at most so many nodes
pub record IsFound (game : GameNumbers) (budget : ℕ) (text : List ℕ) : Type 0 where
  pub strategy : Strategy
  pub canonical : IsCanonical strategy
  pub of_game : strategy.game ≡ game
  pub of_format : strategy.format ≡ One
  pub few : length (nodes_of strategy.nodes) ≤ budget
  pub spelled : text ≡ text_of strategy

-- a move: the item, and the load of the bin that it goes to
abbrev pub move_word : PathMove → List ℕ
move_word step = decimal step.item ++ 64 ∷ decimal step.load

-- the moves of a path, or a dash for none
abbrev pub move_words : List PathMove → List (List ℕ)
move_words [] = codes "-" ∷ []
move_words (step ∷ path) = map move_word (step ∷ path)

-- a search that spent its budget: how many visits it made, and the pass and the path of the one that was due
abbrev pub undecided_line : GameNumbers → ℕ → ℕ → List PathMove → List ℕ
undecided_line game visits pass path =
    (line_of (codes "undecided" ∷ decimal game.bins ∷ decimal game.capacity ∷ decimal game.target
    ∷ codes "visits" ∷ decimal visits ∷ codes "pass" ∷ decimal pass ∷ codes "path" ∷ [])
    ++ flat_map (λ word. 32 ∷ word) (move_words path)) ++ 10 ∷ []

-- the line of a visit that was due when a search of a game had spent its budget. The budget is less than the number of
-- visits that there can be. Where the table has room for all positions at which legal paths end, it is less than these
-- for each pass, and less than those of each pass together; where the adversary wins a pass, less than those of the
-- passes up to it.
pub record IsUndecided (game : GameNumbers) (budget table : ℕ) (text : List ℕ) : Type 0 where
  pub pass : ℕ
  pub path : List PathMove
  pub due : settled.IsDue (whole_game game) budget (visit pass path)
  pub fewer_than_visits : budget < most_visits (whole_game game)
  pub fewer_than_positions : (all : ℕ) → CountsAllReachable game all → all ≤ table → budget < game.capacity * all
  pub fewer_than_passes : (numbers : ℕ → ℕ) → AreNumbersOfReachable game numbers → HasRoom game table
      → budget < reachable_before numbers game.capacity
  pub fewer_than_won : (numbers : ℕ → ℕ) (won : ℕ) → AreNumbersOfReachable game numbers → HasRoom game table
      → IsWon game (allowed_in (sizes_of game) won) (empty_position game) → budget < reachable_before numbers (won + 1)
  pub line : text ≡ undecided_line game budget pass path

abbrev pub search : GameNumbers → ℕ → ℕ → Form
search game budget table = record {
  name = codes "search";
  arguments = decimal game.bins ∷ decimal game.capacity ∷ decimal game.target ∷ setting_words budget table;
  IsAllowed = IsSearch game budget table;
  work = of_words (IsFound game budget);
}
