-- The command `force`: a strategy of the adversary for a game, where a search for it finds one.
use Rattle.std.specs.Prelude.{◌≡◌, ℕ, ◌<◌, ◌≤◌, List, [], ◌∷◌, ◌++◌, codes, decimal}
use Rattle.items.specs.Game.{GameNumbers, IsGame}
use Rattle.online_play.specs.Algorithm.{ForcesEvery}
use Rattle.strategy_text.specs.Text.{side_of, text_of}
use Rattle.strategy_text.specs.declared.node.Format.TheVariants.{Two}
use Rattle.strategy_text.specs.declared.node.Side.TheVariants.{Adversary}
use Rattle.strategy_text.specs.declared.node.Strategy.{Strategy}
use Rattle.stretch_bench.specs.Canonical.{IsCanonical}
use Rattle.stretch_bench.specs.Form.{Form, of_words}
use Rattle.stretch_bench.specs.Lines.{written_line}
use Rattle.stretch_bench.specs.Search.{setting_words}
use Rattle.stretch_bench.specs.declared.settings.TheConstants.{MOST_FORCE_ENTRIES, MOST_VISITS}

-- the game, the first pass, how many visits the search may make, and how many entries its table may have
pub record IsForce (game : GameNumbers) (pass budget table : ℕ) : Type 0 where
  pub of_game : IsGame game
  pub a_pass : pass < game.capacity
  pub some_visits : 1 ≤ budget
  pub most_visits : budget ≤ MOST_VISITS
  pub some_entries : 1 ≤ table
  pub most_entries : table ≤ MOST_FORCE_ENTRIES

-- the text of a legal strategy of the adversary for a game, in format 2 and in canonical form. So every deterministic
-- online algorithm is forced to the target.
pub record IsForcing (game : GameNumbers) (text : List ℕ) : Type 0 where
  pub strategy : Strategy
  pub canonical : IsCanonical strategy
  pub of_side : side_of strategy.nodes ≡ Adversary
  pub of_game : strategy.game ≡ game
  pub of_format : strategy.format ≡ Two
  pub forces : ForcesEvery game
  pub spelled : text ≡ text_of strategy

-- the game, and how many visits were made
abbrev pub not_found_line : GameNumbers → ℕ → List ℕ
not_found_line game visits =
    written_line (codes "notfound" ∷ decimal game.bins ∷ decimal game.capacity ∷ decimal game.target
    ∷ codes "visits" ∷ decimal visits ∷ [])

-- the line of a search that ended, or spent its budget, without a strategy. It claims nothing about the game.
pub record IsNotFound (game : GameNumbers) (budget : ℕ) (text : List ℕ) : Type 0 where
  pub visits : ℕ
  pub within : visits ≤ budget
  pub line : text ≡ not_found_line game visits

abbrev pub force : GameNumbers → ℕ → ℕ → ℕ → Form
force game pass budget table = record {
  name = codes "force";
  arguments = decimal game.bins ∷ decimal game.capacity ∷ decimal game.target ∷ (codes "pass=" ++ decimal pass)
      ∷ setting_words budget table;
  IsAllowed = IsForce game pass budget table;
  work = of_words (IsForcing game);
}
