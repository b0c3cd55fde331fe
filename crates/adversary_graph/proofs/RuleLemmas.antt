-- What the rules of a node rest on: items of loads, distinct loads, and totals of packings.
use Rattle.std.proofs.Common.{◌≡◌, ℕ, ◌*◌, ◌<◌, ◌≤◌, List, length, get_or, Contains, mul-le-mul}
use Rattle.std.proofs.Common.{Bool, Option, Some, None, inr}
use Rattle.std.specs.List.{All}
use Rattle.std.specs.Prelude.{MatchOption}
use Rattle.loads.specs.declared.position.Position.{Position}
use Rattle.strategy_text.specs.Rules.{AllMet}
use Rattle.strategy_text.specs.declared.node.AdvNode.{AdvNode}
use Rattle.strategy_text.specs.declared.node.Format.{Format}
use Rattle.strategy_text.specs.declared.rule.Rule.{Rule}
use Rattle.adversary_graph.specs.Judging.{BreaksPastItems}
use Rattle.adversary_graph.specs.Rules.{Breaks, Meets, MeetsRules, rules_past_items}
use Rattle.std.proofs.lemmas.List.Elements.{All-weaker, All-contains_itself, All-get_or}
use Rattle.items.specs.Game.{GameNumbers, IsGame}
use Rattle.loads.specs.Descending.{distinct}
use Rattle.loads.proofs.DistinctLemmas.{Contains-from_distinct}
use Rattle.loads.specs.Loads.{IsLoads}
use Rattle.loads.specs.Position.{AreItemsOf}

-- each distinct load is one of the loads
pub distinct_are_loads : (loads : List ℕ) → All (Contains loads) (distinct loads)
distinct_are_loads loads =
    All-weaker (Contains (distinct loads)) (Contains loads) (λ x. Contains-from_distinct x loads) (distinct loads) (All-contains_itself (distinct loads))

-- a placement of a node that places each load has one of the loads
pub placed_load : (loads : List ℕ) (placed : List ℕ) (k d : ℕ) → placed ≡ distinct loads → k < length placed → Contains loads (get_or placed k d)
placed_load loads placed k d e l = rw e (All-get_or (Contains loads) (distinct loads) k d (rw e at l) (distinct_are_loads loads))

-- the bins of a game hold at most 960 together
pub game_volume : (game : GameNumbers) → IsGame game → game.bins * game.capacity ≤ 960
game_volume game g = mul-le-mul g.bins.high g.capacity.high

-- the rules past `items` of a node with loads and items of the game
pub past_items : (format : Format) (game : GameNumbers) (sizes : List ℕ) (earlier : List Position) (last : Bool) (node : AdvNode) (fault : Option Rule)
    → IsLoads game node.loads → AreItemsOf sizes node.loads node.items
    → MatchOption fault (AllMet (Meets format game sizes earlier last node) rules_past_items) (BreaksPastItems format game sizes earlier last node)
    → MatchOption fault (MeetsRules format game sizes earlier last node) (Breaks format game sizes earlier last node)
past_items format game sizes earlier last node None loads items m = (loads, (items, m))
past_items format game sizes earlier last node (Some rule) loads items b = (b.0, b.1, inr (loads, inr (items, b.2)))
