-- What the rules of a node rest on: sizes, and sums of loads.
use Rattle.std.proofs.Common.{◌≡◌, ℕ, ◌<◌, ◌≤◌, ◌+◌, Bool, Option, Some, None, List, arith, sum, set, subst, inr, Contains}
use Rattle.std.specs.Prelude.{MatchOption, IfOk, Result, Ok, Err}
use Rattle.std.specs.List.{All}
use Rattle.std.proofs.lemmas.List.Elements.{All-weaker, All-set}
use Rattle.std.proofs.lemmas.List.Sums.{sum_by-le, sum_by-set}
use Rattle.std.proofs.lemmas.List.{length-set}
use Rattle.items.specs.Game.{GameNumbers, IsGame}
use Rattle.loads.specs.Loads.{IsLoads}
use Rattle.loads.specs.Position.{AreItemsOf}
use Rattle.loads.specs.declared.position.Position.{Position}
use Rattle.strategy_text.specs.Rules.{AllMet}
use Rattle.strategy_text.specs.declared.node.AlgNode.{AlgNode}
use Rattle.strategy_text.specs.declared.rule.Rule.{Rule}
use Rattle.algorithm_graph.specs.Nodes.{position_of}
use Rattle.algorithm_graph.specs.Rules.{Meets, MeetsRules, Breaks, rules_past_items}
use Rattle.algorithm_graph.specs.Judging.{node_at, BreaksPastItems}

-- the loads of a game sum to at most 1,912, also with an item that leaves its load below the target
pub loads_total_after : (game : GameNumbers) (loads : List ℕ) (load size : ℕ) → IsGame game → IsLoads game loads → Contains loads load
    → load + size < game.target → sum loads + size ≤ 1912
loads_total_after game loads load size g l c below =
    let after : List ℕ = set loads c.0 (load + size) in
    let small : All (λ x. x ≤ 239) loads = All-weaker (λ x. x < game.target) (λ x. x ≤ 239) (λ x h. omega (arith, h, g.target.high, g.capacity.high)) loads l.below_target in
    let each : All (λ x. x ≤ 239) after = All-set (λ x. x ≤ 239) loads c.0 (load + size) (omega (arith, below, g.target.high, g.capacity.high)) small in
    omega (arith, sum_by-le (λ x. x) 239 after each, sum_by-set (λ x. x) loads c.0 (load + size) load c.1, c.2, length-set loads c.0 (load + size), l.one_each, g.bins.high)

-- the rules past `items` of a node with loads and items of the game
pub past_items : (game : GameNumbers) (sizes : List ℕ) (earlier : List Position) (last : Bool) (node : AlgNode) (fault : Option Rule)
    → IsLoads game node.loads → AreItemsOf sizes node.loads node.items
    → MatchOption fault (AllMet (Meets game sizes earlier last node) rules_past_items) (BreaksPastItems game sizes earlier last node)
    → MatchOption fault (MeetsRules game sizes earlier last node) (Breaks game sizes earlier last node)
past_items game sizes earlier last node None loads items m = (loads, (items, m))
past_items game sizes earlier last node (Some rule) loads items b = (b.0, b.1, inr (loads, inr (items, b.2)))

pub past_items_read : {E : Type 0} (game : GameNumbers) (sizes : List ℕ) (earlier : List Position) (last : Bool) (node : AlgNode) (p : Position) (read : Result (Option Rule) E)
    → p ≡ position_of node → IsLoads game node.loads → AreItemsOf sizes node.loads node.items
    → IfOk read (λ fault. MatchOption fault (AllMet (Meets game sizes earlier last (node_at p node.act)) rules_past_items)
    (BreaksPastItems game sizes earlier last (node_at p node.act)))
    → IfOk read (λ fault. MatchOption fault (MeetsRules game sizes earlier last node) (Breaks game sizes earlier last node))
past_items_read game sizes earlier last node p (Ok fault) e loads items m =
    past_items game sizes earlier last node fault loads items
    (subst (λ (q : Position). MatchOption fault (AllMet (Meets game sizes earlier last (node_at q node.act)) rules_past_items)
    (BreaksPastItems game sizes earlier last (node_at q node.act))) e m)
past_items_read game sizes earlier last node p (Err e) is loads items m = tt
