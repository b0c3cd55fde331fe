use Rattle.std.proofs.Common.{◌≡◌, ◌-◌, ◌∙◌, sym, ap, subst, arith}
use Rattle.items.specs.Game.{GameNumbers}
use Rattle.reachable_loads.proofs.ReachLemmas.{IsRoom-from_law, AreSizesThatFit}
use Rattle.reachable_loads.proofs.RoomLemmas.{IsRoom-none, law_of_least, least-le_capacity_of_game}
use Rattle.reachable_loads.proofs.reach.room_by_bits.Goals as goal
use Rattle.reachable_loads.proofs.reach.room_by_bits.Goals.{After-g}

capacity : (c : After-g) → c.g.result ≡ c.args.planes.now.game.capacity
capacity c = c.g.ensures.value ∙ ap (λ (game : GameNumbers). game.capacity) c.game.ensures.value

law : (c : After-g) → AreSizesThatFit c.args.planes.now.game c.args.planes.now.items (c.g.result - c.in-Some.least)
law c =
    subst (λ n. AreSizesThatFit c.args.planes.now.game c.args.planes.now.items (n - c.in-Some.least)) (sym (capacity c))
    (law_of_least c.args.planes.now.game c.args.planes.now.items c.in-Some.least c.in-Some.ensures.exact)

pub overflow_sub-result : goal.overflow_sub-result
overflow_sub-result c =
    let b = goal.at.overflow_sub-result c in
    omega (arith, capacity b.After-g, least-le_capacity_of_game c.args.planes.now.game c.args.planes.now.items c.in-Some.least c.in-Some.ensures.exact)

pub returns-in-Some-clause-exact : goal.returns-in-Some-clause-exact
returns-in-Some-clause-exact c =
    let b = goal.at.returns-in-Some-clause-exact c in
    IsRoom-from_law c.args.planes.now.game c.args.planes.now.items (c.g.result - c.in-Some.least) (omega (arith, capacity b.After-g)) (law b.After-g)

pub returns-in-Some-clause-law : goal.returns-in-Some-clause-law
returns-in-Some-clause-law c = let b = goal.at.returns-in-Some-clause-law c in law b.After-g

pub returns-in-None-clause-exact : goal.returns-in-None-clause-exact
returns-in-None-clause-exact c =
    IsRoom-from_law c.args.planes.now.game c.args.planes.now.items 0 (omega arith) (IsRoom-none c.args.planes.now.game c.args.planes.now.items c.in-None.ensures.exact)

pub returns-in-None-clause-law : goal.returns-in-None-clause-law
returns-in-None-clause-law c = IsRoom-none c.args.planes.now.game c.args.planes.now.items c.in-None.ensures.exact
