use Rattle.reach_planes.specs.Reached.{ItemsSent}
use Rattle.reachable_loads.specs.declared.reach.Kept.{Kept}
use Rattle.reachable_loads.specs.declared.reach.Kept.TheVariants.{Bits, Lists}

-- the game and the items, however the loads are kept
abbrev pub items_of : Kept → ItemsSent
items_of (Bits planes) = planes
items_of (Lists sets) = sets
