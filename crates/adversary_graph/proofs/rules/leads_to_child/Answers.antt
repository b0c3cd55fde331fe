use Rattle.std.proofs.Common.{◌+◌, ◌<◌, arith, inl, inr}
use Rattle.std.proofs.lemmas.Bool.{cases_lt}
use Rattle.loads.specs.Loads.{loads_after}
use Rattle.loads.proofs.LoadsLemmas.{loads_total, sum-loads_after, IsLoads-after}
use Rattle.adversary_graph.proofs.rules.leads_to_child.Goals as goal

pub is_after-requires-clause-fits : goal.is_after-requires-clause-fits
is_after-requires-clause-fits g c =
    let game = c.args.game.now in
    let loads = c.args.loads.now in
    let load = c.args.placement.now.load in
    let size = c.args.size in
    let below : load + size < game.target = elim (cases_lt (load + size) game.target) [
      | inl l ↦ l
      | inr h ↦ absurd (rw c.in-To.is at (c.requires.over.1 h))
    ] in
    let after = sum-loads_after loads load size c.requires.placed in
    let most = loads_total game (loads_after loads load size) c.game_is_legal.ensures (IsLoads-after game loads load size c.requires.loads c.requires.placed below) in
    omega (arith, after, most, c.requires.total)
