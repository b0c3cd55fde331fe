use Rattle.std.proofs.Common.{◌∙◌, sym, ap, subst}
use Rattle.reach_planes.specs.Reached.{ItemsSent}
use Rattle.reachable_loads.specs.Kept.{items_of}
use Rattle.reachable_loads.proofs.ReachLemmas.{AreSizesThatFit}
use Rattle.reachable_loads.proofs.reach.Reach.room.Goals as goal

pub returns-in-Bits-clause-law : goal.returns-in-Bits-clause-law
returns-in-Bits-clause-law c =
    subst (λ (x : ItemsSent). AreSizesThatFit x.game x.items c.room_by_bits.result) (sym (ap items_of c.in-Bits.is) ∙ c.self.view_is) c.room_by_bits.ensures.law

pub returns-in-Lists-clause-law : goal.returns-in-Lists-clause-law
returns-in-Lists-clause-law c =
    subst (λ (x : ItemsSent). AreSizesThatFit x.game x.items c.room.result) (sym (ap items_of c.in-Lists.is) ∙ c.self.view_is) c.room.ensures.law
