use Rattle.std.proofs.Common.{drop}
use Rattle.std.specs.Prelude.{◌↔◌}
use Rattle.loads.specs.Position.{AreItemsOf}
use Rattle.loads.proofs.ItemListLemmas.{FollowOn}
use Rattle.loads.proofs.item_list.are_items_of.Given as goal

abbrev pub invariant-loop-item : goal.invariant-loop-item
invariant-loop-item l = AreItemsOf l.sizes l.fn.loads l.items ↔ FollowOn l.sizes l.low l.left (drop l.item-index l.items)
