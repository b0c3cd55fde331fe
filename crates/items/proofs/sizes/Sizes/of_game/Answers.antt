use Rattle.std.proofs.Common.{arith}
use Rattle.items.proofs.SizeBitsLemmas.{AreSizes-sizes_in, some_sizes}
use Rattle.items.proofs.sizes.Sizes.of_game.Goals as goal

pub invariant_of-result : goal.invariant_of-result
invariant_of-result c = record {
  sizes = AreSizes-sizes_in c.up_to.result (some_sizes c.g.result _ (omega (arith, c.g.ensures.value, c.g.ensures.legal.capacity.low)) c.up_to.ensures.value);
  clear = c.up_to.ensures.clear;
}
