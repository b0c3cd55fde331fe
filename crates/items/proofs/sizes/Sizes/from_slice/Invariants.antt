use Rattle.std.proofs.Common.{◌≡◌, ◌+◌, ◌-◌, ◌≤◌, get_or, take}
use Rattle.items.specs.SizeBits.{IsClearFrom, sizes_in}
use Rattle.items.proofs.sizes.Sizes.from_slice.Given as goal

abbrev pub invariant-loop-s : goal.invariant-loop-s
invariant-loop-s l = record {
  so_far : sizes_in l.bits ≡ take l.s-index l.list;
  clear : IsClearFrom (l.last + 1) l.bits;
  within : l.last ≤ l.most;
  first : l.s-index ≡ 0 → l.last ≡ 0;
  later : 1 ≤ l.s-index → l.last ≡ get_or l.list (l.s-index - 1) 0;
}
