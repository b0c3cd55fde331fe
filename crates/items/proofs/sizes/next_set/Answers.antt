use Rattle.std.proofs.Math.Facts.{Fits-lt-pow}
use Rattle.items.proofs.SizeBitsLemmas.{none_above_greatest, none_above, least_above_place, some_left}
use Rattle.items.proofs.sizes.next_set.Goals as goal

pub returns-then-s-ge-MOST_SIZE : goal.returns-then-s-ge-MOST_SIZE
returns-then-s-ge-MOST_SIZE c = record { exact = none_above_greatest c.args.bits c.args.s c.if-s-ge-MOST_SIZE.true }

pub returns-then-rest-eq0 : goal.returns-then-rest-eq0
returns-then-rest-eq0 c = record { exact = none_above c.args.bits c.args.s c.if-rest-eq0.true }

pub returns : goal.returns
returns c = record {
  exact = least_above_place c.args.bits c.args.s c.requires (Fits-lt-pow c.ranges.bits) (some_left _ c.if-rest-eq0.false);
}
