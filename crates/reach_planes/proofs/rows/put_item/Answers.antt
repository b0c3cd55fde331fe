use Rattle.std.proofs.Common.{◌≡◌, ◌≤◌, ◌<◌, ◌%◌, ◌+◌, ◌-◌, ◌*◌, ◌^◌, ◌∙◌, length, ap, sym, subst, suc, arith}
use Rattle.std.proofs.Math.Nat.{pow-suc}
use Rattle.reach_planes.specs.Layout.{IsKept, IsPutInFirst, IsPutInBin, halves_of, rows_of}
use Rattle.reach_planes.proofs.PlaneLemmas.{HasBlocks, has_blocks, IsMoved, IsMoved-more, IsPlaneOf-more}
use Rattle.reach_planes.proofs.rows.put_item.Goals as goal
use Rattle.reach_planes.proofs.rows.put_item.Goals.{After-from}

base_is : (c : After-from) → c.from-base.result + 1 ≡ c.args.game.now.capacity + 1
base_is c = omega (arith, c.from-base.ensures, c.g-capacity.ensures.value)

size_is : (c : After-from) → length c.loop-place.words ≡ halves_of c.args.game.now * rows_of c.args.game.now
size_is c = omega (arith, ap length c.requires.same, c.requires.size, c.loop-place.auto.words)

in_range : (c : After-from) → suc c.loop-place._place ≡ c.loop-place._place + 1
in_range c = omega arith

blocks : (c : After-from) → HasBlocks c.args.game.now c.loop-place.stride (length c.loop-place.words)
blocks c =
    has_blocks c.args.game.now c.loop-place._place c.loop-place.stride (length c.loop-place.words) c.g-capacity.ensures.legal
    (omega (arith, c.loop-place-test.true, c.m-place-end.ensures.value)) c.loop-place.invariant.stride_is (size_is c)

pub put_in_bin-requires-clause-some : goal.put_in_bin-requires-clause-some
put_in_bin-requires-clause-some c = (blocks (goal.at.put_in_bin-requires-clause-some c).After-from).some

pub put_in_bin-requires-clause-within : goal.put_in_bin-requires-clause-within
put_in_bin-requires-clause-within c =
    let b = goal.at.put_in_bin-requires-clause-within c in
    subst (λ n. n * c.loop-place.stride ≤ length c.loop-place.words) (sym (base_is b.After-from)) (blocks b.After-from).within

pub put_in_bin-requires-clause-whole : goal.put_in_bin-requires-clause-whole
put_in_bin-requires-clause-whole c =
    let b = goal.at.put_in_bin-requires-clause-whole c in
    subst (λ n. length c.loop-place.words % (n * c.loop-place.stride) ≡ 0) (sym (base_is b.After-from)) (blocks b.After-from).whole

pub overflow_mul-stride : goal.overflow_mul-stride
overflow_mul-stride c =
    let b = goal.at.overflow_mul-stride c in
    record { fits = subst (λ n. c.loop-place.stride * n < 18446744073709551616) (sym (base_is b.After-from)) (blocks b.After-from).fits }

pub loop-place-preserved : goal.loop-place-preserved
loop-place-preserved c =
    let b = goal.at.loop-place-preserved c in
    let game = c.args.game.now in
    let put = subst (λ n. IsPutInBin c.loop-place.stride n c.args.s c.args.source.now c.loop-place.words c.put_in_bin.new.words) (base_is b.After-from) (subst
    (λ n. IsPutInBin c.loop-place.stride (c.from-base.result + 1) n c.args.source.now c.loop-place.words c.put_in_bin.new.words) c.from.ensures c.put_in_bin.ensures) in
    record {
      stride_is = ap (λ n. c.loop-place.stride * n) (base_is b.After-from) ∙ ap (λ n. n * (game.capacity + 1)) c.loop-place.invariant.stride_is
          ∙ sym (pow-suc (game.capacity + 1) c.loop-place._place) ∙ ap (λ n. (game.capacity + 1) ^ n) (in_range b.After-from);
      moved = IsMoved-more game c.args.s c.loop-place._place c.loop-place.stride c.args.source.now c.put_in_first.new.words c.loop-place.words c.put_in_bin.new.words
          (omega (arith, c.loop-place-test.true, c.m-place-end.ensures.value)) c.loop-place.invariant.stride_is (size_is b.After-from) c.loop-place.invariant.moved put;
    }

pub returns : goal.returns
returns c items plane lacks =
    let game = c.args.game.now in
    let kept = subst (λ words. IsKept (halves_of game) c.args.lack c.args.sums.now words c.keep.new.words) c.requires.same (subst
    (λ n. IsKept n c.args.lack c.args.sums.now c.args.words.now c.keep.new.words) c.halves.ensures c.keep.ensures) in
    let first = subst (λ n. IsPutInFirst n game.capacity c.args.s c.args.source.now c.keep.new.words c.put_in_first.new.words) c.requires.sums.size (subst
    (λ n. IsPutInFirst (length c.args.sums.now) n c.args.s c.args.source.now c.keep.new.words c.put_in_first.new.words) c.g-capacity.ensures.value c.put_in_first.ensures) in
    let all : c.loop-place._place ≡ game.bins - 2 = omega (arith, c.loop-place-test.false, c.m-place-end.ensures.value, c.loop-place.auto._place-end) in
    let moved = subst (λ n. IsMoved game c.args.s n c.args.source.now c.put_in_first.new.words c.loop-place.words) all c.loop-place.invariant.moved in
    IsPlaneOf-more game items c.args.sums.now c.args.source.now c.keep.new.words c.put_in_first.new.words c.loop-place.words c.args.lack c.args.s c.g-capacity.ensures.legal
    (record { low = c.requires.low; high = c.requires.high }) c.requires.sums plane kept first moved lacks (omega (arith, ap length c.requires.same, c.loop-place.auto.words))
