use Rattle.std.proofs.Common.{◌≡◌, ◌∙◌, reverse, arith}
use Rattle.std.proofs.lemmas.Bool.{false≢true}
use Rattle.items.specs.Multiset.{IsSize}
use Rattle.reachable_loads.proofs.DescendingLemmas.{All-reverse, Packable-reverse, Packable-reversed}
use Rattle.reachable_loads.proofs.PackLemmas.{sizes_from_largest, not_packable_from_largest}
use Rattle.reachable_loads.proofs.rooms.packable.Goals as goal

pub returns-then-largest-g : goal.returns-then-largest-g
returns-then-largest-g c = record {
  exact = (
    λ t. absurd (false≢true t),
    λ p. absurd (not_packable_from_largest c.args.game.now c.args.items.now
        (omega (arith, c.if-largest-g.true, c.largest.ensures.value, c.g.ensures.value)) p),
  );
}

pub fits_by_best_fit-requires : goal.fits_by_best_fit-requires
fits_by_best_fit-requires c =
    sizes_from_largest c.args.game.now c.args.items.now c.largest.ensures.multiset (omega (arith, c.if-largest-g.false, c.largest.ensures.value, c.g.ensures.value))

pub fits_by_placing-requires : goal.fits_by_placing-requires
fits_by_placing-requires c =
    All-reverse (IsSize c.args.game.now.capacity) c.args.items.now c.as_slice.result.now (c.as_slice.ensures.value ∙ c.in_ok-list.ensures)
    (sizes_from_largest c.args.game.now c.args.items.now c.largest.ensures.multiset (omega (arith, c.if-largest-g.false, c.largest.ensures.value, c.g.ensures.value)))

pub returns : goal.returns
returns c =
    let down : c.as_slice.result.now ≡ reverse c.args.items.now = c.as_slice.ensures.value ∙ c.in_ok-list.ensures in
    record {
      exact = (
        λ t. Packable-reversed c.args.game.now c.args.items.now c.as_slice.result.now down (c.in_ok-fits.ensures.0 t),
        λ p. c.in_ok-fits.ensures.1 (Packable-reverse c.args.game.now c.args.items.now c.as_slice.result.now down p),
      );
    }
