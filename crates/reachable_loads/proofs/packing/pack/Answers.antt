use Rattle.std.proofs.Common.{◌∙◌, arith}
use Rattle.std.proofs.lemmas.Option.{MatchOption-at_none}
use Rattle.items.specs.Multiset.{IsSize}
use Rattle.items.specs.Packable.{IsAssignment, Packable}
use Rattle.reachable_loads.proofs.DescendingLemmas.{All-reverse, IsPacking-reversed, Packable-reverse}
use Rattle.reachable_loads.proofs.PackLemmas.{sizes_from_largest, not_packable_from_largest}
use Rattle.reachable_loads.proofs.packing.pack.Goals as goal

pub returns-then-largest-g : goal.returns-then-largest-g
returns-then-largest-g c =
    record { exact = not_packable_from_largest c.args.game.now c.args.items.now (omega (arith, c.if-largest-g.true, c.largest.ensures.value, c.g.ensures.value)) }

pub assign-requires : goal.assign-requires
assign-requires c =
    All-reverse (IsSize c.args.game.now.capacity) c.args.items.now c.as_slice.result.now (c.as_slice.ensures.value ∙ c.in_ok-list.ensures)
    (sizes_from_largest c.args.game.now c.args.items.now c.largest.ensures.multiset (omega (arith, c.if-largest-g.false, c.largest.ensures.value, c.g.ensures.value)))

pub returns-in-Some : goal.returns-in-Some
returns-in-Some c = record {
  exact = IsPacking-reversed c.args.game.now c.in_ok-packing-in-Some.packing c.args.items.now c.as_slice-in-Some.result.now
      (c.as_slice-in-Some.ensures.value ∙ c.in_ok-list.ensures) c.in_ok-packing-in-Some.ensures;
}

pub returns : goal.returns
returns c =
    let none = MatchOption-at_none (Packable c.args.game.now c.as_slice.result.now → ⊥)
    (λ bins. IsAssignment c.args.game.now c.as_slice.result.now bins.items) c.in-None.is c.in_ok-bins.ensures in
    record {
      exact = λ p. none (Packable-reverse c.args.game.now c.args.items.now c.as_slice.result.now (c.as_slice.ensures.value ∙ c.in_ok-list.ensures) p);
    }
