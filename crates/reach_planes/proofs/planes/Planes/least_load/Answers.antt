use Rattle.std.proofs.Common.{◌≡◌, ◌<◌, ◌+◌, ◌*◌, ◌/◌, ap, subst, arith, ℕ}
use Rattle.std.specs.Int.{trailing_zeros, w64}
use Rattle.items.specs.Packable.{Packable}
use Rattle.reach_planes.specs.Reached.{ItemsSent, IsLeastLoad}
use Rattle.reach_planes.specs.Layout.{NoBits, rows_of, halves_of, IsLeastBit}
use Rattle.reach_planes.proofs.LoadLemmas.{NoBits-zero, least_bit, IsLeastLoad-from_bit, not_packable_from_bits, AreBitsOf}
use Rattle.reach_planes.proofs.planes.Planes.least_load.Goals as goal
use Rattle.reach_planes.proofs.planes.Planes.least_load.Goals.{After-any_of-bits}

-- the bits that any word of the half has
bits : (c : After-any_of-bits) → AreBitsOf c.len-rows.result c.loop-half.half c.self.inside.words.items c.any_of-bits.result
bits c = subst (λ words. AreBitsOf c.len-rows.result c.loop-half.half words c.any_of-bits.result) c.as_slice.ensures.value c.any_of-bits.ensures

pub returns-then-bits-ne0 : goal.returns-then-bits-ne0
returns-then-bits-ne0 c =
    let b = goal.at.returns-then-bits-ne0 c in
    let game = c.self.inside.game in
    let rows : c.len-rows.result ≡ rows_of game = omega (arith, c.len-rows.ensures, c.self.invariant.sums_are.size) in
    let within : c.loop-half.half < halves_of game = omega (arith, c.loop-half-test.true, c.from-half-end.ensures, ap (λ n. n / 64) c.g-last.ensures.value) in
    let least = least_bit c.len-rows.result (halves_of game) c.loop-half.half c.any_of-bits.result c.self.inside.words.items within c.loop-half.invariant (bits b.After-any_of-bits)
    (omega (arith, c.if-bits-ne0.true)) (omega (arith, c.any_of-bits.type_inv)) in
    let load : ℕ = 64 * c.loop-half.half + trailing_zeros w64 c.any_of-bits.result in
    let at = subst (λ n. IsLeastBit n (halves_of game) c.self.inside.words.items load) rows least in
    record {
      exact = subst (λ (x : ItemsSent). IsLeastLoad x.game x.items load) c.self.view_is
          (IsLeastLoad-from_bit game c.self.inside.items c.self.inside.words.items load c.g-last.ensures.legal c.self.invariant.plane at);
    }

pub loop-half-preserved : goal.loop-half-preserved
loop-half-preserved c =
    let b = goal.at.loop-half-preserved c in
    NoBits-zero c.len-rows.result c.loop-half.half c.any_of-bits.result c.self.inside.words.items c.loop-half.invariant (bits b.After-any_of-bits) c.if-bits-ne0.false

pub returns : goal.returns
returns c =
    let game = c.self.inside.game in
    let rows : c.len-rows.result ≡ rows_of game = omega (arith, c.len-rows.ensures, c.self.invariant.sums_are.size) in
    let all : c.loop-half.half ≡ halves_of game = omega (
      arith,
      c.loop-half-test.false,
      c.loop-half.auto.half-end,
      c.from-half-end.ensures,
      ap (λ n. n / 64) c.g-last.ensures.value,
    ) in
    let none : NoBits (rows_of game) (halves_of game) c.self.inside.words.items = subst
    (λ n. NoBits n (halves_of game) c.self.inside.words.items) rows (subst (λ n. NoBits c.len-rows.result n c.self.inside.words.items) all c.loop-half.invariant) in
    record {
      exact = subst (λ (x : ItemsSent). Packable x.game x.items
          → ⊥) c.self.view_is (not_packable_from_bits game c.self.inside.items c.self.inside.words.items c.g-last.ensures.legal c.self.invariant.plane none);
    }
