use Rattle.std.proofs.Common.{◌≡◌, ◌∙◌, [], false, eqb, length, sym, ap, refl, arith}
use Rattle.std.proofs.lemmas.Bool.{eq-eqb, false≢true}
use Rattle.std.proofs.lemmas.List.{take_all}
use Rattle.std.proofs.lemmas.Nat.Bits.{bit_at-zero}
use Rattle.items.proofs.SizeBitsLemmas.{AreSizes-read, AreSizes-sizes_in, clear_up_to_greatest, sizes_in-zero}
use Rattle.items.proofs.sizes.Sizes.from_slice.Goals as goal

pub loop-s-init : goal.loop-s-init
loop-s-init c = record {
  so_far = sizes_in-zero;
  clear = λ place l. bit_at-zero place;
  within = omega arith;
  first = λ e. refl;
  later = λ l. absurd (omega (arith, l));
}

some : (c : goal.After-loop-s) → c.args.list.now ≡ [] → ⊥
some c none = absurd (let no : false ≡ eqb (length c.args.list.now) 0 = c.if-is_empty.ensures in false≢true (no ∙ eq-eqb (length c.args.list.now) 0 (ap length none)))

pub invariant_of-result : goal.invariant_of-result
invariant_of-result c =
    let whole = c.loop-s.invariant.so_far ∙ take_all c.loop-s.s-index c.args.list.now (omega (arith, c.loop-s-test.false)) in
    record {
      sizes = AreSizes-sizes_in c.loop-s.bits (λ none. some c (sym whole ∙ none));
      clear = clear_up_to_greatest c.loop-s.bits c.g-most.result c.loop-s.last c.loop-s.invariant.clear c.loop-s.invariant.within
          (omega (arith, c.g-most.ensures.value, c.g-most.ensures.legal.capacity.high));
    }

pub returns : goal.returns
returns c =
    let whole = c.loop-s.invariant.so_far ∙ take_all c.loop-s.s-index c.args.list.now (omega (arith, c.loop-s-test.false)) in
    record {
      exact = (
        whole,
        AreSizes-read c.loop-s.bits c.args.game.now.capacity c.loop-s.last c.args.list.now whole (some c) c.loop-s.invariant.clear
            (omega (arith, c.loop-s.invariant.within, c.g-most.ensures.value)),
      );
    }
