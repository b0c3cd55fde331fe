use Rattle.std.proofs.Common.{◌∙◌, sym}
use Rattle.std.proofs.lemmas.Bool.{eqb-true, eq-eqb, false≢true}
use Rattle.std.proofs.lemmas.Nat.Bits.{shr_and_one}
use Rattle.items.proofs.SizeBitsLemmas.{Contains_sizes_in}
use Rattle.items.proofs.sizes.is_set.Goals as goal

pub returns-then-not-is_size : goal.returns-then-not-is_size
returns-then-not-is_size c =
    let law = Contains_sizes_in c.args.bits c.args.s in
    record {
      exact = (λ yes. absurd (false≢true yes), λ there. absurd (false≢true (sym c.if-not-is_size.true ∙ c.is_size.ensures.exact.1 (law.0 there).0)));
    }

pub returns : goal.returns
returns c =
    let law = Contains_sizes_in c.args.bits c.args.s in
    let bit = shr_and_one c.args.bits c.args.s in
    record {
      exact = (
        λ yes. law.1 (c.is_size.ensures.exact.0 c.if-not-is_size.false, sym bit ∙ eqb-true _ 1 yes),
        λ there. eq-eqb _ 1 (bit ∙ (law.0 there).1),
      );
    }
