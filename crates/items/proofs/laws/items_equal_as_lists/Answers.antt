use Rattle.std.proofs.Common.{ap, refl}
use Rattle.std.proofs.lemmas.Bool.Decides.{Decides-eqb}
use Rattle.std.proofs.lemmas.Slice.Eq.{slice_eq-Decides}
use Rattle.std.specs.Hash as fed
use Rattle.items.specs.Counters.{counters_of}
use Rattle.items.proofs.laws.items_equal_as_lists.Goals as goal

pub returns : goal.returns
returns c = record {
  equal = λ xs ys. slice_eq-Decides Decides-eqb xs ys _ refl;
  hash = λ xs ys e. ap (λ v. fed.slice fed.u16 (counters_of v)) ((slice_eq-Decides Decides-eqb xs ys _ refl).0 e);
}
