use Rattle.std.proofs.Common.{◌∙◌, sym, ap, arith, length, []}
use Rattle.std.proofs.lemmas.List.{get_or_read}
use Rattle.packing_witness.specs.Edits.{first_out}
use Rattle.packing_witness.proofs.EditLemmas.{without_made, without_nowhere}
use Rattle.packing_witness.proofs.packing.Packing.without.Goals as goal

pub returns-in-Some : goal.returns-in-Some
returns-in-Some c =
    let here = get_or_read c.bins-bins.result.now _ _ (omega arith) c.index-bins-i.is [] in
    let found = ap (first_out c.args.item) (sym here) ∙ sym c.in_ok-rest.ensures.exact ∙ c.in-Some.is in
    record {
      exact = without_made c.args.item c.loop-i.i _ _ _ _ _ _ c.bins-bins.ensures.value
          (omega arith) c.loop-i.invariant.1 found c.loop-i.invariant.0 c.in_ok-push_bin.ensures.ok c.in_ok-push_copies.ensures.ok;
    }

pub returns : goal.returns
returns c =
    record {
      exact = sym (without_nowhere c.args.item c.args.self.now
          (λ k l. rw (← c.bins-bins.ensures.value) (c.loop-i.invariant.1 k (omega (arith, ap length c.bins-bins.ensures.value)))));
    }
