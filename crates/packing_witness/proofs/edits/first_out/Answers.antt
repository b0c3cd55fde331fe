use Rattle.std.proofs.Common.{sym, ap, arith, length}
use Rattle.packing_witness.proofs.EditLemmas.{first_out_made, first_out_nowhere}
use Rattle.packing_witness.proofs.edits.first_out.Goals as goal

pub returns-then-size-item : goal.returns-then-size-item
returns-then-size-item c =
    record {
      exact = first_out_made c.args.item c.loop-i.i _ _ _ _ c.as_slice-sizes.ensures.value
          (omega arith) c.loop-i.invariant c.if-size-item.true c.in_ok-rest.ensures.ok c.in_ok-push_all.ensures.ok;
    }

pub returns : goal.returns
returns c =
    record {
      exact = sym (first_out_nowhere c.args.item c.args.bin.now
          (λ k l. rw (← c.as_slice-sizes.ensures.value) (c.loop-i.invariant k (omega (arith, ap length c.as_slice-sizes.ensures.value)))));
    }
