use Rattle.std.proofs.Common.{◌∙◌, sym, arith}
use Rattle.std.proofs.lemmas.Bool.{not-true, not_from_false, false_from_ne_true, false≢true}
use Rattle.reachable_loads.proofs.ReachLemmas.{IsReachOf-seen, Packable-from_member, member_from_Packable, positive_length}
use Rattle.reachable_loads.proofs.sets.Sets.packable.Goals as goal

pub returns : goal.returns
returns c =
    let r = IsReachOf-seen _ _ _ _ c.self.view_is c.self.invariant in
    record {
      exact = (
        λ t. Packable-from_member _ _ _ r (positive_length c.self.inside.members.keys (λ e. false≢true (sym (not-true c.is_empty.result t) ∙ c.is_empty.ensures.1 e))),
        λ p. not_from_false c.is_empty.result (false_from_ne_true c.is_empty.result (λ t. let l = member_from_Packable _ _ _ r p in omega (arith, l, c.is_empty.ensures.0 t))),
      );
    }
