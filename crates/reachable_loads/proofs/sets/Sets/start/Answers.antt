use Rattle.std.proofs.Common.{⊎_elim, ◌∙◌, sym, subst, inr}
use Rattle.std.proofs.lemmas.Cmp.{nat_list_cmp_total}
use Rattle.std.proofs.lemmas.Map.Lookups.{exact_bytes}
use Rattle.reachable_loads.specs.Reached.{IsReachOf}
use Rattle.reachable_loads.proofs.SetLemmas.{inserted}
use Rattle.reachable_loads.proofs.ReachLemmas.{IsReachOf-nil, no_member}
use Rattle.reachable_loads.proofs.sets.Sets.start.Goals as goal

pub invariant_of-result : goal.invariant_of-result
invariant_of-result c =
    let h = inserted nat_list_cmp_total exact_bytes _ _ _ c.in_ok-insert.ensures.updates in
    subst (λ items. IsReachOf c.args.game.now items c.insert.new.self.keys) (sym c.new.ensures.empty) (IsReachOf-nil c.args.game.now c.insert.new.self.keys (λ loads. (
      λ k. ⊎_elim (λ was. absurd (no_member c.new-members.result.keys loads c.new-members.ensures.empty was)) (λ e. e ∙ c.zero.ensures.value) ((h loads).0 k),
      λ e. (h loads).1 (inr (e ∙ sym c.zero.ensures.value)),
    )))
