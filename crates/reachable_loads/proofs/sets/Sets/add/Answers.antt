use Rattle.std.proofs.Common.{◌≡◌, ◌∙◌, ◌++◌, ◌∷◌, [], ℕ, List, ◌↔◌, sym, ap, subst, arith}
use Rattle.std.specs.Prelude.{Contains}
use Rattle.std.specs.Map.Iter.{deref}
use Rattle.std.proofs.lemmas.Map.Views.{All-turn}
use Rattle.items.specs.Multiset.{IsSize}
use Rattle.reachable_loads.specs.Reached.{FitOffline, IsReachOf, ItemsSent, AnyOf, IsAfter}
use Rattle.reachable_loads.proofs.ReachLemmas.{FitOffline-members, HasAfter-start, HasAfter-more, HasAfter-end, IsReachOf-push}
use Rattle.reachable_loads.proofs.sets.Sets.add.Goals as goal
use Rattle.reachable_loads.proofs.sets.Sets.add.Goals.{After-result-1}

pub loop-loads-init : goal.loop-loads-init
loop-loads-init c = record {
  can_next = tt;
  is_finite = tt;
  so_far = HasAfter-start c.self.inside.game.capacity c.args.s c.new-members.result.keys c.into_iter-loads-iterator.result c.new-members.ensures.empty;
}

pub put_after-requires : goal.put_after-requires
put_after-requires c = record {
  of_game = All-turn deref (FitOffline c.self.inside.game) _ _ _ _ _ _ _ (FitOffline-members c.self.inside.game c.self.inside.items c.self.inside.members.keys c.self.invariant)
      c.into_iter-loads-iterator.ensures.into_iter_gives.0 c.loop-loads.yielded_by c.in-Some.is c.next.ensures.steps;
  size = let e = ap {B = ℕ} (λ (seen : ItemsSent). seen.game.capacity) c.self.view_is in omega (arith, c.requires.high, e);
}

pub loop-loads-preserved : goal.loop-loads-preserved
loop-loads-preserved c = record {
  can_next = tt;
  is_finite = tt;
  so_far = HasAfter-more c.self.inside.game.capacity c.args.s c.in-Some.loads.now c.loop-loads.members.keys c.put_after.new.members.keys c.loop-loads.loads-iterator c.next.new.self
      c.into_iter-loads-iterator.result c.in-Some.ensures.steps c.in_ok-put_after.ensures.ok c.loop-loads.invariant.so_far;
}

-- the list with the item at its end
listed : (c : After-result-1) → c.self.inside.items ++ c.args.s ∷ [] ≡ c.push.new.self
listed c = sym (c.in_ok-push.ensures.ok ∙ ap (λ xs. xs ++ c.args.s ∷ []) c.in_ok-items.ensures.ok)

pub invariant_of-result : goal.invariant_of-result
invariant_of-result c =
    let e = ap {B = ℕ} (λ (seen : ItemsSent). seen.game.capacity) c.self.view_is in
    let size : IsSize c.self.inside.game.capacity c.args.s = record { low = c.requires.low; high = omega (arith, c.requires.high, e) } in
    let all =
    HasAfter-end c.self.inside.game.capacity c.args.s c.loop-loads.members.keys c.loop-loads.loads-iterator c.into_iter-loads-iterator.result c.in-None.ensures.steps.0
    c.loop-loads.invariant.so_far in
    subst (λ items. IsReachOf c.self.inside.game items c.loop-loads.members.keys) (listed c)
    (IsReachOf-push c.self.inside.game c.self.inside.items c.args.s c.self.inside.members.keys c.loop-loads.members.keys c.self.invariant size
    (subst (λ xss. (loads : List ℕ) → Contains c.loop-loads.members.keys loads
    ↔ AnyOf (IsAfter c.self.inside.game.capacity c.args.s loads) xss) c.into_iter-loads-iterator.ensures.into_iter_gives.0 all))
