use Rattle.std.proofs.Common.{◌≡◌, ◌+◌, ◌≤◌, ◌∙◌, ap, sym, subst, arith, get_or, List, ℕ, ◌⊎◌, ◌↔◌}
use Rattle.std.specs.Prelude.{Contains}
use Rattle.std.specs.BTreeSet.{BTreeSet}
use Rattle.std.proofs.lemmas.Cmp.{nat_list_cmp_total}
use Rattle.std.proofs.lemmas.Map.Lookups.{exact_bytes}
use Rattle.std.proofs.lemmas.List.Elements.{All-contains}
use Rattle.loads.specs.Descending.{distinct}
use Rattle.loads.specs.Loads.{loads_after}
use Rattle.reachable_loads.specs.Reached.{IsAfter}
use Rattle.reachable_loads.proofs.SetLemmas.{inserted}
use Rattle.reachable_loads.proofs.PutLemmas.{HasPut, IsAfterEarly, HasPut-start, HasPut-more, HasPut-past, HasPut-all, unwrapped}
use Rattle.reachable_loads.proofs.ReachLemmas.{IsLoads-offline}
use Rattle.reachable_loads.proofs.sets.put_after.Goals as goal
use Rattle.reachable_loads.proofs.sets.put_after.Goals.{then-load-s+in_ok-insert, else-load-s}

pub overflow_add-load : goal.overflow_add-load
overflow_add-load c =
    let le = All-contains (λ load. load ≤ c.args.game.now.capacity) c.args.loads.now c.distinct_at-load.result c.requires.of_game.fits c.distinct_at-load.ensures.member in
    omega (arith, le, c.requires.size, c.g-capacity.ensures.legal.capacity.high)

pub place-requires : goal.place-requires
place-requires c =
    let g = c.g-capacity.ensures.legal in
    record {
      of_game = IsLoads-offline c.args.game.now c.args.loads.now g c.requires.of_game;
      below_target = omega (arith, c.if-load-s.true, c.g-capacity.ensures.value, g.target.low);
    }

pub loop-i-preserved : goal.loop-i-preserved
loop-i-preserved c = elim c.if-load-s.branch [
  | then-load-s+in_ok-insert w ↦
      let load = c.distinct_at-load.ensures.value in
      let after : w.unwrap.result ≡ loads_after c.args.loads.now (get_or (distinct c.args.loads.now) c.loop-i.i 0) c.args.s =
      unwrapped _ _ _ _ _ w.place.ensures.exact w.unwrap.ensures ∙ ap (λ l. loads_after c.args.loads.now l c.args.s) load in
      let put = inserted nat_list_cmp_total exact_bytes _ _ _ w.in_ok-insert.ensures.updates in
      let placed = subst (λ xs. (x : List ℕ) → Contains w.insert.new.self.keys x ↔ (Contains c.loop-i.members.keys x ⊎ (x ≡ xs))) after put in
      subst (λ (m : BTreeSet (List ℕ)). HasPut (λ x. IsAfterEarly c.g-capacity.result c.args.s x c.args.loads.now (c.loop-i.i + 1)) c.args.members.now.keys m.keys)
      (sym w.members-is) (HasPut-more c.g-capacity.result c.args.s c.args.loads.now c.loop-i.i c.args.members.now.keys c.loop-i.members.keys w.insert.new.self.keys
      (omega (arith, w.if-load-s.true, load)) c.loop-i.invariant placed)
  | else-load-s w ↦
      let load = c.distinct_at-load.ensures.value in
      subst (λ (m : BTreeSet (List ℕ)). HasPut (λ x. IsAfterEarly c.g-capacity.result c.args.s x c.args.loads.now (c.loop-i.i + 1)) c.args.members.now.keys m.keys)
      (sym w.members-is) (HasPut-past c.g-capacity.result c.args.s c.args.loads.now c.loop-i.i c.args.members.now.keys c.loop-i.members.keys
      (omega (arith, w.if-load-s.false, load)) c.loop-i.invariant)
]

pub loop-i-init : goal.loop-i-init
loop-i-init c = HasPut-start c.g-capacity.result c.args.s c.args.loads.now c.args.members.now.keys

pub returns : goal.returns
returns c = record {
  ok = let h = HasPut-all c.g-capacity.result c.args.s c.args.loads.now c.loop-i.i c.args.members.now.keys c.loop-i.members.keys (omega arith) c.loop-i.invariant in
      subst (λ capacity. HasPut (λ after. IsAfter capacity c.args.s after c.args.loads.now) c.args.members.now.keys c.loop-i.members.keys) c.g-capacity.ensures.value h;
}
