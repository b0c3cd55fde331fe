use Rattle.std.proofs.Common.{sym, subst, arith}
use Rattle.std.specs.Map.Iter.{deref}
use Rattle.std.proofs.lemmas.Map.Views.{All-turn}
use Rattle.reachable_loads.specs.Reached.{FitOffline}
use Rattle.reachable_loads.proofs.ReachLemmas.{FitOffline-members, TellsRoom, TellsRoom-start, TellsRoom-more, IsTold-end, IsRoom-from_law, no_room, least-le_capacity}
use Rattle.reachable_loads.proofs.sets.Sets.room.Goals as goal
use Rattle.reachable_loads.proofs.sets.Sets.room.Goals.{In-Some}

-- the member of a turn
fits : (c : In-Some) → FitOffline c.self.inside.game c.in-Some.loads.now
fits c =
    All-turn deref (FitOffline c.self.inside.game) _ _ _ _ _ _ _ (FitOffline-members c.self.inside.game c.self.inside.items c.self.inside.members.keys c.self.invariant)
    c.into_iter-loads-iterator.ensures.into_iter_gives.0 c.loop-loads.yielded_by c.in-Some.is c.next.ensures.steps

pub least-requires : goal.least-requires
least-requires c = omega (arith, (fits c).one_each, c.g-capacity.ensures.legal.bins.low)

pub loop-loads-preserved : goal.loop-loads-preserved
loop-loads-preserved c =
    let i = c.loop-loads.invariant in
    record {
      can_next = tt;
      is_finite = tt;
      within = omega (arith, i.within, c.max-room.ensures);
      tells = subst (λ room. TellsRoom c.g-capacity.result room c.next.new.self c.into_iter-loads-iterator.result) (sym c.max-room.ensures)
          (TellsRoom-more c.g-capacity.result c.loop-loads.room c.least.result c.in-Some.loads.now c.loop-loads.loads-iterator c.next.new.self c.into_iter-loads-iterator.result
          c.in-Some.ensures.steps c.least.ensures i.tells);
    }

pub loop-loads-init : goal.loop-loads-init
loop-loads-init c = record { can_next = tt; is_finite = tt; within = omega arith; tells = TellsRoom-start c.g-capacity.result c.into_iter-loads-iterator.result }

pub returns : goal.returns
returns c =
    let i = c.loop-loads.invariant in
    let h =
    IsTold-end c.self.inside.game c.self.inside.items c.args.self.now c.self.inside.members.keys c.into_iter-loads-iterator.result c.loop-loads.loads-iterator c.loop-loads.room
    c.g-capacity.result c.self.view_is c.self.invariant c.g-capacity.ensures.value c.into_iter-loads-iterator.ensures.into_iter_gives.0 c.in-None.ensures.steps.0 i.within
    i.tells in
    record {
      exact = IsRoom-from_law c.args.self.now.game c.args.self.now.items c.loop-loads.room h.within h.law;
      law = h.law;
      none = no_room c.args.self.now c.loop-loads.room
          h.law;
    }

pub overflow_sub-capacity : goal.overflow_sub-capacity
overflow_sub-capacity c =
    omega (
      arith,
      least-le_capacity c.self.inside.game c.in-Some.loads.now c.least.result (fits (goal.at.overflow_sub-capacity c).In-Some) c.least.ensures,
      c.g-capacity.ensures.value,
    )
