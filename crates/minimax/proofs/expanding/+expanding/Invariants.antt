use Rattle.std.proofs.Common.{◌≡◌, ◌+◌, ◌-◌, ◌*◌, ◌<◌, ◌≤◌, ◌⊎◌, ◌∷◌, ℕ, length, get_or, map, take, true, false, sum}
use Rattle.std.specs.Prelude.{All}
use Rattle.loads.specs.After.{after}
use Rattle.loads.specs.Descending.{distinct}
use Rattle.strategy_text.specs.declared.node.Placement.{Placement}
use Rattle.minimax.specs.Fresh.{CountsFresh, progress}
use Rattle.minimax.specs.Serving.{AreTried, IsEntryServed, IsTriedBefore, KeepsServing}
use Rattle.minimax.specs.State.{AreOfSizes, FollowsUp, IsPending, IsWonIn, WentOn, WinsBy, with_move}
use Rattle.minimax.proofs.expanding.+expanding.Given as goal

abbrev pub decreases-expand : goal.decreases-expand
decreases-expand g l = 7 * (l.space.now.game.bins * l.space.now.game.capacity - sum l.key.items) + 6

abbrev pub decreases-look_up : goal.decreases-look_up
decreases-look_up g l = 7 * (l.space.now.game.bins * l.space.now.game.capacity - sum l.key.items) + 5

abbrev pub decreases-decide : goal.decreases-decide
decreases-decide g l = 7 * (l.here.now.space.now.game.bins * l.here.now.space.now.game.capacity - sum l.here.now.position.now.items) + 4

abbrev pub decreases-weigh_all : goal.decreases-weigh_all
decreases-weigh_all g l = 7 * (l.here.now.space.now.game.bins * l.here.now.space.now.game.capacity - sum l.here.now.position.now.items) + 3

abbrev pub decreases-weigh : goal.decreases-weigh
decreases-weigh g l = 7 * (l.here.now.space.now.game.bins * l.here.now.space.now.game.capacity - sum l.here.now.position.now.items) + 2

abbrev pub decreases-try_size : goal.decreases-try_size
decreases-try_size g l = 7 * (l.here.now.space.now.game.bins * l.here.now.space.now.game.capacity - sum l.here.now.position.now.items) + 1

abbrev pub decreases-try_load : goal.decreases-try_load
decreases-try_load g l = 7 * (l.here.now.space.now.game.bins * l.here.now.space.now.game.capacity - sum l.here.now.position.now.items)

abbrev pub invariant-try_size-loop-i : goal.invariant-try_size-loop-i
invariant-try_size-loop-i g l = record {
  went : WentOn l.here.space.now l.here.pass (with_move l.fn.search l.size (get_or (l.here.space.now.game.target ∷ distinct l.here.position.now.loads) l.i 0)) l.fn.search l.search (g.M.Memo.entries l.memo);
  counts : CountsFresh l.here.space.now l.here.pass (sum l.here.position.now.items + 1) (progress l.fn.search.meter (g.M.Memo.entries l.fn.memo) (g.M.Memo.room l.fn.memo))
      (progress l.search.meter (g.M.Memo.entries l.memo) (g.M.Memo.room l.memo));
  serves : KeepsServing l.here.space.now 0 l.fn.search (g.M.Memo.entries l.fn.memo) l.search (g.M.Memo.entries l.memo) (λ later. Unit {0});
  places : map (λ (placement : Placement). placement.load) (take l.i l.placements) ≡ take l.i (distinct l.here.position.now.loads);
  each : All (FollowsUp l.here.space.now l.here.pass l.search l.here.position.now l.size) (take l.i l.placements);
  number : length l.placements ≡ 8;
  won : (k : ℕ) → k < l.i → (l.here.space.now.game.target ≤ get_or (distinct l.here.position.now.loads) k 0 + l.size)
      ⊎ IsWonIn l.here.space.now l.here.pass (after l.here.position.now (get_or (distinct l.here.position.now.loads) k 0) l.size);
}

abbrev pub invariant-weigh_all-loop-tried : goal.invariant-weigh_all-loop-tried
invariant-weigh_all-loop-tried g l = record {
  went : WentOn l.here.space.now l.here.pass (with_move l.fn.search (l.room - l.tried) l.here.space.now.game.target) l.fn.search l.search (g.M.Memo.entries l.memo);
  counts : CountsFresh l.here.space.now l.here.pass (sum l.here.position.now.items + 1) (progress l.fn.search.meter (g.M.Memo.entries l.fn.memo) (g.M.Memo.room l.fn.memo))
      (progress l.search.meter (g.M.Memo.entries l.memo) (g.M.Memo.room l.memo));
  serves : KeepsServing l.here.space.now 0 l.fn.search (g.M.Memo.entries l.fn.memo) l.search (g.M.Memo.entries l.memo)
      (λ later. All (IsEntryServed later l.here.position.now) l.entries.items
      × AreTried l.here.space.now l.here.pass (l.room - l.tried) l.room later l.here.position.now × IsTriedBefore l.here.space.now l.here.told later l.here.position.now);
  none : (size : ℕ) → l.room - l.tried < size → WinsBy l.here.space.now l.here.pass l.here.position.now size → ⊥;
  sizes : l.answered ≡ true → AreOfSizes l.here.space.now (l.room - l.tried) l.room l.entries.items;
  each : All (IsPending l.here.space.now l.search.replies l.here.position.now) l.entries.items;
  gaps : l.answered ≡ false → l.here.pass + 1 < l.here.space.now.game.capacity;
}
