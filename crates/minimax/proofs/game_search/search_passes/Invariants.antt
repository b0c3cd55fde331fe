use Rattle.std.proofs.Common.{◌≡◌, ◌<◌, ◌≤◌, List, []}
use Rattle.monotone.specs.Visits.{IsLater, visit}
use Rattle.monotone.specs.declared.path.PathMove.{PathMove}
use Rattle.minimax.specs.Fresh.{IsWithinReachable, progress}
use Rattle.minimax.specs.Serving.{HasSpare}
use Rattle.minimax.specs.Settled.{NoneWonBefore}
use Rattle.minimax.specs.State.{IsSound, space_of}
use Rattle.minimax.proofs.game_search.search_passes.Given as goal

abbrev pub invariant-loop-pass : goal.invariant-loop-pass
invariant-loop-pass g l = record {
  sound : IsSound l.space l.pass l.search (g.M.Memo.entries l.memo);
  behind : HasSpare l.space 0 l.search (g.M.Memo.entries l.memo);
  reachable : IsWithinReachable l.space (g.M.Memo.room l.fn.memo) l.budget l.pass (progress l.search.meter (g.M.Memo.entries l.memo) (g.M.Memo.room l.memo));
  path : l.search.path ≡ [];
  most : l.search.most ≡ l.space.game.capacity;
  rooms : l.search.rooms ≡ l.space.game;
  budget : l.search.meter.budget ≡ l.budget;
  none_before : NoneWonBefore (space_of l.space) l.pass;
  later : (path : List PathMove) → IsLater l.search.meter (visit l.pass path);
  from_first : l.space.first_pass ≤ l.pass;
  of_game : l.pass < l.space.game.capacity;
}
