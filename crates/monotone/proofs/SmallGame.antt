-- A small game worked out.
use Rattle.std.proofs.Common.{◌≡◌, refl, subst}
use Rattle.items.specs.Game.{numbers}
use Rattle.items.specs.Multiset.{sizes_of}
use Rattle.monotone.specs.Passes.{allowed_in}
use Rattle.monotone.specs.Positions.{AreReachable}
use Rattle.monotone.specs.SmallGame.{ten_positions, SmallGameHasTenReachable}
use Rattle.monotone.proofs.DecideLemmas.{all_lists, is_assignment, is_packable, is_legal_move, is_legal_from}
use Rattle.monotone.proofs.EnumerationLemmas.{paths_within, paths_of}
use Rattle.monotone.proofs.ReachableLemmas.{each_once, legal_paths, reachable, AreReachable-reachable}

written_out : reachable (numbers 2 2 3) (allowed_in (sizes_of (numbers 2 2 3)) 1) ≡ ten_positions
unfolding reachable each_once legal_paths paths_of paths_within is_legal_from is_legal_move is_packable is_assignment all_lists
written_out = refl

pub small_game_has_ten_reachable : SmallGameHasTenReachable
small_game_has_ten_reachable =
    let allowed = allowed_in (sizes_of (numbers 2 2 3)) 1 in
    subst (AreReachable (numbers 2 2 3) allowed) written_out (AreReachable-reachable (numbers 2 2 3) allowed)
