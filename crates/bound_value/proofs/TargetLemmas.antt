-- Targets of one number of bins and one capacity: what holds at a lower or a higher one.
use Rattle.std.proofs.Common.{ℕ, ◌-◌, ◌≤◌, Bool, List, [], ◌∷◌, get_or, arith}
use Rattle.std.specs.Prelude.{All}
use Rattle.std.proofs.lemmas.List.Elements.{Contains-get_or}
use Rattle.items.specs.Game.{numbers}
use Rattle.items.specs.Multiset.{sizes_of}
use Rattle.loads.specs.After.{after}
use Rattle.loads.specs.Wins.{empty_position}
use Rattle.loads.specs.declared.position.Position.{Position}
use Rattle.monotone.specs.Passes.{allowed_in}
use Rattle.monotone.specs.Paths.{IsLegalFrom}
use Rattle.monotone.specs.Positions.{CountsReachable, IsReachable}
use Rattle.monotone.specs.declared.path.PathMove.{PathMove}
use Rattle.monotone.proofs.ReachableLemmas.{reachable_are_no_more}
use Rattle.online_play.proofs.WonLemmas.{lower_target_forces}
use Rattle.bound_value.specs.Laws.{AllReachableGrowWithTheTarget, ReachableGrowWithTheTarget, LowerTargetsAreForced}

pub lower_targets_are_forced : LowerTargetsAreForced
lower_targets_are_forced bins capacity lower higher above le forced = record {
  of_game = record { low = above; high = omega (arith, le, forced.of_game.high) };
  forces = lower_target_forces (numbers bins capacity higher) lower le forced.forces;
}

module _ (bins capacity lower higher : ℕ) (le : lower ≤ higher) (allowed : List ℕ → ℕ → Bool) where
  -- a path that is legal at a target is legal at a higher one
  legal_at_higher : (start : Position) (path : List PathMove) → IsLegalFrom (numbers bins capacity lower) allowed start path
      → IsLegalFrom (numbers bins capacity higher) allowed start path
  legal_at_higher start [] l = tt
  legal_at_higher start (step ∷ path) l = (
    record {
      allowed_size = l.0.allowed_size;
      packable = let p = l.0.packable in (p.0, record { item_list = p.1.item_list; one_each = p.1.one_each; of_game = p.1.of_game; fits = p.1.fits });
      has_load = l.0.has_load;
      below_target = omega (arith, le, l.0.below_target);
    },
    legal_at_higher (after start step.load step.item) path l.1,
  )

  pub reachable_grow : (few many : ℕ) → CountsReachable (numbers bins capacity lower) allowed few → CountsReachable (numbers bins capacity higher) allowed many → few ≤ many
  reachable_grow few many (reachable, h, e) all =
      let each : All (IsReachable (numbers bins capacity higher) allowed) reachable = λ k d l.
      let is = (h.exact (get_or reachable k d)).0 (Contains-get_or reachable k d l) in
      (is.0, legal_at_higher (empty_position (numbers bins capacity lower)) is.0 is.1, is.2) in
      let no_more = reachable_are_no_more (numbers bins capacity higher) allowed many reachable all each h.once in
      omega (arith, no_more, e)

pub reachable_positions_grow_with_the_target : ReachableGrowWithTheTarget
reachable_positions_grow_with_the_target bins capacity lower higher pass few many le fewer more =
    reachable_grow bins capacity lower higher le (allowed_in (sizes_of (numbers bins capacity lower)) pass) few many fewer more

pub all_reachable_positions_grow_with_the_target : AllReachableGrowWithTheTarget
all_reachable_positions_grow_with_the_target bins capacity lower higher few many le fewer more =
    reachable_positions_grow_with_the_target bins capacity lower higher (capacity - 1) few many le fewer more
