-- Positions that play can come to.
use Rattle.std.proofs.Common.{◌≡◌, ◌∙◌, ℕ, ◌+◌, ◌*◌, ◌<◌, ◌≤◌, List, [], ◌∷◌, ◌++◌, Contains, sum, ap, arith}
use Rattle.items.specs.Game.{GameNumbers}
use Rattle.minimax.specs.declared.space.Space.{Space}
use Rattle.items.specs.Multiset.{put_ascending}
use Rattle.items.specs.Packable.{Packable}
use Rattle.items.proofs.MultisetLemmas.{IsNonDecreasing-put_ascending, sum-put_ascending}
use Rattle.items.proofs.SameLemmas.{All-put_ascending}
use Rattle.loads.specs.After.{after}
use Rattle.loads.specs.Loads.{loads_after}
use Rattle.loads.specs.Position.{position as made_of}
use Rattle.loads.specs.declared.position.Position.{Position}
use Rattle.loads.proofs.LoadsLemmas.{IsLoads-after, sum-loads_after}
use Rattle.packing_witness.proofs.PackableLemmas.{Packable-put_ascending, sum-Packable-le}
use Rattle.minimax.specs.State.{IsPlayable}

pub IsPlayable-after : (space : Space) (position : Position) (load size : ℕ) → IsPlayable space position → Contains position.loads load
    → load + size < space.game.target → Contains space.sizes size → Packable space.game (position.items ++ size ∷ []) → IsPlayable space (after position load size)
IsPlayable-after space position load size p c below listed packable =
    record {
      loads = IsLoads-after space.game position.loads load size p.loads c below;
      items = record {
        ascending = IsNonDecreasing-put_ascending size position.items p.items.ascending;
        allowed = All-put_ascending (Contains space.sizes) size position.items listed p.items.allowed;
        total = omega (arith, sum-put_ascending size position.items, sum-loads_after position.loads load size c, p.items.total);
      };
      packable = Packable-put_ascending space.game position.items size packable;
    }

-- the items with one more have a total of at most that of the bins
pub total_with : (game : GameNumbers) (position : Position) (size : ℕ) → Packable game (position.items ++ size ∷ [])
    → sum position.items + size ≤ game.bins * game.capacity
total_with game position size packable =
    omega (arith, sum-Packable-le game _ (Packable-put_ascending game position.items size packable), sum-put_ascending size position.items)

-- the position of the loads after an item and of the items with it is the one after it
pub child_is : (position key next : Position) (loads : List ℕ) (size load : ℕ) → key ≡ position → loads ≡ loads_after position.loads load size
    → next ≡ made_of loads (put_ascending size key.items) → next ≡ after position load size
child_is position key next loads size load same at is =
    is ∙ ap (λ xs. made_of xs (put_ascending size key.items)) at ∙ ap (λ (q : Position). made_of (loads_after position.loads load size) (put_ascending size q.items)) same
