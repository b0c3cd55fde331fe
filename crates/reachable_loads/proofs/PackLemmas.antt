-- Items that are sizes of the game.
use Rattle.std.proofs.Common.{ℕ, ◌-◌, ◌<◌, ◌≤◌, List, [], ◌∷◌, length}
use Rattle.std.proofs.Common.{arith}
use Rattle.std.specs.Prelude.{All}
use Rattle.std.proofs.lemmas.List.Elements.{All-from_get_or}
use Rattle.items.specs.Game.{GameNumbers}
use Rattle.items.specs.Multiset.{IsSize, IsMultiset, largest_of}
use Rattle.items.specs.Packable.{Packable}
use Rattle.items.proofs.MultisetLemmas.{RisesFrom-zero, largest_of_bound, largest_of_last}

-- the greatest of some items decides whether they are sizes of the game
pub sizes_from_largest : (game : GameNumbers) (items : List ℕ) → IsMultiset 120 items → largest_of items ≤ game.capacity → All (IsSize game.capacity) items
sizes_from_largest game items m l =
    All-from_get_or (IsSize game.capacity) items 0 (λ k within.
    let size = m.sizes k 0 within in
    let most = largest_of_bound 0 items (RisesFrom-zero items m.ascending) k 0 within in
    record { low = size.low; high = omega (arith, most, l) })

pub not_packable_from_largest : (game : GameNumbers) (items : List ℕ) → game.capacity < largest_of items → Packable game items → ⊥
not_packable_from_largest game [] l p = omega arith
not_packable_from_largest game (x ∷ xs) l p =
    let size = p.1.item_list (length (x ∷ xs) - 1) 0 (omega arith) in
    omega (arith, size.high, largest_of_last (x ∷ xs), l)
