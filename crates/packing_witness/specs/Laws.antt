use Rattle.std.specs.Prelude.{◌≡◌, ℕ, ◌*◌, ◌≤◌, ◌↔◌, Some, None, List, [], ◌∷◌, ◌++◌, map, sum, count_by, All}
use Rattle.items.specs.Game.{GameNumbers, numbers}
use Rattle.items.specs.Multiset.{Same, IsSize, count, is_big}
use Rattle.items.specs.Packable.{Packable, IsPacking, IsRoom}
use Rattle.packing_witness.specs.Edits.{without, scaled}
use Rattle.packing_witness.specs.Sublist.{IsSublistOf}

-- a packable list stays packable when some of its items are left out
abbrev pub SublistsArePackable : Type 0
SublistsArePackable =
    (game : GameNumbers) (part items : List ℕ) → IsSublistOf part items → Packable game items → Packable game part

-- a list that has no item more often than a packable one is packable
abbrev pub PartsArePackable : Type 0
PartsArePackable =
    (game : GameNumbers) (part items : List ℕ) → ((x : ℕ) → count x part ≤ count x items) → Packable game items
    → Packable game part

-- a packable list stays packable when one of its items gets smaller
abbrev pub SmallerItemsFit : Type 0
SmallerItemsFit =
    (game : GameNumbers) (before after : List ℕ) (larger smaller : ℕ) → 1 ≤ smaller → smaller ≤ larger
    → Packable game (before ++ larger ∷ after) → Packable game (before ++ smaller ∷ after)

-- whether a list is packable does not depend on its order
abbrev pub OrderDoesNotMatter : Type 0
OrderDoesNotMatter = (game : GameNumbers) (xs ys : List ℕ) → Same xs ys → Packable game xs ↔ Packable game ys

-- a packable list has a total of at most that of the bins
abbrev pub TotalsFit : Type 0
TotalsFit = (game : GameNumbers) (items : List ℕ) → Packable game items → sum items ≤ game.bins * game.capacity

-- each item of a packable list is a size from 1 to the capacity
abbrev pub ItemsFit : Type 0
ItemsFit = (game : GameNumbers) (items : List ℕ) → Packable game items → All (IsSize game.capacity) items

-- a packable list has at most as many items above half the capacity as there are bins
abbrev pub BigItemsNeedABinEach : Type 0
BigItemsNeedABinEach =
    (game : GameNumbers) (items : List ℕ) → Packable game items → count_by (is_big game.capacity) items ≤ game.bins

-- a list of items has a packing exactly where it has an assignment
abbrev pub PackingsAreAssignments : Type 0
PackingsAreAssignments =
    (game : GameNumbers) (items : List ℕ) → All (IsSize game.capacity) items
    → ((bins : List (List ℕ)) × IsPacking game bins items) ↔ Packable game items

-- the sizes that may come next are those from 1 to the room
abbrev pub SizesUpToTheRoomMayCome : Type 0
SizesUpToTheRoomMayCome =
    (game : GameNumbers) (items : List ℕ) (room size : ℕ) → IsRoom game items room
    → Packable game (items ++ size ∷ []) ↔ ((1 ≤ size) × (size ≤ room))

-- nothing is taken out exactly where no bin has the item
abbrev pub NothingIsTakenOut : Type 0
NothingIsTakenOut =
    (item : ℕ) (bins : List (List ℕ)) → (without item bins ≡ None) ↔ All (λ bin. count item bin ≡ 0) bins

-- a packing of items and one more is a packing of the items when that one is taken out
abbrev pub TakenOutLeavesAPacking : Type 0
TakenOutLeavesAPacking =
    (game : GameNumbers) (items : List ℕ) (item : ℕ) (bins rest : List (List ℕ))
    → IsPacking game bins (items ++ item ∷ []) → without item bins ≡ Some rest → IsPacking game rest items

-- a packing times a factor is a packing of the items times it, in bins of the capacity times it
abbrev pub PackingsScale : Type 0
PackingsScale =
    (game : GameNumbers) (items : List ℕ) (factor : ℕ) (bins : List (List ℕ)) → IsPacking game bins items
    → IsPacking (numbers game.bins (game.capacity * factor) (game.target * factor)) (scaled factor bins)
    (map (λ size. size * factor) items)
