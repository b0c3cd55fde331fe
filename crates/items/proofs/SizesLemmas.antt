-- The numbers of a range, and the sizes from 1 to a greatest one.
use Rattle.std.proofs.Common.{ℕ, ◌+◌, ◌-◌, ◌<◌, ◌≤◌, All, Contains, arith}
use Rattle.std.specs.List.{range_with_len}
use Rattle.std.proofs.lemmas.List.Elements.{All-weaker, All-contains_itself}
use Rattle.std.proofs.lemmas.List.FromFn.{length-range_with_len, get_or-range_with_len}
use Rattle.items.specs.Game.{GameNumbers}
use Rattle.items.specs.Multiset.{IsSize, sizes_of}

-- the numbers of a range are those from its first to before its end
pub within_range : (first number x : ℕ) → Contains (range_with_len first number) x → (first ≤ x) × (x < first + number)
within_range first number x c =
    let place : c.0 < number = omega (arith, c.1, length-range_with_len first number) in
    let e = get_or-range_with_len first number c.0 x place in
    (omega (arith, e, c.2), omega (arith, e, c.2, place))

pub Contains-range : (first number x : ℕ) → first ≤ x → x < first + number → Contains (range_with_len first number) x
Contains-range first number x low high =
    (x - first, omega (arith, length-range_with_len first number), omega (arith, get_or-range_with_len first number (x - first) x (omega arith)))

pub size_from_Contains : (most size : ℕ) → Contains (range_with_len 1 most) size → IsSize most size
size_from_Contains most size c = let h = within_range 1 most size c in record { low = h.0; high = omega (arith, h.1) }

pub Contains_from_size : (most size : ℕ) → IsSize most size → Contains (range_with_len 1 most) size
Contains_from_size most size s = Contains-range 1 most size s.low (omega (arith, s.high))

-- each size of the whole game is one
pub sizes_are_sizes : (game : GameNumbers) → All (IsSize game.capacity) (sizes_of game)
sizes_are_sizes game =
    All-weaker (Contains (sizes_of game)) (IsSize game.capacity) (size_from_Contains game.capacity) (sizes_of game) (All-contains_itself (sizes_of game))
