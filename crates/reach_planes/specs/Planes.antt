use Rattle.std.specs.Prelude.{ℕ, ◌+◌, ◌-◌, ◌^◌, ◌≤◌}
use Rattle.items.specs.Game.{GameNumbers}

-- the most bits of a plane, one for each list of loads of all bins but one
abbrev pub most_bits : ℕ
most_bits = 1048576

-- the lists of m - 1 loads up to the capacity are at most 1,048,576
abbrev pub FitsInPlanes : GameNumbers → Type 0
FitsInPlanes game = (game.capacity + 1) ^ (game.bins - 1) ≤ most_bits
