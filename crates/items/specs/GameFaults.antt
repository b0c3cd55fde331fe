use Rattle.std.specs.Prelude.{◌<◌, ◌≤◌, ◌*◌, ◌⊎◌}
use Rattle.items.specs.declared.limits.TheConstants.{MOST_BINS, MOST_SIZE}
use Rattle.items.specs.Game.{GameNumbers, HasBins, HasCapacity}
use Rattle.items.specs.declared.game.GameFault.{GameFault}
use Rattle.items.specs.declared.game.GameFault.TheVariants.{Bins, Capacity, Target}

-- which number is the first that is out of its range
abbrev pub IsFaultOf : GameNumbers → GameFault → Type 0
IsFaultOf game Bins = (game.bins < 2) ⊎ (MOST_BINS < game.bins)
IsFaultOf game Capacity = HasBins game.bins × ((game.capacity < 1) ⊎ (MOST_SIZE < game.capacity))
IsFaultOf game Target =
    HasBins game.bins × HasCapacity game.capacity × ((game.target ≤ game.capacity) ⊎ (2 * game.capacity < game.target))
