use Rattle.std.proofs.Common.{◌+◌, ◌*◌}
use Rattle.forcing.proofs.search.Search.+visiting.Given as goal

abbrev pub decreases-send : goal.decreases-send
decreases-send g l = 2 * l.left

abbrev pub decreases-visit : goal.decreases-visit
decreases-visit g l = 2 * l.left + 1
