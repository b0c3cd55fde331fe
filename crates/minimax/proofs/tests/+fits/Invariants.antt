use Rattle.std.proofs.Common.{length}
use Rattle.minimax.proofs.tests.+fits.Given as goal

abbrev pub decreases-fits : goal.decreases-fits
decreases-fits l = length l.items.now
