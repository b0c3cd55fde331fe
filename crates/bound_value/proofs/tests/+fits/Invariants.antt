use Rattle.std.proofs.Common.{length}
use Rattle.bound_value.proofs.tests.+fits.Given as goal

abbrev pub decreases-fits : goal.decreases-fits
decreases-fits l = length l.items.now
