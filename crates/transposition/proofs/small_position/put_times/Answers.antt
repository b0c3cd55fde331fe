use Rattle.std.proofs.Common.{◌+◌, ◌≤◌, sum, ap, arith}
use Rattle.std.proofs.Math.Nat.{mul-le-mul_left}
use Rattle.items.proofs.MultisetLemmas.{sum-put_times}
use Rattle.transposition.proofs.small_position.put_times.Goals as goal

pub put-requires-clause-fits : goal.put-requires-clause-fits
put-requires-clause-fits c =
    let more : c.loop-i._i + 1 ≤ c.args.number = omega arith in
    omega (arith, ap sum c.loop-i.invariant, sum-put_times c.loop-i._i c.args.size c.args.items.now, mul-le-mul_left c.args.size more, c.requires.fits)
