use Rattle.std.proofs.Common.{rules, ◌≡◌, arith}
use Rattle.good_situations.specs.Finish.{raised_total}
use Rattle.good_situations.proofs.ListLemmas.{raised_total-le}
use Rattle.good_situations.proofs.finish.raised_total.Goals as goal

pub returns-clause-small : goal.returns-clause-small
returns-clause-small c =
    let total : c.sum.result ≡ raised_total c.args.floor c.args.loads.now = search rules in
    omega (arith, total, raised_total-le c.args.floor c.args.loads.now c.requires c.ranges.floor.fits (λ i. omega (arith, c.type_inv.loads i)))
