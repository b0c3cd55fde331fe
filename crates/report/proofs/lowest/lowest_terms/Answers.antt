use Rattle.report.proofs.LowestLemmas.{lowest_from_gcd}
use Rattle.report.proofs.lowest.lowest_terms.Goals as goal

pub returns : goal.returns
returns c =
    let divisor = c.common_divisor-divisor in
    lowest_from_gcd c.args.target c.args.capacity divisor.result divisor.ensures.some divisor.ensures.divisor
