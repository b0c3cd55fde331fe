use Rattle.online_play.proofs.RuleLemmas.{best_fit_is}
use Rattle.online_play.proofs.rule.choose_best.Goals as goal

pub returns : goal.returns
returns c =
    best_fit_is c.args.target c.args.size c.saturating_sub-limit.result c.greatest_below.result c.bin_or_first.result c.args.loads.now c.first_below_with.result
    c.saturating_sub-limit.ensures c.greatest_below.ensures c.first_below_with.ensures c.bin_or_first.ensures
