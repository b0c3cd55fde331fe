use Rattle.online_play.proofs.RuleLemmas.{least_loaded_is}
use Rattle.online_play.proofs.rule.choose_least.Goals as goal

pub returns : goal.returns
returns c =
    least_loaded_is c.least_of.result c.bin_or_first.result c.args.loads.now c.first_with.result c.least_of.ensures c.first_with.ensures c.bin_or_first.ensures
