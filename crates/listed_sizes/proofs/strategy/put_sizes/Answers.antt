use Rattle.listed_sizes.proofs.TextLemmas.{sizes_put}
use Rattle.listed_sizes.proofs.strategy.put_sizes.Goals as goal

pub returns : goal.returns
returns c = sizes_put _ c.args.sizes.now c.args.text.now _ _ _ c.in_ok-push_all.ensures.ok c.in_ok-put_list.ensures c.push.ensures.ok
