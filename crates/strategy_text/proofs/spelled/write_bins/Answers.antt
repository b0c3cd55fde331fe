use Rattle.strategy_text.proofs.Spaced.{writes_bins}
use Rattle.strategy_text.proofs.spelled.write_bins.Goals as goal

pub returns-in_ok-write_list-in-len1-up : goal.returns-in_ok-write_list-in-len1-up
returns-in_ok-write_list-in-len1-up g c =
    writes_bins c.put_each.result _ _ _ c.first-item.result c.args.bins.now c.in-len1-up.len_at_least c.first-item.is
    (rw c.as_slice.ensures.value at c.in_ok-write_list-in-len1-up.ensures) c.put_each.ensures
