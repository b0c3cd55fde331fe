use Rattle.good_situations.proofs.OrderLemmas.{IsOrderOf-kept_order, finish_bin-lt, big_bin-lt, IsOrderOf-big_order_after}
use Rattle.good_situations.proofs.laws.kept_orders_name_bins_of_the_game.Goals as goal

pub returns-clause-made : goal.returns-clause-made
returns-clause-made c = IsOrderOf-kept_order

pub returns-clause-named : goal.returns-clause-named
returns-clause-named c = λ game order actual size of.
    (finish_bin-lt game order actual size game.bins of, big_bin-lt game order actual size game.bins of, IsOrderOf-big_order_after game order size game.bins of)
