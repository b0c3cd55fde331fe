use Rattle.std.proofs.Common.{◌≡◌}
use Rattle.std.specs.List.{filter_map, range_with_len}
use Rattle.strategy_transfer.specs.Weakened.{kept_at}
use Rattle.strategy_transfer.proofs.weakened.of_adversary.Given as goal

abbrev pub invariant-loop-number : goal.invariant-loop-number
invariant-loop-number l = l.made ≡ filter_map (kept_at l.game l.t l.nodes) (range_with_len 0 l.number)
