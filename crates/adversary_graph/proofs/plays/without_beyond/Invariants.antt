use Rattle.std.proofs.Common.{◌≡◌, ◌-◌, replicate}
use Rattle.std.specs.List.{concat, flat_map, range_with_len}
use Rattle.items.specs.Multiset.{count}
use Rattle.adversary_graph.specs.Play.{without_all}
use Rattle.adversary_graph.proofs.plays.without_beyond.Given as goal

abbrev pub invariant-loop-i : goal.invariant-loop-i
invariant-loop-i l =
    l.packing ≡ without_all (flat_map (λ size. replicate (count size (concat l.bins) - count size l.items) size) (range_with_len 1 l.i)) l.bins
