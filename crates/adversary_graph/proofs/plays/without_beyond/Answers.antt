use Rattle.std.proofs.Common.{ℕ, ◌-◌, sym}
use Rattle.std.specs.List.{concat}
use Rattle.items.specs.Multiset.{count}
use Rattle.adversary_graph.proofs.EndLemmas.{beyond_more}
use Rattle.adversary_graph.proofs.plays.without_beyond.Goals as goal

pub loop-i-preserved : goal.loop-i-preserved
loop-i-preserved c =
    let f : (ℕ → ℕ) = λ size. count size (concat c.args.bins.now) - count size c.args.items.now in
    rw (
      c.in_ok-packing-2.ensures,
      c.saturating_sub-surplus.ensures,
      c.times_in_bins.ensures,
      c.times.ensures,
      c.bins.ensures.value,
      c.loop-i.invariant,
    ) (sym (beyond_more f c.loop-i.i c.args.bins.now))
