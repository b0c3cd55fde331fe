use Rattle.std.proofs.Common.{arith, subst}
use Rattle.reach_planes.proofs.PassLemmas.{IsKeptUpTo-more, IsOnesFrom}
use Rattle.reach_planes.proofs.rows.keep_half.Goals as goal

pub loop-row-preserved : goal.loop-row-preserved
loop-row-preserved c =
    IsKeptUpTo-more c.args.from c.loop-row.row c.args.lack c.ones_from.result c.args.sums.now c.args.words.now c.loop-row.words (omega arith)
    (subst (λ n. IsOnesFrom n c.ones_from.result) c.saturating_sub.ensures c.ones_from.ensures) c.loop-row.invariant
