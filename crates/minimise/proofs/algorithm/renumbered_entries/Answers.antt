use Rattle.std.proofs.Common.{◌<◌, length, map, sym, subst}
use Rattle.std.specs.Prelude.{All}
use Rattle.strategy_text.specs.declared.node.Entry.{Entry}
use Rattle.minimise.proofs.NodeLemmas.{map_at}
use Rattle.minimise.proofs.algorithm.renumbered_entries.Goals as goal

pub bounds-numbers-entry : goal.bounds-numbers-entry
bounds-numbers-entry c =
    map_at (λ number. number < length c.args.numbers.now) (λ (entry : Entry). entry.to) c.as_slice-entry-items.result.now
    c.loop-entry.entry-index _ c.loop-entry-test.true
    (subst (λ list. All (λ number. number < length c.args.numbers.now) (map (λ (entry : Entry). entry.to) list))
    (sym c.as_slice-entry-items.ensures.value) c.requires)
