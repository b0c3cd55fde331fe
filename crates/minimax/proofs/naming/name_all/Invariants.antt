use Rattle.std.proofs.Common.{◌≡◌, map, take}
use Rattle.std.specs.Prelude.{All}
use Rattle.strategy_text.specs.declared.node.Entry.{Entry}
use Rattle.minimax.specs.Naming.{NamesAll}
use Rattle.minimax.specs.State.{IsReply}
use Rattle.minimax.proofs.naming.name_all.Given as goal

abbrev pub invariant-loop-entry : goal.invariant-loop-entry
invariant-loop-entry l = record {
  chain : NamesAll l.space l.position l.entries l.fn.written l.written;
  sizes : map (λ (entry : Entry). entry.size) l.all.items ≡ map (λ (entry : Entry). entry.size) (take l.entry-index l.entries);
  each : All (IsReply l.space.game l.written.pool.nodes l.position) l.all.items;
}
