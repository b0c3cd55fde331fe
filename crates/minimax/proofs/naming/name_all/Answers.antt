use Rattle.std.proofs.Common.{List, get_or, sym, ap, subst}
use Rattle.std.specs.Prelude.{All, Contains, map}
use Rattle.std.proofs.lemmas.List.{get_or_default}
use Rattle.std.proofs.lemmas.List.Elements.{All-nil, All-contains}
use Rattle.strategy_text.specs.declared.node.Entry.{Entry}
use Rattle.minimax.specs.Naming.{none_named}
use Rattle.minimax.specs.State.{IsPending, IsReply}
use Rattle.minimax.proofs.NamingLemmas.{leaves_all, may_name, names_more, replies_named, reply_named, sizes_named}
use Rattle.minimax.proofs.naming.name_all.Goals as goal

pub loop-entry-init : goal.loop-entry-init
loop-entry-init c = record {
  chain = none_named c.args.written.now;
  sizes = ap (λ xs. map (λ (entry : Entry). entry.size) xs) c.new-all.ensures.items;
  each = subst (All (IsReply c.args.space.now.game c.args.written.now.pool.nodes c.args.position.now)) (sym c.new-all.ensures.items)
      (All-nil (IsReply c.args.space.now.game c.args.written.now.pool.nodes c.args.position.now));
}

pub name-requires : goal.name-requires
name-requires c =
    let none : Entry = record { size = 0; load = 0; to = 0 } in (
      c.requires.0,
      may_name c.args.space.now c.requires.0 c.args.position.now c.args.entries.now (get_or c.args.entries.now c.loop-entry.entry-index none) c.args.written.now
          c.loop-entry.written c.loop-entry.invariant.chain c.requires.1
          (c.loop-entry.entry-index, c.loop-entry-test.true, get_or_default c.args.entries.now c.loop-entry.entry-index _ _ c.loop-entry-test.true),
    )

pub loop-entry-preserved : goal.loop-entry-preserved
loop-entry-preserved c =
    let space = c.args.space.now in
    let position = c.args.position.now in
    let none : Entry = record { size = 0; load = 0; to = 0 } in
    let entries : List Entry = c.args.entries.now in
    let entry : Entry = get_or entries c.loop-entry.entry-index none in
    let i = c.loop-entry.invariant in
    let w = c.loop-entry.written in
    let next = c.name.new.written in
    let may = c.requires.1 in
    let among : Contains entries entry = (c.loop-entry.entry-index, c.loop-entry-test.true, get_or_default entries c.loop-entry.entry-index _ _ c.loop-entry-test.true) in
    let pending = All-contains (IsPending space c.requires.0 position) entries entry may.pending among in
    let left = leaves_all space position entries c.args.written.now w i.chain may.limit 1 may.unnamed may.under may.placed in
    let named = c.in_ok-named.named in
    let reply = reply_named space c.requires.0 w next position entry named may.limit 1 left.left pending left.room c.in_ok-named.ensures in
    record {
      chain = names_more space position entries entry named c.args.written.now w next i.chain among c.in_ok-named.ensures;
      sizes = sizes_named entries c.loop-entry.all.items c.put.new.entries.items entry named c.loop-entry.entry-index c.loop-entry-test.true
          (get_or_default entries c.loop-entry.entry-index _ _ c.loop-entry-test.true) c.in_ok-named.ensures.size c.in_ok-put.ensures i.sizes;
      each = replies_named space w next position c.loop-entry.all.items c.put.new.entries.items entry named c.in_ok-named.ensures i.each reply c.in_ok-put.ensures;
    }
