use Rattle.std.proofs.Common.{◌≡◌, ◌<◌, List, length, get_or, ap, subst}
use Rattle.node_pool.specs.Pools.{nodes_up_to}
use Rattle.node_pool.specs.Terms.{Terms}
use Rattle.minimax.specs.declared.replies.Reply.{Reply}
use Rattle.minimax.proofs.RootLemmas.{root_of_reply}
use Rattle.minimax.proofs.WritingLemmas.{IsFor-written, IsLegalOfAlgorithm-of_pool, may_put, written_more, written_root}
use Rattle.minimax.proofs.writing.write_replies.Goals as goal

pub write-requires : goal.write-requires
write-requires c =
    let replies : List Reply = c.args.replies.now in
    let reply = c.reply-item.result in
    let items = c.as_slice-reply-items.ensures.value in
    may_put c.args.space.now replies c.args.root.now c.args.told c.args.budget c.loop-reply.reply-index c.loop-reply.written reply reply c.requires.may c.loop-reply.invariant
    (subst (λ xs. c.loop-reply.reply-index < length xs) items c.loop-reply-test.true)
    (subst (λ xs. reply ≡ get_or xs c.loop-reply.reply-index reply) items c.reply-item.is)

pub loop-reply-preserved : goal.loop-reply-preserved
loop-reply-preserved c =
    let replies : List Reply = c.args.replies.now in
    let reply = c.reply-item.result in
    let items = c.as_slice-reply-items.ensures.value in
    written_more c.args.space.now replies c.args.root.now c.args.told c.args.budget c.loop-reply.reply-index c.loop-reply.written c.write.new.written reply reply
    c.loop-reply.invariant (subst (λ xs. c.loop-reply.reply-index < length xs) items c.loop-reply-test.true)
    (subst (λ xs. reply ≡ get_or xs c.loop-reply.reply-index reply) items c.reply-item.is) c.in_ok-write.ensures

pub into_strategy-requires : goal.into_strategy-requires
into_strategy-requires c =
    let end = written_root c.args.space.now c.args.replies.now c.args.root.now c.args.told c.args.budget c.loop-reply.reply-index c.in_ok-number.number c.loop-reply.written
    c.node_number.new.written c.requires.may c.loop-reply.invariant c.in_ok-number.ensures in
    record { root = root_of_reply c.args.space.now 0 c.node_number.new.written.pool.nodes c.in_ok-number.number c.args.root.now c.requires.may.is_root end.0 }

pub returns-clause-for_game : goal.returns-clause-for_game
returns-clause-for_game c =
    let end = written_root c.args.space.now c.args.replies.now c.args.root.now c.args.told c.args.budget c.loop-reply.reply-index c.in_ok-number.number c.loop-reply.written
    c.node_number.new.written c.requires.may c.loop-reply.invariant c.in_ok-number.ensures in
    IsFor-written c.args.space.now c.args.budget c.in_ok-number.number c.node_number.new.written.pool c.into_strategy.result end.1.of_game end.1.of_format end.2
    c.into_strategy.ensures.format c.into_strategy.ensures.game c.into_strategy.ensures.nodes

pub returns-clause-legal : goal.returns-clause-legal
returns-clause-legal c =
    let end = written_root c.args.space.now c.args.replies.now c.args.root.now c.args.told c.args.budget c.loop-reply.reply-index c.in_ok-number.number c.loop-reply.written
    c.node_number.new.written c.requires.may c.loop-reply.invariant c.in_ok-number.ensures in
    let made = c.into_strategy.ensures in
    let pool = c.node_number.new.written.pool in
    IsLegalOfAlgorithm-of_pool c.args.space.now.sizes c.into_strategy.result pool (nodes_up_to c.in_ok-number.number pool.nodes)
    (ap (λ (t : Terms). t.sizes) end.1.of_format)
    made.format made.game made.nodes made.legal
