use Rattle.std.proofs.Common.{refl, arith}
use Rattle.minimax.proofs.StateLemmas.{IsPlain-same}
use Rattle.minimax.proofs.NamingLemmas.{AreOfSizes-same, Stays-all, leaves_all, puts_named}
use Rattle.minimax.proofs.naming.put_reply.Goals as goal

pub push_reply-requires-clause-playable : goal.push_reply-requires-clause-playable
push_reply-requires-clause-playable c = c.requires.may.1.playable

pub push_reply-requires-clause-format : goal.push_reply-requires-clause-format
push_reply-requires-clause-format c =
    let stays = Stays-all c.args.space.now c.args.position.now c.args.entries.now c.args.written.now c.name_all.new.written c.in_ok-named.ensures.all in
    IsPlain-same c.args.space.now c.args.written.now.pool c.name_all.new.written.pool stays.of_terms c.requires.may.1.replies.of_format

pub push_reply-requires-clause-room : goal.push_reply-requires-clause-room
push_reply-requires-clause-room c =
    let may = c.requires.may.1 in
    let left = leaves_all c.args.space.now c.args.position.now c.args.entries.now c.args.written.now c.name_all.new.written c.in_ok-named.ensures.all may.limit 1 may.unnamed
    may.under may.placed in
    omega (arith, left.room.few, may.within)

pub push_reply-requires-clause-replies : goal.push_reply-requires-clause-replies
push_reply-requires-clause-replies c =
    let named = c.in_ok-named.ensures.named in
    let all = c.requires.of_all in
    record {
      of_all = record {
        room = all.room;
        is_room = all.is_room;
        sizes = AreOfSizes-same c.args.space.now 0 all.room c.args.entries.now c.in_ok-named.named.items named.sizes all.sizes;
      };
      each = named.each;
    }

pub returns : goal.returns
returns c =
    let between = c.name_all.new.written in
    puts_named c.args.space.now c.args.position.now c.args.entries.now c.args.written.now between (record between { pool = c.push_reply.new.replies }) c.push_reply.result
    c.in_ok-named.ensures.all refl c.push_reply.ensures
