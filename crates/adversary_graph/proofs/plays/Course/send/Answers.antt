use Rattle.std.proofs.Common.{sym}
use Rattle.online_play.proofs.RunLemmas.{bins_of-push}
use Rattle.adversary_graph.proofs.PlayLemmas.{bin_in_run, load_small, run_placed}
use Rattle.adversary_graph.proofs.plays.Course.send.Goals as goal

pub put-requires-clause-in_range : goal.put-requires-clause-in_range
put-requires-clause-in_range g c =
    let game = c.args.game.now in
    let answer = g.O.Online.answer c.args.player.now game in
    let algorithm = g.O.Online.is_algorithm c.args.player.now game c.game_is_legal.ensures in
    let bin = rw (c.as_slice.ensures.value, c.in_ok-push.ensures.ok) at c.place-bin.ensures.value in
    rw (bin, c.requires.course.actual) (bin_in_run game answer algorithm c.args.self.now.items c.args.size c.requires.packable)

pub bounds-as_slice-from : goal.bounds-as_slice-from
bounds-as_slice-from g c =
    let game = c.args.game.now in
    let answer = g.O.Online.answer c.args.player.now game in
    let algorithm = g.O.Online.is_algorithm c.args.player.now game c.game_is_legal.ensures in
    let bin = rw (c.as_slice.ensures.value, c.in_ok-push.ensures.ok) at c.place-bin.ensures.value in
    rw (c.from.ensures, c.as_slice-2.ensures.value, bin, c.requires.course.actual) (bin_in_run game answer algorithm c.args.self.now.items c.args.size c.requires.packable)

pub put-requires-clause-fits : goal.put-requires-clause-fits
put-requires-clause-fits g c =
    let game = c.args.game.now in
    let answer = g.O.Online.answer c.args.player.now game in
    let algorithm = g.O.Online.is_algorithm c.args.player.now game c.game_is_legal.ensures in
    let bin = rw (c.as_slice.ensures.value, c.in_ok-push.ensures.ok) at c.place-bin.ensures.value in
    rw (bin, c.requires.course.actual) (load_small game answer algorithm c.args.self.now.items c.args.size c.requires.packable c.game_is_legal.ensures)

pub returns-clause-course : goal.returns-clause-course
returns-clause-course g c =
    let game = c.args.game.now in
    let answer = g.O.Online.answer c.args.player.now game in
    let algorithm = g.O.Online.is_algorithm c.args.player.now game c.game_is_legal.ensures in
    let history = c.args.self.now.items in
    let bin = rw (c.as_slice.ensures.value, c.in_ok-push.ensures.ok) at c.place-bin.ensures.value in
    rw (c.in_ok-push-2.ensures.ok, c.in_ok-push.ensures.ok, c.put.ensures.added, bin, c.requires.course.bins, c.requires.course.actual) (record {
      bins = sym (bins_of-push answer history c.args.size);
      actual = sym (run_placed game answer algorithm history c.args.size c.requires.packable);
    })
