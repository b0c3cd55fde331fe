use Rattle.match_player.proofs.AnswerLemmas.{ok_alike}
use Rattle.match_player.proofs.answers.is_packable.Goals as goal

pub returns-in-Some : goal.returns-in-Some
returns-in-Some c = ok_alike c.args.game.now c.args.list.now c.in-Some.items c.packable.result c.in-Some.ensures c.packable.ensures.exact
