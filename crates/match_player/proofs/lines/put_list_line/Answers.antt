use Rattle.match_player.specs.Words.{words_of}
use Rattle.match_player.proofs.LineLemmas.{put_line}
use Rattle.match_player.proofs.lines.put_list_line.Goals as goal

pub returns : goal.returns
returns g c =
    put_line c.push.result c.args.text.now _ _ _ c.args.label.now (words_of g.T.Integer.text c.args.list.now) c.in_ok-push_all.ensures.ok c.in_ok-put_list.ensures c.push.ensures.ok
