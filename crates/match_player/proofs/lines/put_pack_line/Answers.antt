use Rattle.std.proofs.Common.{codes}
use Rattle.strategy_text.specs.Text.{pack_words}
use Rattle.match_player.proofs.LineLemmas.{put_line}
use Rattle.match_player.proofs.lines.put_pack_line.Goals as goal

pub returns : goal.returns
returns c =
    put_line c.push.result c.args.text.now _ _ _ (codes "pack") (pack_words c.args.packing.now) c.in_ok-push_all.ensures.ok
    (rw c.bins.ensures.value at c.in_ok-put_bins.ensures) c.push.ensures.ok
