use Rattle.match_player.proofs.LineLemmas.{put_run}
use Rattle.match_player.proofs.lines.put_run_lines.Goals as goal

pub returns : goal.returns
returns c =
    put_run c.put_list_line-3.result c.args.text.now _ _ _ c.args.items.now c.args.bins.now c.args.loads.now _ _ _ c.as_slice.ensures.value
    c.as_slice-2.ensures.value c.as_slice-3.ensures.value
    c.in_ok-put_list_line.ensures c.in_ok-put_list_line-2.ensures c.put_list_line-3.ensures
