use Rattle.match_player.proofs.LineLemmas.{play_parts}
use Rattle.match_player.proofs.lines.match_text.Goals as goal

pub returns : goal.returns
returns c = record {
  exact =
      play_parts c.args.name.now c.args.game.now c.args.transcript.now _ _ _ _ c.new-text.ensures.empty c.in_ok-put_play_line.ensures
      c.in_ok-put_run_lines.ensures c.in_ok-put_pack_line.ensures;
}
