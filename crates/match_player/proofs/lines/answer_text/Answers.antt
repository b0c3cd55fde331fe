use Rattle.match_player.proofs.LineLemmas.{answer_parts}
use Rattle.match_player.proofs.lines.answer_text.Goals as goal

pub returns : goal.returns
returns c = record {
  exact =
      answer_parts c.args.game.now c.args.answered.now _ _ _ c.new-text.ensures.empty c.in_ok-put_answer_line.ensures c.in_ok-put_run_lines.ensures;
}
