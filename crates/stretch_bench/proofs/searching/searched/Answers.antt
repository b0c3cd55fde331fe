use Rattle.std.proofs.Common.{inr, refl}
use Rattle.stretch_bench.proofs.OutcomeLemmas.{undecided_due}
use Rattle.stretch_bench.proofs.searching.searched.Goals as goal

pub returns-in_ok-line-in-Undecided : goal.returns-in_ok-line-in-Undecided
returns-in_ok-line-in-Undecided c = record {
  found = inr (undecided_due c.args.game.now c.args.budget c.args.table c.args.table c.in-Undecided.visits c.in-Undecided.pass
      c.in-Undecided.path c.in_ok-strategy.field-0 c.in_ok-line-in-Undecided.line c.of_lines.result c.in-Undecided.is
      refl c.in_ok-strategy.ensures.answer c.in_ok-strategy.ensures.many_visits c.in_ok-strategy.ensures.all_positions
      c.in_ok-strategy.ensures.each_pass c.in_ok-strategy.ensures.won_pass c.in_ok-line-in-Undecided.ensures c.of_lines.ensures);
}
