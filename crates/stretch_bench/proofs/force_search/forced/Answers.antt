use Rattle.std.proofs.Common.{inr}
use Rattle.stretch_bench.proofs.ForceLemmas.{not_found_due}
use Rattle.stretch_bench.proofs.force_search.forced.Goals as goal

pub returns-in_ok-line-in-NotFound : goal.returns-in_ok-line-in-NotFound
returns-in_ok-line-in-NotFound c = record {
  forced = inr (not_found_due c.args.game.now c.args.budget c.in-NotFound.visits c.in_ok-strategy.field-0 c.in_ok-line-in-NotFound.line c.of_lines.result
      c.in-NotFound.is c.in_ok-strategy.ensures.forced c.in_ok-line-in-NotFound.ensures c.of_lines.ensures);
}
