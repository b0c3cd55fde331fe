use Rattle.std.proofs.Common.{inr}
use Rattle.stretch_bench.proofs.ValueLemmas.{at_due, first_kind, nowhere_due, open_due}
use Rattle.stretch_bench.proofs.valuing.valued.Goals as goal

pub returns-in_ok-line-in-At : goal.returns-in_ok-line-in-At
returns-in_ok-line-in-At c = record {
  valued = first_kind c.due_of_two.result _ _ _ _ _
      (λ due. at_due c.args.bins c.args.capacity c.args.budget c.in_ok-target.field-0 c.in_ok-target.ensures.answer c.in-At.target c.in-At.adversary
      c.in-At.algorithm c.in_ok-line-in-At.line due c.in-At.is c.in_ok-line-in-At.ensures)
      c.due_of_two.ensures;
}

pub returns-in_ok-line-in-Nowhere : goal.returns-in_ok-line-in-Nowhere
returns-in_ok-line-in-Nowhere c = record {
  valued = first_kind c.due_of_one.result _ _ _ _ _
      (λ due. nowhere_due c.args.bins c.args.capacity c.args.budget c.in_ok-target.field-0 c.in_ok-target.ensures.answer c.in-Nowhere.algorithm
      c.in_ok-line-in-Nowhere.line due c.in-Nowhere.is c.in_ok-line-in-Nowhere.ensures)
      c.due_of_one.ensures;
}

pub returns-in_ok-line-in-Undecided : goal.returns-in_ok-line-in-Undecided
returns-in_ok-line-in-Undecided c = record {
  valued = inr (open_due c.args.bins c.args.capacity c.args.budget c.in_ok-target.field-0 c.in_ok-target.ensures.answer c.args.table c.in-Undecided.target
      c.in-Undecided.visits c.in-Undecided.pass c.in-Undecided.path c.game_at-game.result c.in_ok-line-in-Undecided.line c.of_lines.result c.in-Undecided.is
      c.in_ok-target.ensures.undecided c.in_ok-target.ensures.many_visits c.in_ok-target.ensures.all_positions c.game_at-game.ensures
      c.in_ok-line-in-Undecided.ensures c.of_lines.ensures);
}
