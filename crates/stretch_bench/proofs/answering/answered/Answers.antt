use Rattle.std.proofs.Common.{ℕ, ◌-◌, Err, inl, inr, ap}
use Rattle.stretch_bench.proofs.AnswerLemmas.{answer_due, unpackable_due}
use Rattle.stretch_bench.proofs.LegalLemmas.{algorithm_nodes, algorithm_strategy, whole_of}
use Rattle.stretch_bench.proofs.answering.answered.Goals as goal

pub from_strategy-nodes-requires : goal.from_strategy-nodes-requires
from_strategy-nodes-requires c = record { legal = algorithm_nodes c.args.strategy c.requires.legal }

pub of_nodes-algorithm-requires-clause-whole_game : goal.of_nodes-algorithm-requires-clause-whole_game
of_nodes-algorithm-requires-clause-whole_game c =
    whole_of c.from_strategy-nodes.result c.args.strategy.format c.args.strategy.game c.from_strategy-nodes.ensures.terms

pub returns-in-Ok : goal.returns-in-Ok
returns-in-Ok c =
    let made = c.from_strategy-nodes.ensures in
    let pool = c.from_strategy-nodes.result in
    let strategy = c.args.strategy in
    record {
      replies = inl (answer_due strategy pool c.of_nodes-algorithm.result (c.len-root.result - 1) _ _ c.in-Ok.answered c.of_lines.result
          (algorithm_strategy strategy pool made.format made.terms made.nodes) made.root (ap (λ (n : ℕ). n - 1) c.len-root.ensures.value)
          (whole_of pool strategy.format strategy.game made.terms) c.of_nodes-algorithm.ensures.value c.in-Ok.ensures.packable
          c.in-Ok.ensures.answered c.in-Ok.ensures.below c.in_ok-lines-in-Ok.ensures.exact c.of_lines.ensures);
    }

pub returns-in-Err-Unpackable : goal.returns-in-Err-Unpackable
returns-in-Err-Unpackable c =
    let made = c.from_strategy-nodes.ensures in
    let pool = c.from_strategy-nodes.result in
    record {
      replies = inr (unpackable_due c.args.strategy pool c.of_nodes-algorithm.result (c.len-root.result - 1) _ _ _ _
          c.of_lines-in-Err-Unpackable.result (algorithm_strategy c.args.strategy pool made.format made.terms made.nodes)
          c.of_nodes-algorithm.ensures.value (c.in-Err-Unpackable.ensures.unpackable _ (ap Err c.in-Err-Unpackable.field-0-is))
          c.in-Err-Unpackable.place-is c.in_ok-line-in-Err-Unpackable.ensures c.of_lines-in-Err-Unpackable.ensures);
    }
