use Rattle.minimise.proofs.StrategyLemmas as strategies
use Rattle.minimise.proofs.laws.canonical_forms_are_legal.Goals as goal

pub returns : goal.returns
returns c = record {
  legal = strategies.canonical_forms_are_legal;
  distinct = strategies.canonical_forms_have_distinct_positions;
  reached = strategies.canonical_forms_are_reached;
}
