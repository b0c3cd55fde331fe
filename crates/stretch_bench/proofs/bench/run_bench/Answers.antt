use Rattle.stretch_bench.specs.Check.{adversary_accepted, algorithm_accepted}
use Rattle.stretch_bench.proofs.AcceptedLemmas.{accepted_forces, accepted_replies, accepted_stands, exact_answer, usage_answer}
use Rattle.stretch_bench.proofs.bench.run_bench.Goals as goal

pub returns-clause-no_command : goal.returns-clause-no_command
returns-clause-no_command g c none = (c.run_words.ensures.no_command none, usage_answer _ c.run_words.result c.run_words.ensures.answer none)

pub returns-clause-exact : goal.returns-clause-exact
returns-clause-exact g c command spells = exact_answer _ c.run_words.result c.run_words.ensures.answer command spells

pub returns-clause-accepted : goal.returns-clause-accepted
returns-clause-accepted g c accepted first =
    accepted_stands _ c.run_words.result c.run_words.ensures.answer accepted first

pub returns-clause-forced : goal.returns-clause-forced
returns-clause-forced g c game nodes first =
    accepted_forces game nodes _ _
    (accepted_stands _ c.run_words.result c.run_words.ensures.answer (adversary_accepted game nodes) first)

pub returns-clause-kept : goal.returns-clause-kept
returns-clause-kept g c game nodes first =
    accepted_replies game nodes _ _
    (accepted_stands _ c.run_words.result c.run_words.ensures.answer (algorithm_accepted game nodes) first)
