use Rattle.listed_sizes.proofs.ForcedLemmas.{legal_listed_forces, listed_forces_every, listed_is_legal}
use Rattle.listed_sizes.proofs.laws.listed_adversaries_force_every_algorithm.Goals as goal

pub returns-clause-listed : goal.returns-clause-listed
returns-clause-listed c = legal_listed_forces

pub returns-clause-legal : goal.returns-clause-legal
returns-clause-legal c = listed_is_legal

pub returns-clause-whole : goal.returns-clause-whole
returns-clause-whole c = listed_forces_every
