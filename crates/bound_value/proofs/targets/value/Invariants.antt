use Rattle.bound_value.specs.Targets.{IsFoundBelow}
use Rattle.bound_value.proofs.targets.value.Given as goal

abbrev pub invariant-loop-target : goal.invariant-loop-target
invariant-loop-target l = record {
  found : IsFoundBelow l.m l.g l.budget l.target l.below;
}
