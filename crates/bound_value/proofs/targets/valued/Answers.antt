use Rattle.std.proofs.Common.{subst}
use Rattle.bound_value.specs.Targets.{IsFoundBelow}
use Rattle.bound_value.proofs.ValueLemmas.{shown_at, shown_nowhere}
use Rattle.bound_value.proofs.targets.valued.Goals as goal

pub returns-in-Some-clause-shown : goal.returns-in-Some-clause-shown
returns-in-Some-clause-shown c bins capacity budget found shows =
    shown_at bins capacity budget c.args.target c.in-Some.adversary c.args.algorithm
    (subst (IsFoundBelow bins capacity budget c.args.target) c.in-Some.is found) shows

pub returns-in-None-clause-shown : goal.returns-in-None-clause-shown
returns-in-None-clause-shown c bins capacity budget found shows =
    shown_nowhere bins capacity budget c.args.target c.args.algorithm
    (subst (IsFoundBelow bins capacity budget c.args.target) c.in-None.is found) shows
