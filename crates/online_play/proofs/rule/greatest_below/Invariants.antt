use Rattle.std.proofs.Common.{◌≡◌, take}
use Rattle.std.specs.Prelude.{filter, nat_lt}
use Rattle.online_play.specs.Rules.{greatest}
use Rattle.online_play.proofs.rule.greatest_below.Given as goal

abbrev pub invariant-loop-load : goal.invariant-loop-load
invariant-loop-load l = l.most ≡ greatest (filter (λ load. nat_lt load l.limit) (take l.load-index l.loads))
