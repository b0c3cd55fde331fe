use Rattle.std.proofs.Common.{refl}
use Rattle.checker.specs.Progress.{told_by}
use Rattle.checker.specs.declared.fault.Wanted.TheVariants.{Either}
use Rattle.checker.proofs.ForcedLemmas.{accepted_forces}
use Rattle.checker.proofs.TextLemmas.{Accepts-from}
use Rattle.checker.proofs.reading.check.Goals as goal

pub returns-clause-accepted : goal.returns-clause-accepted
returns-clause-accepted g c =
    let text = c.in_ok-head.ensures.ok in
    Accepts-from Either (told_by c.in_ok-head.head) text.0 _ (g.S.Source.left c.args.source.now) (g.S.Source.left c.read_whole.new.source) text.1 c.game.ensures.value refl refl

pub returns-clause-forced : goal.returns-clause-forced
returns-clause-forced g c = accepted_forces Either _ (g.S.Source.left c.args.source.now) (g.S.Source.left c.read_whole.new.source) (returns-clause-accepted g c)
