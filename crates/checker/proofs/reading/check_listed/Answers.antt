use Rattle.std.proofs.Common.{◌∙◌, refl}
use Rattle.checker.specs.Progress.{told_by}
use Rattle.checker.proofs.TextLemmas.{AcceptsListed-from}
use Rattle.checker.proofs.reading.check_listed.Goals as goal

pub returns-clause-accepted : goal.returns-clause-accepted
returns-clause-accepted g c =
    let text = c.in_ok-head.ensures.ok in
    AcceptsListed-from (told_by c.in_ok-head.head) text.0 _ (g.S.Source.left c.args.source.now) (g.S.Source.left c.read_whole.new.source) text.1 c.game.ensures.value
    (c.copy-sizes.ensures.same ∙ c.sizes.ensures.value) refl refl
