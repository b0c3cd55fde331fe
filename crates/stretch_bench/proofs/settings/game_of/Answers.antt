use Rattle.std.proofs.Common.{sym, ◌∙◌}
use Rattle.stretch_bench.proofs.WordLemmas.{no_game}
use Rattle.stretch_bench.proofs.settings.game_of.Goals as goal

pub returns-in-Err : goal.returns-in-Err
returns-in-Err c game of =
    no_game c.in-Some.bins c.in-Some-number_of.capacity c.in-Some-number_of-2.target game c.in-Err.field-0 c.from-high.result c.from-high.ensures
    c.in-Some.ensures.exact.2 c.in-Some-number_of.ensures.exact.2 c.in-Some-number_of-2.ensures.exact.2
    (sym c.in-Some.ensures.exact.0 ∙ of.bins_are) (sym c.in-Some-number_of.ensures.exact.0 ∙ of.capacity_is)
    (sym c.in-Some-number_of-2.ensures.exact.0 ∙ of.target_is) of.of_game c.in-Err.ensures.exact
