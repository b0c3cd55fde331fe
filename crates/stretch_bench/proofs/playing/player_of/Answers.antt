use Rattle.stretch_bench.proofs.PlayLemmas.{play_words, player_named}
use Rattle.stretch_bench.proofs.WordLemmas.{was_same}
use Rattle.stretch_bench.proofs.playing.player_of.Goals as goal

pub returns : goal.returns
returns g c answers =
    player_named _ _ _ c.place_of.result
    (play_words c.args.words.now c.first-item.result c.name-item.result _ _ c.in-len2.len_at_least c.in-len2.len_below c.first-item.is c.as_str.ensures.value
    (was_same _ c.if-ne.ensures) c.name-item.is c.as_str-2.ensures.value)
    c.place_of.ensures
