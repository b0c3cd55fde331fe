use Rattle.std.proofs.Common.{◌<◌, length, refl, arith}
use Rattle.std.proofs.lemmas.List.{length-map}
use Rattle.stretch_bench.proofs.OutcomeLemmas.{answer_made, drill_made, force_made, made_as, play_made, scale_made, search_made, value_made, weaken_made}
use Rattle.stretch_bench.proofs.PlayLemmas.{named_at, place_within}
use Rattle.stretch_bench.proofs.due.made.Goals as goal

pub returns-in_ok-played-in-Play-clause-due : goal.returns-in_ok-played-in-Play-clause-due
returns-in_ok-played-in-Play-clause-due g c =
    let within = place_within _ c.args.command.now c.in-Play.player c.in-Play.is c.requires.allowed in
    let inside : c.in-Play.player < length c.args.players.now.items = omega (arith, within, length-map c.args.players.now.items (λ player. player.name)) in
    made_as _ _ _ _ _ _ c.in-Play.is
    (play_made _ _ _ c.in-Play.player _ _ c.in_ok-strategy-in-Play.strategy c.in_ok-played-in-Play.field-0
    (named_at _ c.args.players.now.items c.in-Play.player c.index.result.now inside c.index.ensures)
    (named_at _ c.args.players.now.items c.in-Play.player c.index.result.now inside c.index.ensures)
    c.in_ok-strategy-in-Play.ensures.loaded c.in_ok-played-in-Play.ensures.play)

pub returns-in_ok-answered-in-Answer-clause-due : goal.returns-in_ok-answered-in-Answer-clause-due
returns-in_ok-answered-in-Answer-clause-due g c =
    made_as _ _ _ _ _ _ c.in-Answer.is
    (answer_made _ _ _ c.in-Answer.items c.in_ok-strategy-in-Answer.strategy c.in_ok-answered-in-Answer.field-0
    c.in_ok-strategy-in-Answer.ensures.loaded (rw c.as_slice.ensures.value at c.in_ok-answered-in-Answer.ensures.replies))

pub returns-in_ok-drilled-in-Drill-clause-due : goal.returns-in_ok-drilled-in-Drill-clause-due
returns-in_ok-drilled-in-Drill-clause-due g c =
    made_as _ _ _ _ _ _ c.in-Drill.is
    (drill_made _ _ _ c.in-Drill.number c.in-Drill.copies c.in_ok-drilled-in-Drill.field-0 refl c.in_ok-drilled-in-Drill.ensures.line)

pub returns-in_ok-searched-in-Search-clause-due : goal.returns-in_ok-searched-in-Search-clause-due
returns-in_ok-searched-in-Search-clause-due g c =
    made_as _ _ _ _ _ _ c.in-Search.is
    (search_made _ _ _ c.in-Search.game c.in-Search.budget c.in-Search.table c.in_ok-searched-in-Search.field-0 refl
    c.in_ok-searched-in-Search.ensures.found)

pub returns-in_ok-scaled-in-Scale-clause-due : goal.returns-in_ok-scaled-in-Scale-clause-due
returns-in_ok-scaled-in-Scale-clause-due g c =
    made_as _ _ _ _ _ _ c.in-Scale.is
    (scale_made _ _ _ c.in-Scale.factor c.in_ok-strategy-in-Scale.strategy c.in_ok-scaled-in-Scale.field-0 c.in_ok-strategy-in-Scale.ensures.loaded
    c.in_ok-scaled-in-Scale.ensures.made)

pub returns-in_ok-weakened-in-Weaken-clause-due : goal.returns-in_ok-weakened-in-Weaken-clause-due
returns-in_ok-weakened-in-Weaken-clause-due g c =
    made_as _ _ _ _ _ _ c.in-Weaken.is
    (weaken_made _ _ _ c.in-Weaken.target c.in_ok-strategy-in-Weaken.strategy c.in_ok-weakened-in-Weaken.field-0 c.in_ok-strategy-in-Weaken.ensures.loaded
    c.in_ok-weakened-in-Weaken.ensures.made)

pub returns-in_ok-valued-in-Value-clause-due : goal.returns-in_ok-valued-in-Value-clause-due
returns-in_ok-valued-in-Value-clause-due g c =
    made_as _ _ _ _ _ _ c.in-Value.is
    (value_made _ _ _ c.in-Value.bins c.in-Value.capacity c.in-Value.budget c.in-Value.table c.in_ok-valued-in-Value.field-0 refl
    c.in_ok-valued-in-Value.ensures.valued)

pub returns-in_ok-forced-in-Force-clause-due : goal.returns-in_ok-forced-in-Force-clause-due
returns-in_ok-forced-in-Force-clause-due g c =
    made_as _ _ _ _ _ _ c.in-Force.is
    (force_made _ _ _ c.in-Force.game c.in-Force.pass c.in-Force.budget c.in-Force.table c.in_ok-forced-in-Force.field-0 refl
    c.in_ok-forced-in-Force.ensures.forced)
