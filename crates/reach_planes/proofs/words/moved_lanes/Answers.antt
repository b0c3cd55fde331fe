use Rattle.std.proofs.Common.{◌∙◌, ℕ, ap, get_or}
use Rattle.reach_planes.specs.Words.{moved}
use Rattle.reach_planes.proofs.LaneLemmas.{at_lane, length_lanes}
use Rattle.reach_planes.proofs.words.moved_lanes.Goals as goal

pub returns-clause-moved : goal.returns-clause-moved
returns-clause-moved c k l =
    let word : ℕ = get_or c.args.words k 0 in
    at_lane _ _ _ c.args.words c.from-up.result c.from-down.result c.args.by.mask k c.requires.four l ∙ ap (λ up. moved up c.from-down.result c.args.by.mask word) c.from-up.ensures
    ∙ ap (λ down. moved c.args.by.up down c.args.by.mask word) c.from-down.ensures

pub returns-clause-four : goal.returns-clause-four
returns-clause-four c = length_lanes _ _ _ c.args.words c.from-up.result c.from-down.result c.args.by.mask c.requires.four
