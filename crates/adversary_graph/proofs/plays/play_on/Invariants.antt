use Rattle.std.proofs.Common.{◌≡◌, ◌<◌, ◌+◌, ℕ, []}
use Rattle.adversary_graph.specs.Play.{end_of}
use Rattle.adversary_graph.specs.Playing.{IsCourse, StandsReady}
use Rattle.adversary_graph.proofs.plays.play_on.Given as goal

abbrev pub invariant-loop-child : goal.invariant-loop-child
invariant-loop-child g l =
    let answer = g.O.Online.answer l.player l.pool.game in
    let nodes = l.pool.nodes in
    let whole = end_of l.pool.game answer nodes (l.root + 1) l.root [] in
    IsCourse l.pool.game answer l.course × StandsReady l.pool.game answer nodes l.number l.course.items
    × ((n : ℕ) × (l.number < n) × (whole ≡ end_of l.pool.game answer nodes n l.number l.course.items))

abbrev pub decreases-loop-child : goal.decreases-loop-child
decreases-loop-child g l = l.number
