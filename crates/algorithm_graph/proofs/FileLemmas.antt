-- The player of a file: its own game, and that it keeps every load below the target there.
use Rattle.std.proofs.Common.{◌≡◌, ◌&&◌, ℕ, Bool, true, cond, eqb, List, refl, sym, ap, subst}
use Rattle.std.proofs.lemmas.Bool.{and_parts, eqb-true, eq-eqb}
use Rattle.items.specs.Game.{GameNumbers, numbers}
use Rattle.items.specs.Multiset.{sizes_of}
use Rattle.online_play.specs.Algorithm.{KeepsBelow}
use Rattle.algorithm_graph.specs.Files.{is_same_game, file_answer}
use Rattle.algorithm_graph.specs.Legal.{IsLegal}
use Rattle.algorithm_graph.specs.Pools.{Pool}
use Rattle.algorithm_graph.specs.Replies.{replies}
use Rattle.algorithm_graph.proofs.BelowLemmas.{legal_replies_keep_below}

pub same_game : (one other : GameNumbers) → is_same_game one other ≡ true → one ≡ other
same_game one other e =
    let p = and_parts (eqb one.bins other.bins) (eqb one.capacity other.capacity && eqb one.target other.target) e in
    let q = and_parts (eqb one.capacity other.capacity) (eqb one.target other.target) p.1 in
    let bins = eqb-true one.bins other.bins p.0 in
    let capacity = eqb-true one.capacity other.capacity q.0 in
    let target = eqb-true one.target other.target q.1 in
    λ i. numbers (bins i) (capacity i) (target i)

own_game : (game : GameNumbers) → is_same_game game game ≡ true
own_game game = rw (eq-eqb game.bins game.bins refl, eq-eqb game.capacity game.capacity refl, eq-eqb game.target game.target refl) refl

-- to its own game a file answers its replies
pub own_answer : (file : Pool) → file_answer file file.game ≡ replies file.game file.nodes
own_answer file = ap (λ (same : Bool). λ (history : List ℕ). cond same (replies file.game file.nodes history) 0) (own_game file.game)

pub file_keeps_below : (file : Pool) → IsLegal file.format file.game (sizes_of file.game) file.nodes → KeepsBelow file.game (file_answer file file.game)
file_keeps_below file legal =
    subst (KeepsBelow file.game) (sym (own_answer file)) (legal_replies_keep_below file.format file.game file.nodes legal)
