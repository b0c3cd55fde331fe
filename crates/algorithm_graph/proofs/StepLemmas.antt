-- One more item of a replay that goes down a list of items.
use Rattle.std.proofs.Common.{◌≡◌, ℕ, ◌+◌, ◌-◌, ◌<◌, ◌≤◌, List, [], eqb, Option, length, get_or, take, replicate, sum, sym, ap, ◌∙◌, subst, arith}
use Rattle.std.specs.Prelude.{find, slice_get}
use Rattle.std.proofs.lemmas.List.{take_more, length-take-le}
use Rattle.std.proofs.lemmas.List.Elements.{All-from_get_or}
use Rattle.std.proofs.lemmas.List.Sums.{fold_push, get_or-le-sum_by, sum_by_more, sum_by-take-le}
use Rattle.std.proofs.lemmas.Option.{slice_get_within}
use Rattle.items.specs.Game.{GameNumbers, IsGame}
use Rattle.items.specs.Packable.{Packable}
use Rattle.loads.specs.ByBin.{placed}
use Rattle.online_play.proofs.PlayLemmas.{sum_small}
use Rattle.good_situations.specs.KeptOrder.{CanAdd, FinishOrder, KeptOrder}
use Rattle.strategy_text.specs.declared.node.Act.{Act}
use Rattle.strategy_text.specs.declared.node.Act.TheVariants.{Reply}
use Rattle.strategy_text.specs.declared.node.AlgNode.{AlgNode}
use Rattle.strategy_text.specs.declared.node.Entry.{Entry}
use Rattle.algorithm_graph.specs.Pools.{IsRoot}
use Rattle.node_pool.specs.Pools.{nodes_up_to}
use Rattle.algorithm_graph.specs.Replies.{Stand, at_node, Replay, start, Move, move_to, move_at, move_of, node_move, act_move, entry_move, finish_move, big_move, moved}
use Rattle.algorithm_graph.specs.Replies.{after_item, replayed, replies}
use Rattle.algorithm_graph.specs.Replaying.{replay_at, stand_of, IsStep}
use Rattle.algorithm_graph.specs.declared.replay.ReplayStand.{ReplayStand}
use Rattle.algorithm_graph.specs.declared.replay.ReplayStand.TheVariants.{AtNode, UnderFinish, UnderBig}
use Rattle.algorithm_graph.specs.declared.replay.Step.{Step}
use Rattle.algorithm_graph.proofs.ReplayLemmas.{replies-push}

-- a replay begins at the last of the nodes up to the root
pub replay_begins : (game : GameNumbers) (nodes : List AlgNode) (root : ℕ) (actual : List ℕ) → IsRoot nodes root → actual ≡ replicate game.bins 0
    → replay_at actual (at_node root) ≡ replayed game (nodes_up_to root nodes) []
replay_begins game nodes root actual r e =
    let within = slice_get_within nodes root r.0 r.1 in
    let last : root ≡ length (take (root + 1) nodes) - 1 = omega (arith, length-take-le (root + 1) nodes (omega (arith, within))) in
    ap (λ (loads : List ℕ). replay_at loads (at_node root)) e ∙ ap (λ (k : ℕ). start game k) last

module _ (game : GameNumbers) (nodes : List AlgNode) (history actual : List ℕ) (i size bin : ℕ) (stand next : Stand)
    (at : replay_at actual stand ≡ replayed game nodes (take i history)) (within : i < length history) (is : size ≡ get_or history i 0)
    (move : move_to bin next ≡ move_at game nodes actual size stand) where
  pub replay_goes_on : (after : List ℕ) → after ≡ placed actual bin size → replay_at after next ≡ replayed game nodes (take (i + 1) history)
  replay_goes_on after e =
      ap (λ (loads : List ℕ). replay_at loads next) e
      ∙ ap (λ (m : Move). moved actual size m) move
      ∙ ap (λ (r : Replay). after_item game nodes r size) at
      ∙ ap (λ (s : ℕ). after_item game nodes (replayed game nodes (take i history)) s) is
      ∙ sym (fold_push (after_item game nodes) (start game (length nodes - 1)) (take i history) (get_or history i 0))
      ∙ ap (λ (xs : List ℕ). replayed game nodes xs) (sym (take_more history i 0 within))

  pub replies_with : 0 < game.bins → bin ≡ replies game nodes (take (i + 1) history)
  replies_with some =
      ap (λ (m : Move). m.bin) move
      ∙ ap (λ (r : Replay). (move_of game nodes r size).bin) at
      ∙ ap (λ (s : ℕ). (move_of game nodes (replayed game nodes (take i history)) s).bin) is
      ∙ sym (replies-push game nodes some (take i history) (get_or history i 0))
      ∙ ap (λ (xs : List ℕ). replies game nodes xs) (sym (take_more history i 0 within))

-- the next item of a packable list can be added to each load
pub can_add_next : (game : GameNumbers) (history actual : List ℕ) (i size : ℕ) → IsGame game → Packable game history → i < length history
    → sum actual ≤ sum (take i history) → size ≡ get_or history i 0 → CanAdd actual size
can_add_next game history actual i size legal packable within total is =
    let more = sum_by_more (λ x. x) history i 0 within in
    let part = sum_by-take-le (λ x. x) history (i + 1) in
    let all = sum_small game history legal packable in
    All-from_get_or (λ load. load + size ≤ 65535) actual 0 (λ k l. let load = get_or-le-sum_by (λ x. x) actual k 0 l in omega arith)

-- steps where a replay stands
pub step_at_node : (game : GameNumbers) (nodes : List AlgNode) (actual : List ℕ) (size number : ℕ) (stand : ReplayStand) (found : Option AlgNode) (step : Step)
    → stand ≡ AtNode number → slice_get nodes number ≡ found → IsStep game step (node_move game number actual size found)
    → IsStep game step (move_at game nodes actual size (stand_of stand))
step_at_node game nodes actual size number stand found step is e h =
    subst (λ (s : ReplayStand). IsStep game step (move_at game nodes actual size (stand_of s))) (sym is)
    (subst (λ (o : Option AlgNode). IsStep game step (node_move game number actual size o)) (sym e) h)

pub step_under_finish : (game : GameNumbers) (nodes : List AlgNode) (actual : List ℕ) (size : ℕ) (stand : ReplayStand) (kept : FinishOrder) (step : Step)
    → stand ≡ UnderFinish kept → kept.game ≡ game → IsStep kept.game step (finish_move kept.game actual size kept.order)
    → IsStep game step (move_at game nodes actual size (stand_of stand))
step_under_finish game nodes actual size stand kept step is of h =
    subst (λ (s : ReplayStand). IsStep game step (move_at game nodes actual size (stand_of s))) (sym is)
    (subst (λ (g : GameNumbers). IsStep g step (finish_move g actual size kept.order)) of h)

pub step_under_big : (game : GameNumbers) (nodes : List AlgNode) (actual : List ℕ) (size : ℕ) (stand : ReplayStand) (order : KeptOrder) (step : Step)
    → stand ≡ UnderBig order → IsStep game step (big_move game actual size order) → IsStep game step (move_at game nodes actual size (stand_of stand))
step_under_big game nodes actual size stand order step is h =
    subst (λ (s : ReplayStand). IsStep game step (move_at game nodes actual size (stand_of s))) (sym is) h

pub step_by_reply : (game : GameNumbers) (number : ℕ) (actual : List ℕ) (size : ℕ) (act : Act) (entries slice : List Entry) (found : Option Entry) (step : Step)
    → act ≡ Reply entries → slice ≡ entries → found ≡ find (λ entry. eqb entry.size size) slice → IsStep game step (entry_move number actual found)
    → IsStep game step (act_move game number actual size act)
step_by_reply game number actual size act entries slice found step is e f h =
    let first : found ≡ find (λ (entry : Entry). eqb entry.size size) entries = f ∙ ap (λ (es : List Entry). find (λ (entry : Entry). eqb entry.size size) es) e in
    subst (λ (a : Act). IsStep game step (act_move game number actual size a)) (sym is)
    (subst (λ (o : Option Entry). IsStep game step (entry_move number actual o)) first h)
