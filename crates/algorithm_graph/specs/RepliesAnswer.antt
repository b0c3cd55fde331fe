-- Serves the player of a file alone: the replies of nodes answer as an algorithm of the game, whatever the nodes.
use Rattle.std.specs.Prelude.{◌≡◌, ℕ, zero, suc, ◌+◌, ◌-◌, ◌==◌, ◌<◌, Bool, true, false, if◌then◌else◌, Option, Some}
use Rattle.std.specs.Prelude.{None}
use Rattle.std.specs.Prelude.{List, [], ◌∷◌, length, take, All, find, fold, position, slice_get, slice_index, refl}
use Rattle.std.specs.List.{AllByRecursion}
use Rattle.std.proofs.Common.{◌∙◌, subst}
use Rattle.std.proofs.Math.Nat.{le_trans}
use Rattle.std.proofs.Math.Dec.{lit≤}
use Rattle.std.proofs.lemmas.List.{length-replicate, length-set}
use Rattle.std.proofs.lemmas.List.Elements.{All-take, All-drop, recursion_from_All}
use Rattle.std.proofs.lemmas.List.Quantifiers.{position-Some}
use Rattle.items.specs.Game.{GameNumbers, IsGame}
use Rattle.online_play.specs.Algorithm.{IsAlgorithm}
use Rattle.good_situations.specs.KeptOrder.{KeptOrder, kept_order, ordered_bins, IsOrderOf}
use Rattle.good_situations.proofs.OrderLemmas.{All-ordered_bins, finish_bin-lt, big_bin-lt, IsOrderOf-big_order_after}
use Rattle.strategy_text.specs.declared.node.Act.{Act}
use Rattle.strategy_text.specs.declared.node.Act.TheVariants.{Finish, Big, Reply}
use Rattle.strategy_text.specs.declared.node.AlgNode.{AlgNode}
use Rattle.strategy_text.specs.declared.node.Entry.{Entry}
use Rattle.algorithm_graph.specs.Files.{is_same_game, file_answer}
use Rattle.algorithm_graph.specs.Pools.{Pool}
use Rattle.algorithm_graph.specs.Replies.{Stand, at_node, under_finish, under_big, Replay, Move, start, stay}
use Rattle.algorithm_graph.specs.Replies.{finish_move, big_move, bin_move, entry_move, act_move, node_move, move_at}
use Rattle.algorithm_graph.specs.Replies.{move_of, after_item, replayed, replies}

-- a number of a list, or 0, has what each number of the list and 0 have
at_or_zero : (P : ℕ → Type 0) (xs : List ℕ) (k : ℕ) → P 0 → AllByRecursion P xs → P (slice_index xs k)
at_or_zero P [] k z all = z
at_or_zero P (x ∷ xs) zero z all = all.0
at_or_zero P (x ∷ xs) (suc k) z all = at_or_zero P xs k z all.1

-- a kept order has bins of the game, however many bins it is to reserve
pub IsOrderOf-made : (game : GameNumbers) (actual : List ℕ) (reserved : ℕ) → 0 < game.bins
    → length actual ≡ game.bins → IsOrderOf game.bins (kept_order game actual reserved)
IsOrderOf-made game actual reserved some len =
    let order : List ℕ = ordered_bins actual in
    let all : All (λ bin. bin < game.bins) order =
    subst (λ n. All (λ bin. bin < n) order) len (All-ordered_bins actual) in
    record {
      first = All-take (λ bin. bin < game.bins) (game.bins - reserved - 1) order all;
      next = at_or_zero (λ bin. bin < game.bins) order (game.bins - reserved - 1) some
          (recursion_from_All (λ bin. bin < game.bins) order all);
      reserved = All-drop (λ bin. bin < game.bins) (game.bins - reserved) order all;
    }

-- the order that is kept, if one is, has bins of the game
abbrev pub IsStandOf : ℕ → Stand → Type 0
IsStandOf bins (at_node number) = Unit {0}
IsStandOf bins (under_finish order) = IsOrderOf bins order
IsStandOf bins (under_big order) = IsOrderOf bins order

pub record IsMoveOf (bins : ℕ) (move : Move) : Type 0 where
  pub in_range : move.bin < bins
  pub stand : IsStandOf bins move.next

pub record IsReplayOf (bins : ℕ) (replay : Replay) : Type 0 where
  pub one_each : length replay.actual ≡ bins
  pub stand : IsStandOf bins replay.stand

stays : (bins number : ℕ) → 0 < bins → IsMoveOf bins (stay (at_node number))
stays bins number some = record { in_range = some; stand = tt }

finish_moves : (game : GameNumbers) (actual : List ℕ) (size : ℕ) (order : KeptOrder) → IsOrderOf game.bins order
    → IsMoveOf game.bins (finish_move game actual size order)
finish_moves game actual size order of =
    record { in_range = finish_bin-lt game order actual size game.bins of; stand = of }

big_moves : (game : GameNumbers) (actual : List ℕ) (size : ℕ) (order : KeptOrder) → IsOrderOf game.bins order
    → IsMoveOf game.bins (big_move game actual size order)
big_moves game actual size order of = record {
  in_range = big_bin-lt game order actual size game.bins of;
  stand = IsOrderOf-big_order_after game order size game.bins of;
}

bin_moves : (bins number child : ℕ) (p : ℕ → Bool) (actual : List ℕ) (o : Option ℕ) → 0 < bins
    → length actual ≡ bins → position p actual ≡ o
    → IsMoveOf bins (bin_move number child o)
bin_moves bins number child p actual None some len e = stays bins number some
bin_moves bins number child p actual (Some bin) some len e =
    let h = position-Some p actual bin 0 e in
    record { in_range = subst (λ n. bin < n) len h.0; stand = tt }

entry_moves : (bins number : ℕ) (actual : List ℕ) (o : Option Entry) → 0 < bins → length actual ≡ bins
    → IsMoveOf bins (entry_move number actual o)
entry_moves bins number actual None some len = stays bins number some
entry_moves bins number actual (Some entry) some len =
    bin_moves bins number entry.to (λ load. load == entry.load) actual
    (position (λ load. load == entry.load) actual) some len refl

act_moves : (game : GameNumbers) (number : ℕ) (actual : List ℕ) (size : ℕ) (act : Act) → 0 < game.bins
    → length actual ≡ game.bins
    → IsMoveOf game.bins (act_move game number actual size act)
act_moves game number actual size Finish some len =
    finish_moves game actual size (kept_order game actual 0) (IsOrderOf-made game actual 0 some len)
act_moves game number actual size (Big b) some len =
    big_moves game actual size (kept_order game actual b) (IsOrderOf-made game actual b some len)
act_moves game number actual size (Reply entries) some len =
    entry_moves game.bins number actual (find (λ entry. entry.size == size) entries) some len

node_moves : (game : GameNumbers) (number : ℕ) (actual : List ℕ) (size : ℕ) (o : Option AlgNode) → 0 < game.bins
    → length actual ≡ game.bins
    → IsMoveOf game.bins (node_move game number actual size o)
node_moves game number actual size None some len = stays game.bins number some
node_moves game number actual size (Some node) some len = act_moves game number actual size node.act some len

stand_moves : (game : GameNumbers) (nodes : List AlgNode) (actual : List ℕ) (size : ℕ) (stand : Stand)
    → 0 < game.bins → length actual ≡ game.bins → IsStandOf game.bins stand
    → IsMoveOf game.bins (move_at game nodes actual size stand)
stand_moves game nodes actual size (at_node number) some len of =
    node_moves game number actual size (slice_get nodes number) some len
stand_moves game nodes actual size (under_finish order) some len of = finish_moves game actual size order of
stand_moves game nodes actual size (under_big order) some len of = big_moves game actual size order of

module _ (game : GameNumbers) (nodes : List AlgNode) (some : 0 < game.bins) where
  pub IsMoveOf-replay : (replay : Replay) (size : ℕ) → IsReplayOf game.bins replay
      → IsMoveOf game.bins (move_of game nodes replay size)
  IsMoveOf-replay replay size of = stand_moves game nodes replay.actual size replay.stand some of.one_each of.stand

  pub IsReplayOf-after_item : (replay : Replay) (size : ℕ) → IsReplayOf game.bins replay
      → IsReplayOf game.bins (after_item game nodes replay size)
  IsReplayOf-after_item replay size of =
      let move = IsMoveOf-replay replay size of in
      let bin : ℕ = (move_of game nodes replay size).bin in
      record {
        one_each = length-set replay.actual bin (slice_index replay.actual bin + size) ∙ of.one_each;
        stand = move.stand;
      }

  IsReplayOf-fold : (items : List ℕ) (replay : Replay) → IsReplayOf game.bins replay
      → IsReplayOf game.bins (fold (after_item game nodes) replay items)
  IsReplayOf-fold [] replay of = of
  IsReplayOf-fold (size ∷ items) replay of =
      IsReplayOf-fold items (after_item game nodes replay size) (IsReplayOf-after_item replay size of)

  pub IsReplayOf-replayed : (items : List ℕ) → IsReplayOf game.bins (replayed game nodes items)
  IsReplayOf-replayed items =
      IsReplayOf-fold items (start game (length nodes - 1))
      (record { one_each = length-replicate game.bins 0; stand = tt })

  pub replies_in_range : (items : List ℕ) → replies game nodes items < game.bins
  replies_in_range items =
      let before : ℕ = length items - 1 in
      let move =
      IsMoveOf-replay (replayed game nodes (take before items)) (slice_index items before)
      (IsReplayOf-replayed (take before items)) in
      move.in_range

pub some_bins : (game : GameNumbers) → IsGame game → 0 < game.bins
some_bins game legal = le_trans (lit≤ tt) legal.bins.low

reply_or_first : (same : Bool) (reply bins : ℕ) → reply < bins → 0 < bins → (if same then reply else 0) < bins
reply_or_first true reply bins h some = h
reply_or_first false reply bins h some = some

pub file_answers_as_algorithm : (file : Pool) (game : GameNumbers) → IsGame game
    → IsAlgorithm game (file_answer file game)
file_answers_as_algorithm file game legal items given packable =
    let some = some_bins game legal in
    reply_or_first (is_same_game game file.game) (replies game file.nodes items) game.bins
    (replies_in_range game file.nodes some items) some
