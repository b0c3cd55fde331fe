-- How a strategy of the algorithm replies: its replay of the items, over the loads by bin number.
use Rattle.std.specs.Prelude.{ℕ, ◌-◌, ◌==◌, List, Option, Some, None, length, take, replicate, slice_get, slice_index}
use Rattle.std.specs.Prelude.{find, fold, position}
use Rattle.items.specs.Game.{GameNumbers}
use Rattle.loads.specs.ByBin.{placed}
use Rattle.good_situations.specs.KeptOrder.{KeptOrder, kept_order, finish_bin, big_bin, big_order_after}
use Rattle.strategy_text.specs.declared.node.Act.{Act}
use Rattle.strategy_text.specs.declared.node.Act.TheVariants.{Finish, Big, Reply}
use Rattle.strategy_text.specs.declared.node.AlgNode.{AlgNode}
use Rattle.strategy_text.specs.declared.node.Entry.{Entry}

-- where a replay stands: at the node of a number, or under an order that was made at a node and is kept to the end
pub data Stand : Type 0 where
  at_node : ℕ → Stand
  under_finish : KeptOrder → Stand
  under_big : KeptOrder → Stand

-- a replay: the loads by bin number, and where it stands
pub record Replay : Type 0 where
  pub actual : List ℕ
  pub stand : Stand

-- a replay begins with a load of 0 in each bin, at the root
abbrev pub start : GameNumbers → ℕ → Replay
start game root = record { actual = replicate game.bins 0; stand = at_node root }

-- the bin that an item goes to, and where the replay stands after it
pub record Move : Type 0 where
  pub bin : ℕ
  pub next : Stand

abbrev pub move_to : ℕ → Stand → Move
move_to bin next = record { bin = bin; next = next }

-- where no step is defined, the item goes to bin 0 and the replay stays where it stands
abbrev pub stay : Stand → Move
stay stand = move_to 0 stand

-- under an order kept at `finish`
abbrev pub finish_move : GameNumbers → List ℕ → ℕ → KeptOrder → Move
finish_move game actual size order = move_to (finish_bin game order actual size) (under_finish order)

-- under an order kept at `big`
abbrev pub big_move : GameNumbers → List ℕ → ℕ → KeptOrder → Move
big_move game actual size order = move_to (big_bin game order actual size) (under_big (big_order_after game order size))

-- to the bin that was found, and on to the child
abbrev pub bin_move : ℕ → ℕ → Option ℕ → Move
bin_move number child None = stay (at_node number)
bin_move number child (Some bin) = move_to bin (at_node child)

-- at a node, as the entry of the size says: to the lowest bin whose load is the one that it names
abbrev pub entry_move : ℕ → List ℕ → Option Entry → Move
entry_move number actual None = stay (at_node number)
entry_move number actual (Some entry) = bin_move number entry.to (position (λ load. load == entry.load) actual)

-- at a node that does this; where it finishes, the order is made
abbrev pub act_move : GameNumbers → ℕ → List ℕ → ℕ → Act → Move
act_move game number actual size Finish = finish_move game actual size (kept_order game actual 0)
act_move game number actual size (Big b) = big_move game actual size (kept_order game actual b)
act_move game number actual size (Reply entries) = entry_move number actual (find (λ entry. entry.size == size) entries)

abbrev pub node_move : GameNumbers → ℕ → List ℕ → ℕ → Option AlgNode → Move
node_move game number actual size None = stay (at_node number)
node_move game number actual size (Some node) = act_move game number actual size node.act

-- where an item of this size goes in a replay over these nodes
abbrev pub move_at : GameNumbers → List AlgNode → List ℕ → ℕ → Stand → Move
move_at game nodes actual size (at_node number) = node_move game number actual size (slice_get nodes number)
move_at game nodes actual size (under_finish order) = finish_move game actual size order
move_at game nodes actual size (under_big order) = big_move game actual size order

abbrev pub move_of : GameNumbers → List AlgNode → Replay → ℕ → Move
move_of game nodes replay size = move_at game nodes replay.actual size replay.stand

-- the loads by bin number, and where the replay stands, after a move
abbrev pub moved : List ℕ → ℕ → Move → Replay
moved actual size move = record { actual = placed actual move.bin size; stand = move.next }

-- a replay after one more item
abbrev pub after_item : GameNumbers → List AlgNode → Replay → ℕ → Replay
after_item game nodes replay size = moved replay.actual size (move_of game nodes replay size)

-- the replay of items from the root, which is the last of the nodes
abbrev pub replayed : GameNumbers → List AlgNode → List ℕ → Replay
replayed game nodes items = fold (after_item game nodes) (start game (length nodes - 1)) items

-- the reply of a strategy to a list of items: the bin of its last item in the replay
abbrev pub replies : GameNumbers → List AlgNode → List ℕ → ℕ
replies game nodes items =
    let before = length items - 1 in
    (move_of game nodes (replayed game nodes (take before items)) (slice_index items before)).bin
