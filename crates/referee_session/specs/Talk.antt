-- A play in which a bin is answered for each item before the next one is told.
use Rattle.std.specs.Prelude.{ℕ, ◌+◌, ◌-◌, List, [], ◌∷◌, ◌++◌, if◌then◌else◌, nat_lt, Option, Some, None}
use Rattle.std.specs.Prelude.{option_map, fold, slice_get, slice_index, length}
use Rattle.std.specs.List.{concat}
use Rattle.std.specs.Option.{unwrap_or}
use Rattle.items.specs.Game.{GameNumbers}
use Rattle.online_play.specs.Algorithm.{loads_by_bin}
use Rattle.strategy_text.specs.declared.node.AdvNode.{AdvNode}
use Rattle.strategy_text.specs.declared.node.Step.{Step}
use Rattle.strategy_text.specs.declared.node.Step.TheVariants.{Send, Burst}
use Rattle.strategy_text.specs.declared.node.Then.{Then}
use Rattle.strategy_text.specs.declared.node.Then.TheVariants.{Over, To}
use Rattle.adversary_graph.specs.Nodes.{sent_size}
use Rattle.adversary_graph.specs.Play.{beyond, end_packing, next_at, without_all}
use Rattle.referee_session.specs.declared.stand.Stand.{Stand}
use Rattle.referee_session.specs.declared.stand.Stand.TheVariants.{Waits, Ended}

-- a talk: the items whose bins were answered, these bins, and where the play stands
pub record Talk : Type 0 where
  pub items : List ℕ
  pub bins : List ℕ
  pub stand : Stand

abbrev pub talk_to : List ℕ → List ℕ → Stand → Talk
talk_to items bins stand = record { items = items; bins = bins; stand = stand }

-- before the first answer the first item of the root waits
abbrev pub talk_begins : ℕ → Talk
talk_begins root = talk_to [] [] (Waits root 0)

-- where the play stands after the item of the node of this number went to a bin at which this follows: at the first
-- item of the child, or at the end
abbrev pub stand_at : ℕ → Option Then → Stand
stand_at number None = Ended number
stand_at number (Some Over) = Ended number
stand_at number (Some (To child)) = Waits child 0

-- where the play stands after one more item of a node, of which so many had their bins before, went to a bin of this
-- load. A burst is played to its end.
abbrev pub stand_after : ℕ → ℕ → ℕ → Step → Stand
stand_after number done load (Send size pack placements) = stand_at number (next_at load placements)
stand_after number done load (Burst times size pack) =
    if nat_lt (done + 1) times then Waits number (done + 1) else Ended number

-- the loads by bin number
abbrev pub loads_of : GameNumbers → Talk → List ℕ
loads_of game talk = loads_by_bin game talk.items talk.bins

-- the talk after a bin was answered for the next item of a node
abbrev pub told_next : GameNumbers → Talk → ℕ → ℕ → ℕ → Step → Talk
told_next game talk bin number done step = record {
  items = talk.items ++ sent_size step ∷ [];
  bins = talk.bins ++ bin ∷ [];
  stand = stand_after number done (slice_index (loads_of game talk) bin) step;
}

-- the talk after this answer, by where the play stands; after its end nothing is answered
abbrev pub answered_at : GameNumbers → List AdvNode → Talk → ℕ → Stand → Talk
answered_at game nodes talk bin (Waits number done) =
    unwrap_or
    (option_map (λ (node : AdvNode). told_next game talk bin number done node.step) (slice_get nodes number)) talk
answered_at game nodes talk bin (Ended number) = talk

abbrev pub answered : GameNumbers → List AdvNode → Talk → ℕ → Talk
answered game nodes talk bin = answered_at game nodes talk bin talk.stand

-- the talk of these answers, from the node of this number on
unfoldable pub talk : GameNumbers → List AdvNode → ℕ → List ℕ → Talk
talk game nodes root bins = fold (answered game nodes) (talk_begins root) bins

-- the item that waits for its bin; none where the play has ended
abbrev pub due_at : List AdvNode → Stand → Option ℕ
due_at nodes (Waits number done) = option_map (λ (node : AdvNode). sent_size node.step) (slice_get nodes number)
due_at nodes (Ended number) = None

-- the play has ended
abbrev pub IsEnd : Stand → Type 0
IsEnd (Waits number done) = ⊥
IsEnd (Ended number) = Unit {0}

-- the packing of a play that has ended: the end packing of its last node without what that has beyond the items
abbrev pub packing_at : GameNumbers → List AdvNode → List ℕ → Stand → Option (List (List ℕ))
packing_at game nodes items (Waits number done) = None
packing_at game nodes items (Ended number) =
    option_map (λ (bins : List (List ℕ)). without_all (beyond game (concat bins) items) bins)
    (end_packing nodes (number + 1) number)

-- the algorithm that answers the bins of a list, one after the other, and bin 0 after the last
abbrev pub answers_from : List ℕ → List ℕ → ℕ
answers_from bins items = slice_index bins (length items - 1)
