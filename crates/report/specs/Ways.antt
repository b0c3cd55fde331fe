-- How a walk through a strategy goes on from a node. Walks speak of nodes by these words alone.
use Rattle.std.specs.Prelude.{ℕ, List, [], ◌∷◌, map}
use Rattle.strategy_text.specs.declared.node.Act.{Act}
use Rattle.strategy_text.specs.declared.node.Act.TheVariants.{Finish, Big, Reply}
use Rattle.strategy_text.specs.declared.node.Entry.{Entry}
use Rattle.strategy_text.specs.declared.node.Step.{Step}
use Rattle.strategy_text.specs.declared.node.Step.TheVariants.{Send, Burst}
use Rattle.strategy_text.specs.declared.node.Then.{Then}
use Rattle.strategy_text.specs.declared.node.Then.TheVariants.{Over, To}
use Rattle.strategy_text.specs.Text.{AnyNode, of_adversary, of_algorithm}

-- a walk ends after so many more items, or goes on with one item to the node of this number
pub data Way : Type 0 where
  ends_after : ℕ → Way
  goes_to : ℕ → Way

abbrev pub way_of : Then → Way
way_of Over = ends_after 1
way_of (To child) = goes_to child

-- a burst is walked to its end
abbrev pub ways_of_step : Step → List Way
ways_of_step (Send size pack placements) = map (λ placement. way_of placement.next) placements
ways_of_step (Burst times size pack) = ends_after times ∷ []

-- where no size may come, there are no replies and the walk ends
abbrev pub ways_of_replies : List Entry → List Way
ways_of_replies [] = ends_after 0 ∷ []
ways_of_replies (entry ∷ entries) = map (λ reply. goes_to reply.to) (entry ∷ entries)

abbrev pub ways_of_act : Act → List Way
ways_of_act Finish = ends_after 0 ∷ []
ways_of_act (Big bins) = ends_after 0 ∷ []
ways_of_act (Reply entries) = ways_of_replies entries

-- the ways on from a node of either side
abbrev pub ways_of : AnyNode → List Way
ways_of (of_adversary node) = ways_of_step node.step
ways_of (of_algorithm node) = ways_of_act node.act
