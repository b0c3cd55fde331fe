-- What a node of the algorithm answers.
use Rattle.std.specs.Prelude.{List, []}
use Rattle.loads.specs.declared.position.Position.{Position}
use Rattle.loads.specs.Position.{position}
use Rattle.strategy_text.specs.declared.node.Act.{Act}
use Rattle.strategy_text.specs.declared.node.Act.TheVariants.{Finish, Big, Reply}
use Rattle.strategy_text.specs.declared.node.AlgNode.{AlgNode}
use Rattle.strategy_text.specs.declared.node.Entry.{Entry}
use Rattle.strategy_text.specs.declared.node.Format.{Format}
use Rattle.strategy_text.specs.declared.node.Format.TheVariants.{One, Two}

-- the position of a node
abbrev pub position_of : AlgNode → Position
position_of node = position node.loads node.items

-- the replies to the sizes that may come; a node that finishes has none
abbrev pub entries_of : Act → List Entry
entries_of Finish = []
entries_of (Big b) = []
entries_of (Reply entries) = entries

-- only format 2 has the word `big`
abbrev pub IsOfFormat : Format → Act → Type 0
IsOfFormat One Finish = Unit {0}
IsOfFormat One (Big b) = ⊥
IsOfFormat One (Reply entries) = Unit {0}
IsOfFormat Two act = Unit {0}
