-- Private: how far a check has come.
use Rattle.std.specs.Prelude.{◌≡◌, ◌≢◌, ◌==◌, ℕ, ◌+◌, ◌<◌, ◌≤◌, List, [], ◌∷◌, ◌++◌, length, All}
use Rattle.std.specs.Prelude.{Option, None, Some, IfSome, map, slice_get, Result, Ok, Err}
use Rattle.port_io.specs.Lines.{ReaderState, HasNoLf, IsLine, with_lf}
use Rattle.items.specs.Game.{GameNumbers, IsGame}
use Rattle.items.specs.Multiset.{AreSizes, sizes_of}
use Rattle.loads.specs.declared.position.Position.{Position}
use Rattle.strategy_text.specs.Spelling.{SpellsGame, most_nodes}
use Rattle.strategy_text.specs.Text.{AnyNode, of_adversary, of_algorithm, node_line, node_lines}
use Rattle.strategy_text.specs.Text.{side_line, count_line, end_line, game_line, text_of_lines, nodes_of, side_of}
use Rattle.strategy_text.specs.declared.node.Format.{Format}
use Rattle.strategy_text.specs.declared.node.Nodes.{Nodes}
use Rattle.strategy_text.specs.declared.node.Side.{Side}
use Rattle.strategy_text.specs.declared.node.Strategy.{Strategy}
use Rattle.strategy_text.specs.declared.rule.Rule.{Rule}
use Rattle.strategy_text.specs.declared.rule.Rule.TheVariants as rules
use Rattle.checker.specs.declared.head.Head as declared
use Rattle.checker.specs.declared.keeper.Nothing.{Nothing}
use Rattle.checker.specs.declared.node.Node.{Node}
use Rattle.checker.specs.declared.node.Node.TheVariants as read
use Rattle.strategies.specs.AnyNode.{position_of}
use Rattle.checker.specs.Head.{Head, SpellsUnder, MeetsUnder}
use Rattle.checker.specs.Head.{BreaksUnder, EachMeetsUnder, IsNodeLine, IsBrokenNodeLine}
use Rattle.checker.specs.Accepted.{IsGone, IsReadWhole}
use Rattle.checker.specs.FirstFault.{IsWanted, IsFormatOf, first_of, side_place, wanted_of}
use Rattle.checker.specs.Listed.{SpellsSizes, sizes_line}
use Rattle.checker.specs.declared.fault.Heading.{Heading}
use Rattle.checker.specs.declared.fault.Heading.TheVariants as headings
use Rattle.checker.specs.declared.fault.CheckFault.{CheckFault}
use Rattle.checker.specs.declared.fault.CheckFault.TheVariants.{Rejected, Read, Memory}
use Rattle.checker.specs.declared.fault.Wanted.{Wanted}
use Rattle.checker.specs.declared.fault.Why.{Why}
use Rattle.checker.specs.declared.fault.Why.TheVariants as why

-- whole lines stand at the start of bytes
pub record StandFirst (lines : List (List ℕ)) (bytes rest : List ℕ) : Type 0 where
  pub whole : All IsLine lines
  pub split : bytes ≡ text_of_lines lines ++ rest

-- Bytes were read. What was held and what was read are these whole lines, and then what is held now. No ending was met.
pub record ReadsLines (lines : List (List ℕ)) (old new : ReaderState) (left new_left : Option (List ℕ)) : Type 0 where
  pub open_still : new.ending ≡ None
  pub read : List ℕ
  pub gone : IsGone read left new_left
  pub stand : StandFirst lines (old.held ++ read) new.held

-- a whole line of a form stands at the start of these bytes
pub record HasNext (Form : List ℕ → Type 0) (bytes : List ℕ) : Type 0 where
  pub line : List ℕ
  pub rest : List ℕ
  pub whole : IsLine line
  pub split : bytes ≡ with_lf line ++ rest
  pub form : Form line

-- what is wrong at the start of these bytes, where a line of this number, of a form and which breaks no rule, is to
-- stand
abbrev pub IsWrongNext : ℕ → (List ℕ → Type 0) → (Why → List ℕ → Type 0) → CheckFault → List ℕ → Type 0
IsWrongNext number Form Breaking (Rejected line why.Syntax) bytes = (line ≡ number) × (HasNext Form bytes → ⊥)
IsWrongNext number Form Breaking (Rejected line (why.Rule rule)) bytes =
    (line ≡ number) × HasNext (Breaking (why.Rule rule)) bytes
IsWrongNext number Form Breaking (Rejected line why.Sizes) bytes = (line ≡ number) × HasNext (Breaking why.Sizes) bytes
IsWrongNext number Form Breaking Read bytes = Unit {0}
IsWrongNext number Form Breaking Memory bytes = Unit {0}

-- these lines stand at the start of the bytes, and what is wrong stands after them
abbrev pub IsWrongAfter : List (List ℕ) → (CheckFault → List ℕ → Type 0) → CheckFault → List ℕ → Type 0
IsWrongAfter given Wrong fault bytes = (rest : List ℕ) × StandFirst given bytes rest × Wrong fault rest

-- These lines were given, and then something was refused: by the bytes in hand, which are those held and those read,
-- and by all bytes, where the source tells them. Where a read failed, no line feed stands after these lines in hand.
pub record RefusesAfter (given : List (List ℕ)) (Wrong : CheckFault → List ℕ → Type 0) (fault : CheckFault)
    (old : ReaderState) (left new_left : Option (List ℕ)) : Type 0 where
  pub read : List ℕ
  pub gone : IsGone read left new_left
  pub in_hand : IsWrongAfter given Wrong fault (old.held ++ read)
  pub in_all : IfSome left (λ bytes. IsWrongAfter given Wrong fault (old.held ++ bytes))
  pub no_line : fault ≡ Read → (rest : List ℕ) × StandFirst given (old.held ++ read) rest × HasNoLf rest

-- the next line was refused
abbrev pub RefusesNext : ℕ → (List ℕ → Type 0) → (Why → List ℕ → Type 0) → CheckFault → ReaderState → Option (List ℕ)
    → Option (List ℕ) → Type 0
RefusesNext number Form Breaking fault old left new_left =
    RefusesAfter [] (IsWrongNext number Form Breaking) fault old left new_left

-- bytes stand where the input is to end
abbrev pub IsPastEnd : ℕ → CheckFault → List ℕ → Type 0
IsPastEnd number (Rejected line why.Syntax) bytes = (line ≡ number) × (bytes ≢ [])
IsPastEnd number (Rejected line (why.Rule rule)) bytes = ⊥
IsPastEnd number (Rejected line why.Sizes) bytes = ⊥
IsPastEnd number Read bytes = Unit {0}
IsPastEnd number Memory bytes = Unit {0}

-- every line; and the rules of a place that has none
abbrev pub AnyLine : List ℕ → Type 0
AnyLine line = Unit {0}

abbrev pub NoRule : Why → List ℕ → Type 0
NoRule cause line = ⊥

-- the line spells numbers that are not those of a game
abbrev pub BreaksGame : Why → List ℕ → Type 0
BreaksGame cause line = (cause ≡ why.Rule rules.Game) × ((game : GameNumbers) × SpellsGame line game × ¬ (IsGame game))

-- the line spells numbers that are not a list of sizes of the game
abbrev pub BreaksSizes : GameNumbers → Why → List ℕ → Type 0
BreaksSizes game cause line =
    (cause ≡ why.Sizes) × ((sizes : List ℕ) × SpellsSizes line sizes × ¬ (AreSizes game.capacity sizes))

-- the line names a side that is not wanted
abbrev pub BreaksSide : Wanted → Why → List ℕ → Type 0
BreaksSide wanted cause line =
    (cause ≡ why.Rule rules.Side) × ((side : Side) × (line ≡ side_line side) × ¬ (IsWanted wanted side))

-- the line spells a node that breaks a rule, over the positions of the nodes before it
abbrev pub BreaksNode : Head → List Position → Why → List ℕ → Type 0
BreaksNode head earlier why.Syntax line = ⊥
BreaksNode head earlier (why.Rule rule) line = IsBrokenNodeLine head earlier rule line
BreaksNode head earlier why.Sizes line = ⊥

-- all sizes of the game, or listed ones
abbrev pub AreSizesOf : Heading → GameNumbers → List ℕ → Type 0
AreSizesOf (headings.Strategy wanted) game sizes = sizes ≡ sizes_of game
AreSizesOf headings.Listed game sizes = AreSizes game.capacity sizes

-- the head lines up to that of the game, or of the sizes, tell this
pub record IsFront (heading : Heading) (format : Format) (game : GameNumbers) (sizes : List ℕ) : Type 0 where
  pub of_format : IsFormatOf heading format
  pub of_game : IsGame game
  pub of_sizes : AreSizesOf heading game sizes

-- these lines
abbrev pub sizes_lines : Heading → List ℕ → List (List ℕ)
sizes_lines (headings.Strategy wanted) sizes = []
sizes_lines headings.Listed sizes = sizes_line sizes ∷ []

abbrev pub front_lines : Heading → Format → GameNumbers → List ℕ → List (List ℕ)
front_lines heading format game sizes = first_of heading format ∷ game_line game ∷ sizes_lines heading sizes

-- a head whose numbers are in their ranges, and whose side is wanted
pub record IsHead (heading : Heading) (head : Head) : Type 0 where
  pub front : IsFront heading head.format head.game head.sizes
  pub wanted_side : IsWanted (wanted_of heading) head.side
  pub low : 1 ≤ head.count
  pub high : head.count ≤ most_nodes
  pub start : head.start ≡ side_place heading + 2

-- the head lines that tell this
abbrev pub lines_of_head : Heading → Head → List (List ℕ)
lines_of_head heading head =
    front_lines heading head.format head.game head.sizes ++ side_line head.side ∷ count_line head.count ∷ []

-- nodes that lines spell under a head, numbered from 0, and that meet every rule
pub record AreJudged (head : Head) (nodes : List AnyNode) : Type 0 where
  pub spelled : (k : ℕ) (node : AnyNode) → slice_get nodes k ≡ Some node → SpellsUnder head k (node_line k node) node
  pub each : EachMeetsUnder head nodes

-- a line of this number was refused, which is to be of a form and to break no rule, or memory was
abbrev pub IsRefusedLine : ℕ → (List ℕ → Type 0) → (Why → List ℕ → Type 0) → CheckFault → List ℕ → Type 0
IsRefusedLine number Form Breaking (Rejected line why.Syntax) text = (line ≡ number) × (Form text → ⊥)
IsRefusedLine number Form Breaking (Rejected line (why.Rule rule)) text =
    (line ≡ number) × Breaking (why.Rule rule) text
IsRefusedLine number Form Breaking (Rejected line why.Sizes) text = (line ≡ number) × Breaking why.Sizes text
IsRefusedLine number Form Breaking Read text = ⊥
IsRefusedLine number Form Breaking Memory text = Unit {0}

-- a node in the line of this number was refused, since it breaks a rule, or memory was
abbrev pub IsBrokenBy : Head → List Position → ℕ → AnyNode → CheckFault → Type 0
IsBrokenBy head earlier number node (Rejected line why.Syntax) = ⊥
IsBrokenBy head earlier number node (Rejected line (why.Rule rule)) =
    (line ≡ number) × BreaksUnder head earlier (length earlier + 1 == head.count) node rule
IsBrokenBy head earlier number node (Rejected line why.Sizes) = ⊥
IsBrokenBy head earlier number node Read = ⊥
IsBrokenBy head earlier number node Memory = Unit {0}

-- the line spells a node that meets every rule as the one that follows the earlier ones, and its position was put after
-- theirs
pub record TakesNode (head : Head) (earlier kept : List Position) (node : AnyNode) (text : List ℕ) : Type 0 where
  pub under : SpellsUnder head (length earlier) text node
  pub meets : MeetsUnder head earlier (length earlier + 1 == head.count) node
  pub put : kept ≡ earlier ++ position_of node ∷ []

-- the node that stood next was read: it meets every rule as the one that follows the earlier ones, and its position was
-- put after theirs
pub record ReadsNode (head : Head) (earlier kept : List Position) (node : AnyNode) (old new : ReaderState)
    (left new_left : Option (List ℕ)) : Type 0 where
  pub text : List ℕ
  pub reads : ReadsLines (text ∷ []) old new left new_left
  pub takes : TakesNode head earlier kept node text

-- all nodes stood next and were read, each of which meets every rule
pub record ReadsNodes (head : Head) (nodes : List AnyNode) (old new : ReaderState) (left new_left : Option (List ℕ))
    : Type 0 where
  pub number : length nodes ≡ head.count
  pub judged : AreJudged head nodes
  pub reads : ReadsLines (node_lines 0 nodes) old new left new_left

-- a node that stood next was refused, after these nodes, each of which meets every rule
pub record RefusesNode (head : Head) (fault : CheckFault) (old : ReaderState) (left new_left : Option (List ℕ))
    : Type 0 where
  pub nodes : List AnyNode
  pub few : length nodes < head.count
  pub judged : AreJudged head nodes
  pub refused : RefusesAfter (node_lines 0 nodes) (IsWrongNext (head.start + length nodes)
      (IsNodeLine head (length nodes)) (BreaksNode head (map position_of nodes))) fault old left new_left

-- a whole text stood next and was read, up to its last line
pub record ReadsText (heading : Heading) (head : Head) (nodes : List AnyNode) (old new : ReaderState)
    (left new_left : Option (List ℕ)) : Type 0 where
  pub is_head : IsHead heading head
  pub number : length nodes ≡ head.count
  pub judged : AreJudged head nodes
  pub reads : ReadsLines (lines_of_head heading head ++ (node_lines 0 nodes ++ end_line ∷ [])) old new left new_left

-- a whole text was read, and then the end of the input
pub record ReadsWhole (heading : Heading) (head : Head) (nodes : List AnyNode) (left new_left : Option (List ℕ))
    : Type 0 where
  pub is_head : IsHead heading head
  pub number : length nodes ≡ head.count
  pub judged : AreJudged head nodes
  pub read : List ℕ
  pub gone : IsGone read left new_left
  pub spelled : read ≡ text_of_lines (lines_of_head heading head ++ (node_lines 0 nodes ++ end_line ∷ []))
  pub whole : IsReadWhole new_left

-- the head that was read
abbrev pub told_by : declared.Head → Head
told_by head = record {
  format = head.terms.format;
  game = head.terms.game;
  sizes = head.terms.sizes;
  side = head.side;
  count = head.count;
  start = head.start;
}

-- a node of either side, as it was read
abbrev pub any_node : Node → AnyNode
any_node (read.Adversary node) = of_adversary node
any_node (read.Algorithm node) = of_algorithm node

-- the nodes that are kept of those that were given, which are of a side: all of them, or none
abbrev pub AreKept : Nodes → Side → List AnyNode → Type 0
AreKept kept side nodes = (nodes_of kept ≡ nodes) × (side_of kept ≡ side)

abbrev pub NoneIsKept : Nothing → Side → List AnyNode → Type 0
NoneIsKept kept side nodes = Unit {0}

-- the input ended: nothing was held and nothing was read, and nothing is left, where the source tells what is left
pub record ReadsEnd (old : ReaderState) (left new_left : Option (List ℕ)) : Type 0 where
  pub held : old.held ≡ []
  pub gone : IsGone [] left new_left
  pub whole : IsReadWhole new_left

-- the strategy of a head that was read and of nodes
abbrev pub strategy_of_parts : declared.Head → Nodes → Strategy
strategy_of_parts head nodes = record { format = head.terms.format; game = head.terms.game; nodes = nodes }

-- the same, or why there is none
abbrev pub strategy_or : Result declared.Head CheckFault → Nodes → Result Strategy CheckFault
strategy_or (Ok head) nodes = Ok (strategy_of_parts head nodes)
strategy_or (Err fault) nodes = Err fault
