-- Legal strategies of either side.
use Rattle.std.proofs.Common.{◌≡◌, ◌↔◌, ◌⊎◌, inl, inr, sym, ap, subst, ⊎_elim}
use Rattle.items.specs.Game.{GameNumbers}
use Rattle.strategy_text.specs.Text.{side_of}
use Rattle.strategy_text.specs.declared.node.Format.{Format}
use Rattle.strategy_text.specs.declared.node.Nodes.{Nodes}
use Rattle.strategy_text.specs.declared.node.Nodes.TheVariants as nodes
use Rattle.strategy_text.specs.declared.node.Side.{Side}
use Rattle.strategy_text.specs.declared.node.Side.TheVariants as sides
use Rattle.strategy_text.specs.declared.node.Strategy.{Strategy}
use Rattle.items.specs.Multiset.{sizes_of}
use Rattle.adversary_graph.specs.Pools as adversary
use Rattle.algorithm_graph.specs.Pools as algorithm
use Rattle.strategies.specs.AnyNode.{AreLegalNodes, IsLegal}
use Rattle.strategies.specs.Laws.{LegalOfOneSide, LegalBySide}

either_side : (format : Format) (game : GameNumbers) (list : Nodes)
    → AreLegalNodes format game (sizes_of game) list ↔ (adversary.AreLegal format game list ⊎ algorithm.AreLegal format game list)
either_side format game (nodes.Adversary list) = (λ l. inl l, λ h. ⊎_elim (λ l. l) (λ none. absurd none) h)
either_side format game (nodes.Algorithm list) = (λ l. inr l, λ h. ⊎_elim (λ none. absurd none) (λ l. l) h)

pub legal_of_one_side : LegalOfOneSide
legal_of_one_side strategy = either_side strategy.format strategy.game strategy.nodes

abbrev is_adversary : Side → Type 0
is_adversary sides.Adversary = Unit {0}
is_adversary sides.Algorithm = ⊥

by_side : (format : Format) (game : GameNumbers) (list : Nodes) → AreLegalNodes format game (sizes_of game) list → side_of list ≡ sides.Adversary
    → adversary.AreLegal format game list
by_side format game (nodes.Adversary list) legal e = legal
by_side format game (nodes.Algorithm list) legal e = absurd (subst is_adversary (sym e) tt)

pub legal_by_side : LegalBySide
legal_by_side strategy legal e = by_side strategy.format strategy.game strategy.nodes legal e
