-- What the rules of the adversary's nodes have in common with those of the other side; nothing here has to be believed.
use Rattle.std.specs.Prelude.{◌≡◌, ◌↔◌, Bool, IsTrue, List, [], false}
use Rattle.std.proofs.Common.{sym, ◌∙◌, ap}
use Rattle.std.proofs.lemmas.Bool.{false≢true}
use Rattle.loads.specs.Position.{IsEmptyPosition}
use Rattle.loads.specs.declared.position.Position.{Position}
use Rattle.loads.proofs.LoadsLemmas.{multiset_from_items}
use Rattle.strategy_text.specs.declared.node.AdvNode.{AdvNode}
use Rattle.strategy_text.specs.declared.node.Nodes.{Nodes}
use Rattle.strategy_text.specs.declared.node.Nodes.TheVariants as sides
use Rattle.node_pool.specs.Pools.{IsPositionOf}
use Rattle.node_pool.specs.Terms.{Terms, AreTerms}
use Rattle.adversary_graph.specs.Legal.{MeetsRulesUnder}
use Rattle.adversary_graph.specs.Nodes.{position_of}

-- the rule `root` is asked of the last node alone
pub root_is_asked_last : (terms : Terms) (earlier : List Position) (last : Bool) (node : AdvNode)
    → MeetsRulesUnder terms earlier last node
    ↔ (MeetsRulesUnder terms earlier false node × (IsTrue last → IsEmptyPosition (position_of node)))
root_is_asked_last terms earlier last node = (
  λ m. (
    (
      m.0,
      (
        m.1.0,
        (
          m.1.1.0,
          (
            m.1.1.1.0,
            (
              m.1.1.1.1.0,
              (
                m.1.1.1.1.1.0,
                (
                  m.1.1.1.1.1.1.0,
                  (
                    m.1.1.1.1.1.1.1.0,
                    (λ t. absurd (false≢true t), tt),
                  ),
                ),
              ),
            ),
          ),
        ),
      ),
    ),
    m.1.1.1.1.1.1.1.1.0,
  ),
  λ h. let m = h.0 in (
    m.0,
    (
      m.1.0,
      (
        m.1.1.0,
        (
          m.1.1.1.0,
          (
            m.1.1.1.1.0,
            (
              m.1.1.1.1.1.0,
              (
                m.1.1.1.1.1.1.0,
                (
                  m.1.1.1.1.1.1.1.0,
                  (h.1, tt),
                ),
              ),
            ),
          ),
        ),
      ),
    ),
  ),
)

-- a node that meets its rules has loads and items of the game
pub rules_give_a_position : (terms : Terms) (earlier : List Position) (last : Bool) (node : AdvNode) → AreTerms terms
    → MeetsRulesUnder terms earlier last node → IsPositionOf terms.game (position_of node)
rules_give_a_position terms earlier last node t m = record {
  loads = m.0;
  items = multiset_from_items terms.game terms.sizes node.loads node.items t.of_game t.sizes m.0 m.1.0;
}

-- different lists of nodes are those of different strategies
abbrev nodes_in : Nodes → List AdvNode
nodes_in (sides.Adversary nodes) = nodes
nodes_in (sides.Algorithm nodes) = []

pub sides_differ : (one other : List AdvNode) → sides.Adversary one ≡ sides.Adversary other → one ≡ other
sides_differ one other e = ap nodes_in e
