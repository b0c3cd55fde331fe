-- Legal strategies of a side, and what is written of them.
use Rattle.std.proofs.Common.{◌≡◌, List, [], ℕ, Option, Some, inl, sym, subst, ap, refl, ◌∙◌}
use Rattle.items.specs.Game.{GameNumbers}
use Rattle.items.specs.Multiset.{sizes_of}
use Rattle.strategy_text.specs.Spelling.{IsSpellable}
use Rattle.strategy_text.specs.Text.{side_of}
use Rattle.strategy_text.specs.declared.node.Format.{Format}
use Rattle.strategy_text.specs.declared.node.Nodes.{Nodes}
use Rattle.strategy_text.specs.declared.node.Nodes.TheVariants as nodes_of_side
use Rattle.strategy_text.specs.declared.node.Side.TheVariants.{Adversary, Algorithm}
use Rattle.strategy_text.specs.declared.node.AdvNode.{AdvNode}
use Rattle.strategy_text.specs.declared.node.AlgNode.{AlgNode}
use Rattle.strategy_text.specs.declared.node.Strategy.{Strategy}
use Rattle.node_pool.specs.Pools.{terms_in}
use Rattle.node_pool.specs.Terms.{Terms, whole_game as whole_terms}
use Rattle.adversary_graph.specs.Legal as adversary_legal
use Rattle.algorithm_graph.specs.Legal as algorithm_legal
use Rattle.adversary_graph.specs.Pools as adversary
use Rattle.algorithm_graph.specs.Pools as algorithm
use Rattle.checker.specs.Accepted.{IsFaultOf}
use Rattle.checker.specs.FirstFault.{IsLegalText}
use Rattle.strategies.specs.AnyNode.{AreLegalNodes, IsLegal}
use Rattle.strategies.proofs.SideLemmas.{legal_of_one_side}
use Rattle.checker.specs.declared.fault.CheckFault.{CheckFault}
use Rattle.checker.specs.declared.fault.CheckFault.TheVariants as check_fault
use Rattle.checker.specs.declared.fault.Wanted.TheVariants.{Either}
use Rattle.checker.specs.declared.fault.Why.{Why}
use Rattle.checker.proofs.LegalText.{legal_is_spellable, legal_text_has_no_fault}
use Rattle.minimise.specs.Strategies.{canonical_form}
use Rattle.minimise.specs.Upgrade.{IsCanonicalUpgrade}
use Rattle.minimise.proofs.StrategyLemmas.{canonical-side, canonical_forms_are_legal, canonical_forms_are_reached}
use Rattle.minimise.proofs.StrategyLemmas.{canonical_forms_have_distinct_positions, canonical_forms_stay}
use Rattle.minimise.proofs.UpgradeLemmas.{upgrade_side, upgrades_are_legal}
use Rattle.stretch_bench.specs.Canonical.{IsAlike, IsCanonical}

-- a legal strategy has a text
pub spellable : (strategy : Strategy) → IsLegal strategy → IsSpellable strategy
spellable strategy legal = legal_is_spellable strategy legal

-- of one side, it is one of either
pub adversary_legal_too : (strategy : Strategy) → adversary.IsLegalOfAdversary strategy → IsLegal strategy
adversary_legal_too strategy legal = (legal_of_one_side strategy).1 (inl legal)

pub legal_adversary : (format : Format) (game : GameNumbers) (nodes : Nodes) → AreLegalNodes format game (sizes_of game) nodes → Adversary ≡ side_of nodes
    → adversary.AreLegal format game nodes
legal_adversary format game (nodes_of_side.Adversary list) legal e = legal
legal_adversary format game (nodes_of_side.Algorithm list) legal e = absurd cc

pub legal_algorithm : (format : Format) (game : GameNumbers) (nodes : Nodes) → AreLegalNodes format game (sizes_of game) nodes → Algorithm ≡ side_of nodes
    → algorithm.AreLegal format game nodes
legal_algorithm format game (nodes_of_side.Adversary list) legal e = absurd cc
legal_algorithm format game (nodes_of_side.Algorithm list) legal e = legal

-- ---- its nodes as a pool

pub pool_is : (pool : algorithm.Pool) → pool.sizes ≡ sizes_of pool.game → algorithm.pool_of pool.format pool.game pool.nodes ≡ pool
pool_is pool whole = λ i. record { format = pool.format; game = pool.game; sizes = sym whole i; nodes = pool.nodes }

-- the nodes of a legal strategy, and the strategy that they are
adversary_list : (format : Format) (game : GameNumbers) (nodes : Nodes) → adversary.AreLegal format game nodes
    → (list : List AdvNode) × (nodes ≡ nodes_of_side.Adversary list) × adversary_legal.IsLegal format game (sizes_of game) list
adversary_list format game (nodes_of_side.Adversary list) legal = (list, refl, legal)
adversary_list format game (nodes_of_side.Algorithm list) legal = absurd legal

pub adversary_nodes : (strategy : Strategy) → adversary.IsLegalOfAdversary strategy
    → (list : List AdvNode) × (strategy.nodes ≡ nodes_of_side.Adversary list) × adversary_legal.IsLegal strategy.format strategy.game (sizes_of strategy.game) list
adversary_nodes strategy legal = adversary_list strategy.format strategy.game strategy.nodes legal

algorithm_list : (format : Format) (game : GameNumbers) (nodes : Nodes) → algorithm.AreLegal format game nodes
    → (list : List AlgNode) × (nodes ≡ nodes_of_side.Algorithm list) × algorithm_legal.IsLegal format game (sizes_of game) list
algorithm_list format game (nodes_of_side.Algorithm list) legal = (list, refl, legal)
algorithm_list format game (nodes_of_side.Adversary list) legal = absurd legal

pub algorithm_nodes : (strategy : Strategy) → algorithm.IsLegalOfAlgorithm strategy
    → (list : List AlgNode) × (strategy.nodes ≡ nodes_of_side.Algorithm list) × algorithm_legal.IsLegal strategy.format strategy.game (sizes_of strategy.game) list
algorithm_nodes strategy legal = algorithm_list strategy.format strategy.game strategy.nodes legal

pub adversary_strategy : (strategy : Strategy) (pool : adversary.Pool) → pool.format ≡ strategy.format → terms_in pool ≡ whole_terms strategy.format strategy.game
    → strategy.nodes ≡ nodes_of_side.Adversary pool.nodes → strategy ≡ adversary.strategy_of pool
adversary_strategy strategy pool format terms nodes =
    let game : strategy.game ≡ pool.game = sym (ap (λ (t : Terms). t.game) terms) in
    λ i. record { format = sym format i; game = game i; nodes = nodes i }

pub algorithm_strategy : (strategy : Strategy) (pool : algorithm.Pool) → pool.format ≡ strategy.format → terms_in pool ≡ whole_terms strategy.format strategy.game
    → strategy.nodes ≡ nodes_of_side.Algorithm pool.nodes → strategy ≡ algorithm.strategy_of pool
algorithm_strategy strategy pool format terms nodes =
    let game : strategy.game ≡ pool.game = sym (ap (λ (t : Terms). t.game) terms) in
    λ i. record { format = sym format i; game = game i; nodes = nodes i }

-- its terms are those of the whole game
pub whole_of : (pool : algorithm.Pool) (format : Format) (game : GameNumbers) → terms_in pool ≡ whole_terms format game → pool.sizes ≡ sizes_of pool.game
whole_of pool format game terms = ap (λ (t : Terms). t.sizes) terms ∙ ap sizes_of (sym (ap (λ (t : Terms). t.game) terms))

-- the text of a legal strategy has no fault
pub no_fault : (fault : CheckFault) (line : ℕ) (why : Why) (text bytes : List ℕ) (new_left : Option (List ℕ)) → fault ≡ check_fault.Rejected line why
    → bytes ≡ text → IsLegalText Either text → IsFaultOf Either [] fault (Some bytes) new_left → ⊥
no_fault fault line why text bytes new_left e same legal of =
    let rejects = subst (λ (f : CheckFault). IsFaultOf Either [] f (Some bytes) new_left) e of in
    legal_text_has_no_fault Either bytes (subst (IsLegalText Either) (sym same) legal) line why rejects.first_of_input.has

-- ---- canonical forms

-- the canonical form of a legal strategy
pub canonical_is : (strategy : Strategy) → IsLegal strategy → IsCanonical (canonical_form strategy)
canonical_is strategy legal = record {
  legal = canonical_forms_are_legal strategy.format strategy.game (sizes_of strategy.game) strategy.nodes legal;
  distinct = canonical_forms_have_distinct_positions strategy.format strategy.game (sizes_of strategy.game) strategy.nodes legal;
  reached = canonical_forms_are_reached strategy.format strategy.game (sizes_of strategy.game) strategy.nodes legal;
  stays = canonical_forms_stay strategy legal;
}

-- it is of the same game and side
pub canonical_alike : (strategy : Strategy) → IsAlike strategy (canonical_form strategy)
canonical_alike strategy = record { game = refl; side = canonical-side strategy.nodes }

-- the canonical form of an upgrade of a legal strategy
pub upgrade_is : (strategy made : Strategy) → IsLegal strategy → IsCanonicalUpgrade strategy made → IsCanonical made
upgrade_is strategy made legal upgrade =
    let raised = upgrade.0 in
    subst IsCanonical (sym upgrade.2) (canonical_is raised (upgrades_are_legal strategy raised legal upgrade.1))

pub upgrade_alike : (strategy made : Strategy) → IsCanonicalUpgrade strategy made → IsAlike strategy made
upgrade_alike strategy made upgrade =
    let raised = upgrade.0 in
    let is = upgrade.1 in
    let alike : IsAlike strategy (canonical_form raised) = record {
      game = is.game;
      side = canonical-side raised.nodes ∙ upgrade_side strategy.game strategy.nodes raised.nodes is.nodes;
    } in
    subst (IsAlike strategy) (sym upgrade.2) alike
