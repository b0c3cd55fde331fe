-- The canonical form of a legal strategy, whichever side it is of.
use Rattle.std.proofs.Common.{ap, ◌≡◌, ◌≤◌, ℕ, List, length, refl, sym, subst, arith}
use Rattle.std.specs.Prelude.{All, map}
use Rattle.std.proofs.lemmas.List.{length-map}
use Rattle.items.specs.Game.{GameNumbers, IsGame}
use Rattle.items.specs.Multiset.{sizes_of}
use Rattle.items.proofs.SizesLemmas.{sizes_are_sizes}
use Rattle.strategy_text.specs.Text.{nodes_of, of_adversary, of_algorithm, side_of}
use Rattle.strategy_text.specs.declared.node.AdvNode.{AdvNode}
use Rattle.strategy_text.specs.declared.node.AlgNode.{AlgNode}
use Rattle.strategy_text.specs.declared.node.Format.{Format}
use Rattle.strategy_text.specs.declared.node.Nodes.{Nodes}
use Rattle.strategy_text.specs.declared.node.Nodes.TheVariants.{Adversary, Algorithm}
use Rattle.node_pool.specs.Pools.{IsPositionOf}
use Rattle.node_pool.specs.Terms.{AreTerms, terms_of, whole_game}
use Rattle.adversary_graph.specs.Legal as adversary_legal
use Rattle.algorithm_graph.specs.Legal as algorithm_legal
use Rattle.adversary_graph.specs.Nodes as adversary
use Rattle.algorithm_graph.specs.Nodes as algorithm
use Rattle.strategies.specs.AnyNode.{AreLegalNodes}
use Rattle.minimise.specs.Canonical.{canonical}
use Rattle.minimise.specs.Nodes.{LeadBack}
use Rattle.minimise.specs.References.{adversary_references, algorithm_references, renamed_adversary, renamed_algorithm}
use Rattle.minimise.specs.Reached.{AreDistinct, AreReached}
use Rattle.minimise.specs.Laws.{AgreeingStrategiesHaveOneForm, CanonicalFormsAreLegal, CanonicalFormsAreReached, CanonicalFormsHaveDistinctPositions}
use Rattle.minimise.specs.Laws.{CanonicalFormsHaveNoMoreNodes, CanonicalFormsStay, NodesAgree}
use Rattle.minimise.specs.Strategies.{canonical_nodes, positions_in, references_in}
use Rattle.minimise.proofs.AdversaryLemmas.{adversary_side}
use Rattle.minimise.proofs.AlgorithmLemmas.{algorithm_side}
use Rattle.minimise.proofs.FormLemmas.{IsForm}
use Rattle.minimise.proofs.SideLemmas.{form_holds, form_is_legal, form_of_form, forms_agree, leads_back, nodes_have_positions}

-- ---- both sides

whole_terms : (format : Format) (game : GameNumbers) → IsGame game → AreTerms (whole_game format game)
whole_terms format game g = record { of_game = g; sizes = sizes_are_sizes game }

module _ (format : Format) (game : GameNumbers) (sizes : List ℕ) where
  adversary_form : (nodes : List AdvNode) → adversary_legal.IsLegal format game sizes nodes
      → IsForm adversary.position_of adversary_references (adversary_legal.MeetsRulesUnder (terms_of format game sizes)) (adversary_legal.IsNodeOfFormat format) nodes
      (canonical adversary.position_of adversary_references renamed_adversary nodes)
  adversary_form nodes legal =
      form_holds adversary.position_of adversary_references renamed_adversary adversary_legal.IsNodeOfFormat adversary_legal.MeetsRulesUnder adversary_side
      (terms_of format game sizes) nodes legal

  algorithm_form : (nodes : List AlgNode) → algorithm_legal.IsLegal format game sizes nodes
      → IsForm algorithm.position_of algorithm_references (algorithm_legal.MeetsRulesUnder (terms_of format game sizes)) (algorithm_legal.IsNodeOfFormat format) nodes
      (canonical algorithm.position_of algorithm_references renamed_algorithm nodes)
  algorithm_form nodes legal =
      form_holds algorithm.position_of algorithm_references renamed_algorithm algorithm_legal.IsNodeOfFormat algorithm_legal.MeetsRulesUnder algorithm_side
      (terms_of format game sizes) nodes legal

  pub adversary_leads_back : (nodes : List AdvNode) → adversary_legal.IsLegal format game sizes nodes → LeadBack (map adversary_references nodes)
  adversary_leads_back nodes legal =
      leads_back adversary.position_of adversary_references renamed_adversary adversary_legal.IsNodeOfFormat adversary_legal.MeetsRulesUnder adversary_side
      (terms_of format game sizes) nodes legal

  pub algorithm_leads_back : (nodes : List AlgNode) → algorithm_legal.IsLegal format game sizes nodes → LeadBack (map algorithm_references nodes)
  algorithm_leads_back nodes legal =
      leads_back algorithm.position_of algorithm_references renamed_algorithm algorithm_legal.IsNodeOfFormat algorithm_legal.MeetsRulesUnder algorithm_side
      (terms_of format game sizes) nodes legal

  pub canonical-legal : (nodes : Nodes) → AreLegalNodes format game sizes nodes → AreLegalNodes format game sizes (canonical_nodes nodes)
  canonical-legal (Adversary nodes) legal =
      form_is_legal adversary.position_of adversary_references renamed_adversary adversary_legal.IsNodeOfFormat adversary_legal.MeetsRulesUnder adversary_side
      (terms_of format game sizes) nodes legal
  canonical-legal (Algorithm nodes) legal =
      form_is_legal algorithm.position_of algorithm_references renamed_algorithm algorithm_legal.IsNodeOfFormat algorithm_legal.MeetsRulesUnder algorithm_side
      (terms_of format game sizes) nodes legal

  pub canonical-distinct : (nodes : Nodes) → AreLegalNodes format game sizes nodes → AreDistinct (positions_in (canonical_nodes nodes))
  canonical-distinct (Adversary nodes) legal = (adversary_form nodes legal).distinct
  canonical-distinct (Algorithm nodes) legal = (algorithm_form nodes legal).distinct

  pub canonical-reached : (nodes : Nodes) → AreLegalNodes format game sizes nodes → AreReached (references_in (canonical_nodes nodes))
  canonical-reached (Adversary nodes) legal = (adversary_form nodes legal).reached
  canonical-reached (Algorithm nodes) legal = (algorithm_form nodes legal).reached

  pub canonical-few : (nodes : Nodes) → AreLegalNodes format game sizes nodes → length (nodes_of (canonical_nodes nodes)) ≤ length (nodes_of nodes)
  canonical-few (Adversary nodes) legal =
      let form = canonical adversary.position_of adversary_references renamed_adversary nodes in
      omega (arith, (adversary_form nodes legal).few, length-map nodes of_adversary, length-map form of_adversary)
  canonical-few (Algorithm nodes) legal =
      let form = canonical algorithm.position_of algorithm_references renamed_algorithm nodes in
      omega (arith, (algorithm_form nodes legal).few, length-map nodes of_algorithm, length-map form of_algorithm)

-- ---- the whole game

module _ (format : Format) (game : GameNumbers) where
  pub adversary_positions : (nodes : List AdvNode) → adversary_legal.IsLegal format game (sizes_of game) nodes
      → All (λ node. IsPositionOf game (adversary.position_of node)) nodes
  adversary_positions nodes legal =
      nodes_have_positions adversary.position_of adversary_references renamed_adversary adversary_legal.IsNodeOfFormat adversary_legal.MeetsRulesUnder adversary_side
      (whole_game format game) nodes (whole_terms format game legal.of_game) legal

  pub algorithm_positions : (nodes : List AlgNode) → algorithm_legal.IsLegal format game (sizes_of game) nodes
      → All (λ node. IsPositionOf game (algorithm.position_of node)) nodes
  algorithm_positions nodes legal =
      nodes_have_positions algorithm.position_of algorithm_references renamed_algorithm algorithm_legal.IsNodeOfFormat algorithm_legal.MeetsRulesUnder algorithm_side
      (whole_game format game) nodes (whole_terms format game legal.of_game) legal

  canonical-again : (nodes : Nodes) → AreLegalNodes format game (sizes_of game) nodes → canonical_nodes (canonical_nodes nodes) ≡ canonical_nodes nodes
  canonical-again (Adversary nodes) legal =
      ap Adversary (form_of_form adversary.position_of adversary_references renamed_adversary adversary_legal.IsNodeOfFormat adversary_legal.MeetsRulesUnder
      adversary_side (whole_game format game) nodes (whole_terms format game legal.of_game) legal)
  canonical-again (Algorithm nodes) legal =
      ap Algorithm (form_of_form algorithm.position_of algorithm_references renamed_algorithm algorithm_legal.IsNodeOfFormat algorithm_legal.MeetsRulesUnder
      algorithm_side (whole_game format game) nodes (whole_terms format game legal.of_game) legal)

  canonical-agree : (another : Format) (one other : Nodes) → AreLegalNodes format game (sizes_of game) one → AreLegalNodes another game (sizes_of game) other
      → NodesAgree one other → canonical_nodes one ≡ canonical_nodes other
  canonical-agree another (Adversary one) (Adversary other) legal also agree =
      ap Adversary (forms_agree adversary.position_of adversary_references renamed_adversary adversary_legal.IsNodeOfFormat adversary_legal.MeetsRulesUnder
      adversary_side (whole_game format game) (whole_game another game) one other (whole_terms format game legal.of_game) (whole_terms another game legal.of_game)
      refl legal also agree)
  canonical-agree another (Algorithm one) (Algorithm other) legal also agree =
      ap Algorithm (forms_agree algorithm.position_of algorithm_references renamed_algorithm algorithm_legal.IsNodeOfFormat algorithm_legal.MeetsRulesUnder
      algorithm_side (whole_game format game) (whole_game another game) one other (whole_terms format game legal.of_game) (whole_terms another game legal.of_game)
      refl legal also agree)
  canonical-agree another (Adversary one) (Algorithm other) legal also agree = absurd agree
  canonical-agree another (Algorithm one) (Adversary other) legal also agree = absurd agree

pub canonical-side : (nodes : Nodes) → side_of (canonical_nodes nodes) ≡ side_of nodes
canonical-side (Adversary nodes) = refl
canonical-side (Algorithm nodes) = refl

-- ---- the laws

pub canonical_forms_are_legal : CanonicalFormsAreLegal
canonical_forms_are_legal format game sizes nodes legal = canonical-legal format game sizes nodes legal

pub canonical_forms_have_distinct_positions : CanonicalFormsHaveDistinctPositions
canonical_forms_have_distinct_positions format game sizes nodes legal = canonical-distinct format game sizes nodes legal

pub canonical_forms_are_reached : CanonicalFormsAreReached
canonical_forms_are_reached format game sizes nodes legal = canonical-reached format game sizes nodes legal

pub canonical_forms_stay : CanonicalFormsStay
canonical_forms_stay strategy legal =
    ap (λ (nodes : Nodes). record { format = strategy.format; game = strategy.game; nodes = nodes }) (canonical-again strategy.format strategy.game strategy.nodes legal)

pub canonical_forms_have_no_more_nodes : CanonicalFormsHaveNoMoreNodes
canonical_forms_have_no_more_nodes strategy legal = canonical-few strategy.format strategy.game (sizes_of strategy.game) strategy.nodes legal

pub agreeing_strategies_have_one_form : AgreeingStrategiesHaveOneForm
agreeing_strategies_have_one_form one other legal also format game agree =
    let also' = subst (λ (g : GameNumbers). AreLegalNodes other.format g (sizes_of g) other.nodes) (sym game) also in
    let nodes = canonical-agree one.format one.game other.format one.nodes other.nodes legal also' agree in
    λ i. record { format = format i; game = game i; nodes = nodes i }
