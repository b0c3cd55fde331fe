-- The canonical form of legal nodes of one side, by what the lemmas ask of its nodes.
use Rattle.std.proofs.Common.{◌≡◌, ◌≤◌, ◌<◌, ℕ, ◌-◌, Bool, IsTrue, List, length, map, take, get_or, refl, sym, ap, ◌∙◌, subst, arith}
use Rattle.std.specs.Prelude.{All, Contains, slice_get}
use Rattle.std.proofs.lemmas.List.{get_or-map, length-map, length-take-le}
use Rattle.std.proofs.lemmas.List.Elements.{All-weaker}
use Rattle.std.proofs.lemmas.Option.{slice_get-map, slice_get_within}
use Rattle.items.proofs.ListLemmas.{mapped}
use Rattle.loads.specs.Position.{IsEmptyPosition, StandsAt}
use Rattle.loads.specs.declared.position.Position.{Position}
use Rattle.strategy_text.specs.declared.node.Format.{Format}
use Rattle.node_pool.specs.Pools.{AreLegal, IsPositionOf, pool_of}
use Rattle.node_pool.specs.Terms.{AreTerms, Terms}
use Rattle.node_pool.proofs.PoolLemmas.{IsPool-from_legal, RootIsAskedLast, RulesGiveAPosition, each_has_position, root_of_legal}
use Rattle.minimise.specs.Agree.{Agree}
use Rattle.minimise.specs.Canonical.{canonical}
use Rattle.minimise.specs.Nodes.{LeadBack}
use Rattle.minimise.proofs.AgreeLemmas.{empty_positions, form_agrees, one_form}
use Rattle.minimise.proofs.FormLemmas.{IsForm, legal_form}
use Rattle.minimise.proofs.KeptLemmas.{IsGraph, graph_of, position_of_last}
use Rattle.minimise.proofs.RepresentativeLemmas.{no_position}

-- what holds of the nodes of a side: what its rules say of the root and of positions, what a renaming of references does,
-- and that rules and forms stay where each renamed reference leads on as before
pub record IsSide {N : Type 0} (position_of : N → Position) (references_of : N → List ℕ) (renamed : (ℕ → ℕ) → N → N) (Formed : Format → N → Type 0)
    (Meets : Terms → List Position → Bool → N → Type 0) : Type 0 where
  pub asked : RootIsAskedLast position_of Meets
  pub give : RulesGiveAPosition position_of Meets
  pub before : (terms : Terms) (earlier : List Position) (last : Bool) (node : N) → Meets terms earlier last node
      → All (λ child. child < length earlier) (references_of node)
  pub keeps : (name : ℕ → ℕ) (node : N) → position_of (renamed name node) ≡ position_of node
  pub renames : (name : ℕ → ℕ) (node : N) → references_of (renamed name node) ≡ map name (references_of node)
  pub twice : (name again : ℕ → ℕ) (node : N) → renamed again (renamed name node) ≡ renamed (λ child. again (name child)) node
  pub alike : (name another : ℕ → ℕ) (node : N) → All (λ child. name child ≡ another child) (references_of node) → renamed name node ≡ renamed another node
  pub meets : (terms : Terms) (name : ℕ → ℕ) (earlier later : List Position) (last final : Bool) (node : N) → Meets terms earlier last node
      → ((child : ℕ) (position : Position) → Contains (references_of node) child → StandsAt earlier child position → StandsAt later (name child) position)
      → (IsTrue final → IsEmptyPosition (position_of node)) → Meets terms later final (renamed name node)
  pub formed : (format : Format) (name : ℕ → ℕ) (node : N) → Formed format node → Formed format (renamed name node)
  pub some : N

module _ {N : Type 0} (position_of : N → Position) (references_of : N → List ℕ) (renamed : (ℕ → ℕ) → N → N) (Formed : Format → N → Type 0)
    (Meets : Terms → List Position → Bool → N → Type 0) (side : IsSide position_of references_of renamed Formed Meets) where
  abbrev AreLegalUnder : Terms → List N → Type 0
  AreLegalUnder terms nodes = AreLegal position_of Formed Meets terms nodes

  abbrev form_of : List N → List N
  form_of nodes = canonical position_of references_of renamed nodes

  pub nodes_have_positions : (terms : Terms) (nodes : List N) → AreTerms terms → AreLegalUnder terms nodes
      → All (λ node. IsPositionOf terms.game (position_of node)) nodes
  nodes_have_positions terms nodes t legal =
      each_has_position position_of Formed Meets side.give (pool_of terms nodes)
      (IsPool-from_legal position_of Formed Meets side.asked terms nodes t legal)

  pub leads_back : (terms : Terms) (nodes : List N) → AreLegalUnder terms nodes → LeadBack (map references_of nodes)
  leads_back terms nodes legal number children e =
      let found = mapped references_of (slice_get nodes number) children (sym (slice_get-map references_of nodes number) ∙ e) in
      let earlier = map position_of (take number nodes) in
      let few : length earlier ≤ number = omega (
        arith,
        length-map (take number nodes) position_of,
        length-take-le number nodes (omega (arith, slice_get_within nodes number found.0 found.1)),
      ) in
      subst (All (λ child. child < number)) found.2
      (All-weaker (λ child. child < length earlier) (λ child. child < number) (λ child l. omega (arith, l, few)) (references_of found.0)
      (side.before terms earlier _ found.0 (legal.each number found.0 found.1)))

  graph_of_legal : (terms : Terms) (nodes : List N) → AreLegalUnder terms nodes → IsGraph (map position_of nodes) (map references_of nodes)
  graph_of_legal terms nodes legal = graph_of position_of references_of nodes legal.low (leads_back terms nodes legal)

  last_is_empty : (terms : Terms) (nodes : List N) → AreLegalUnder terms nodes
      → IsEmptyPosition (get_or (map position_of nodes) (length (map position_of nodes) - 1) no_position)
  last_is_empty terms nodes legal =
      let root = root_of_legal position_of Formed Meets side.asked terms nodes legal in
      subst IsEmptyPosition (sym (position_of_last position_of nodes root.0 root.1)) root.2

  -- what holds of the canonical form
  pub form_holds : (terms : Terms) (nodes : List N) → AreLegalUnder terms nodes
      → IsForm position_of references_of (Meets terms) (Formed terms.format) nodes (form_of nodes)
  form_holds terms nodes legal =
      legal_form position_of references_of renamed side.keeps side.renames (Meets terms) (Formed terms.format) nodes side.some
      (graph_of_legal terms nodes legal) (side.meets terms) (side.formed terms.format) legal.each legal.formed (last_is_empty terms nodes legal)

  pub form_is_legal : (terms : Terms) (nodes : List N) → AreLegalUnder terms nodes → AreLegalUnder terms (form_of nodes)
  form_is_legal terms nodes legal =
      let form = form_holds terms nodes legal in
      record { of_game = legal.of_game; low = form.some; high = omega (arith, form.few, legal.high); formed = form.formed; each = form.each }

  -- ---- strategies that agree

  last_loads : (terms : Terms) (nodes : List N) → AreTerms terms → AreLegalUnder terms nodes
      → length (get_or (map position_of nodes) (length (map position_of nodes) - 1) no_position).loads ≡ terms.game.bins
  last_loads terms nodes t legal =
      let last : ℕ = length (map position_of nodes) - 1 in
      let within : last < length nodes = omega (arith, legal.low, length-map nodes position_of) in
      ap (λ (p : Position). length p.loads) (get_or-map position_of nodes last side.some no_position within)
      ∙ (nodes_have_positions terms nodes t legal last side.some within).loads.one_each

  pub forms_agree : (terms another : Terms) (one other : List N) → AreTerms terms → AreTerms another → terms.game.bins ≡ another.game.bins
      → AreLegalUnder terms one → AreLegalUnder another other → Agree position_of references_of renamed one other → form_of one ≡ form_of other
  forms_agree terms another one other t u bins legal also agree =
      one_form position_of references_of renamed side.keeps side.renames side.twice side.alike one other
      (graph_of_legal terms one legal) (graph_of_legal another other also) side.some
      (empty_positions _ _ terms.game.bins (last_is_empty terms one legal) (last_is_empty another other also)
      (last_loads terms one t legal) (last_loads another other u also ∙ sym bins))
      agree

  pub form_of_form : (terms : Terms) (nodes : List N) → AreTerms terms → AreLegalUnder terms nodes → form_of (form_of nodes) ≡ form_of nodes
  form_of_form terms nodes t legal =
      sym (forms_agree terms terms nodes (form_of nodes) t t refl legal (form_is_legal terms nodes legal)
      (form_agrees position_of references_of renamed side.keeps side.renames nodes (graph_of_legal terms nodes legal) side.some))
