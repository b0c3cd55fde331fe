-- Pools: a node that comes next, the positions of the nodes, and legal nodes from pools and to pools; over what a side says
-- of its nodes.
use Rattle.std.proofs.Common.{◌≡◌, ◌↔◌, ℕ, suc, ◌+◌, ◌≤◌, Bool, IsTrue, false, List, [], ◌∷◌, ◌++◌, Some, length, get_or, ◌-◌, take, map, arith, ap, sym, subst}
use Rattle.std.proofs.Common.{true, ◌∙◌, ⊎_elim, eqb}
use Rattle.std.specs.List.{All, slice_get}
use Rattle.std.proofs.lemmas.Bool.{eqb-true, eq-eqb}
use Rattle.std.proofs.lemmas.List.{take-take, take-append-le, length-take-le, map-append, length-append}
use Rattle.std.proofs.lemmas.List.Elements.{All-push, All-nil, All-take, All-weaker}
use Rattle.std.proofs.lemmas.Option.{same_Some, none-some, slice_get_within, slice_get-get_or, slice_get-map}
use Rattle.std.proofs.Math.Seq.{take-append_seam, take-suc}
use Rattle.items.specs.Multiset.{IsMultiset, IsSize}
use Rattle.items.specs.declared.limits.TheConstants.{MOST_SIZE}
use Rattle.items.proofs.ListLemmas.{slice_get-push, slice_get-take, mapped}
use Rattle.loads.specs.Position.{IsEmptyPosition}
use Rattle.loads.specs.declared.position.Position.{Position}
use Rattle.strategy_text.specs.declared.node.Format.{Format}
use Rattle.node_pool.specs.Pools.{AreLegal, Pool, IsPool, MayComeNext, IsRoot, nodes_up_to, pool_of, terms_in, with_node, IsPositionOf}
use Rattle.node_pool.specs.Terms.{Terms, AreTerms}

-- what a side says of its rules
abbrev pub RootIsAskedLast : {N : Type 0} → (N → Position) → (Terms → List Position → Bool → N → Type 0) → Type 0
RootIsAskedLast {N} position MeetsRules =
    (terms : Terms) (earlier : List Position) (last : Bool) (node : N) → MeetsRules terms earlier last node
    ↔ (MeetsRules terms earlier false node × (IsTrue last → IsEmptyPosition (position node)))

abbrev pub RulesGiveAPosition : {N : Type 0} → (N → Position) → (Terms → List Position → Bool → N → Type 0) → Type 0
RulesGiveAPosition {N} position MeetsRules =
    (terms : Terms) (earlier : List Position) (last : Bool) (node : N) → AreTerms terms → MeetsRules terms earlier last node
    → IsPositionOf terms.game (position node)

-- the terms of a pool are those of a game
pub AreTerms-in : {N : Type 0} (position : N → Position) (Formed : Format → N → Type 0) (Meets : Terms → List Position → Bool → N → Type 0)
    (pool : Pool N) → IsPool position Formed Meets pool → AreTerms (terms_in pool)
AreTerms-in position Formed Meets pool p = record { of_game = p.of_game; sizes = p.sizes }

pub IsPool-nil : {N : Type 0} (position : N → Position) (Formed : Format → N → Type 0) (Meets : Terms → List Position → Bool → N → Type 0)
    (terms : Terms) → AreTerms terms → IsPool position Formed Meets (pool_of terms [])
IsPool-nil position Formed Meets terms t = record {
  of_game = t.of_game;
  sizes = t.sizes;
  few = omega arith;
  formed = All-nil (Formed terms.format);
  follow = λ k node e. absurd (none-some node e);
}

pub IsPool-push : {N : Type 0} (position : N → Position) (Formed : Format → N → Type 0) (Meets : Terms → List Position → Bool → N → Type 0)
    (pool : Pool N) (node : N) → IsPool position Formed Meets pool → MayComeNext position Formed Meets pool node
    → IsPool position Formed Meets (with_node pool node)
IsPool-push {N} position Formed Meets pool node p next =
    let rules = λ (earlier : List N) (last : N). Meets (terms_in pool) (map position earlier) false last in
    record {
      of_game = p.of_game;
      sizes = p.sizes;
      few = omega (arith, length-append pool.nodes (node ∷ []), next.room);
      formed = All-push (Formed pool.format) pool.nodes node p.formed next.formed;
      follow = λ k other e. ⊎_elim
          (λ here. subst (λ earlier. rules earlier other)
          (sym (take-append-le k pool.nodes (node ∷ []) (omega (arith, slice_get_within pool.nodes k other here)))) (p.follow k other here))
          (λ last. subst (λ n. rules (take n (pool.nodes ++ node ∷ [])) other) (sym last.0)
          (subst (λ earlier. rules earlier other) (sym (take-append_seam pool.nodes (node ∷ [])))
          (subst (λ n. rules pool.nodes n) last.1 next.follows)))
          (slice_get-push pool.nodes node k other e);
    }

pub map-push : {N : Type 0} (position : N → Position) (nodes : List N) (node : N)
    → map position (nodes ++ node ∷ []) ≡ map position nodes ++ position node ∷ []
map-push position nodes node = map-append position nodes (node ∷ [])

-- the nodes of a pool up to one with the empty position are legal
pub AreLegal-from_pool : {N : Type 0} (position : N → Position) (Formed : Format → N → Type 0) (Meets : Terms → List Position → Bool → N → Type 0)
    → RootIsAskedLast position Meets → (pool : Pool N) (root : ℕ) → IsPool position Formed Meets pool → IsRoot position pool.nodes root
    → AreLegal position Formed Meets (terms_in pool) (nodes_up_to root pool.nodes)
AreLegal-from_pool {N} position Formed Meets asked pool root p r =
    let within = slice_get_within pool.nodes root r.0 r.1 in
    let number : length (take (root + 1) pool.nodes) ≡ root + 1 = length-take-le (root + 1) pool.nodes (omega (arith, within)) in
    record {
      of_game = p.of_game;
      low = omega (arith, number);
      high = omega (arith, number, within, p.few);
      formed = All-take (Formed pool.format) (root + 1) pool.nodes p.formed;
      each = λ k node e.
          let h = slice_get-take pool.nodes (root + 1) k node e in
          let last = eqb (k + 1) (length (take (root + 1) pool.nodes)) in
          let empty = λ (is_last : last ≡ true).
          let k_is : k ≡ root = omega (arith, eqb-true (k + 1) (length (take (root + 1) pool.nodes)) is_last, number) in
          let same : node ≡ r.0 = same_Some node r.0 (sym h.0 ∙ ap (slice_get pool.nodes) k_is ∙ r.1) in
          subst (λ (n : N). IsEmptyPosition (position n)) (sym same) r.2 in
          (asked (terms_in pool) (map position (take k (take (root + 1) pool.nodes))) last node).1 (
            subst (λ earlier. Meets (terms_in pool) (map position earlier) false node)
                (sym (take-take k (root + 1) pool.nodes (omega (arith, h.1)))) (p.follow k node h.0),
            empty,
          );
    }

-- legal nodes are a pool
pub IsPool-from_legal : {N : Type 0} (position : N → Position) (Formed : Format → N → Type 0) (Meets : Terms → List Position → Bool → N → Type 0)
    → RootIsAskedLast position Meets → (terms : Terms) (nodes : List N) → AreTerms terms → AreLegal position Formed Meets terms nodes
    → IsPool position Formed Meets (pool_of terms nodes)
IsPool-from_legal position Formed Meets asked terms nodes t legal = record {
  of_game = legal.of_game;
  sizes = t.sizes;
  few = legal.high;
  formed = legal.formed;
  follow = λ k node e. ((asked terms (map position (take k nodes)) (eqb (k + 1) (length nodes)) node).0 (legal.each k node e)).0;
}

-- the nodes of a pool have positions of the game
pub each_has_position : {N : Type 0} (position : N → Position) (Formed : Format → N → Type 0) (Meets : Terms → List Position → Bool → N → Type 0)
    → RulesGiveAPosition position Meets → (pool : Pool N) → IsPool position Formed Meets pool
    → All (λ node. IsPositionOf pool.game (position node)) pool.nodes
each_has_position position Formed Meets give pool p k d l =
    give (terms_in pool) (map position (take k pool.nodes)) false _ (AreTerms-in position Formed Meets pool p) (p.follow k _ (slice_get-get_or pool.nodes k d l))

-- the last one of legal nodes is a root
pub root_of_legal : {N : Type 0} (position : N → Position) (Formed : Format → N → Type 0) (Meets : Terms → List Position → Bool → N → Type 0)
    → RootIsAskedLast position Meets → (terms : Terms) (nodes : List N) → AreLegal position Formed Meets terms nodes
    → IsRoot position nodes (length nodes - 1)
root_of_legal position Formed Meets asked terms [] legal = absurd (omega (arith, legal.low))
root_of_legal position Formed Meets asked terms (node ∷ others) legal =
    let nodes = node ∷ others in
    let k = length nodes - 1 in
    let here = slice_get-get_or nodes k node (omega (arith, legal.low)) in
    let is_last : eqb (k + 1) (length nodes) ≡ true = eq-eqb (k + 1) (length nodes) (omega (arith, legal.low)) in (
      get_or nodes k node,
      here,
      ((asked terms (map position (take k nodes)) (eqb (k + 1) (length nodes)) (get_or nodes k node)).0 (legal.each k (get_or nodes k node) here)).1 is_last,
    )

-- ---- positions

pub sizes_up_to_120 : (most : ℕ) (xs : List ℕ) → most ≤ MOST_SIZE → IsMultiset most xs → IsMultiset MOST_SIZE xs
sizes_up_to_120 most xs le m = record {
  ascending = m.ascending;
  sizes = All-weaker (IsSize most) (IsSize MOST_SIZE) (λ x s. record { low = s.low; high = omega (arith, s.high, le) }) xs m.sizes;
  total = m.total;
}

-- the position of the node of a number
pub node_position : {N : Type 0} (position : N → Position) (Formed : Format → N → Type 0) (Meets : Terms → List Position → Bool → N → Type 0)
    → RulesGiveAPosition position Meets → (pool : Pool N) (number : ℕ) (node : N) → IsPool position Formed Meets pool → slice_get pool.nodes number ≡ Some node
    → IsPositionOf pool.game (position node)
node_position position Formed Meets give pool number node p e =
    give (terms_in pool) (map position (take number pool.nodes)) false node (AreTerms-in position Formed Meets pool p) (p.follow number node e)

-- the positions of the first nodes and of the next one
pub positions_past : {N : Type 0} (position : N → Position) (nodes : List N) (number : ℕ) (node : N) → slice_get nodes number ≡ Some node
    → map position (take number nodes) ++ position node ∷ [] ≡ map position (take (number + 1) nodes)
positions_past position nodes number node e =
    let within = slice_get_within nodes number node e in
    let same : get_or nodes number node ≡ node = same_Some (get_or nodes number node) node (sym (slice_get-get_or nodes number node within) ∙ e) in
    let next : suc number ≡ number + 1 = omega arith in
    sym (map-append position (take number nodes) (node ∷ []))
    ∙ ap (λ x. map position (take number nodes ++ x ∷ [])) (sym same)
    ∙ ap (map position) (sym (take-suc nodes number node within))
    ∙ ap (λ n. map position (take n nodes)) next

-- a root by its position
pub root_from_position : {N : Type 0} (position : N → Position) (nodes : List N) (i : ℕ) (p : Position) → slice_get (map position nodes) i ≡ Some p → IsEmptyPosition p
    → IsRoot position nodes i
root_from_position position nodes i p e empty =
    let node = mapped position (slice_get nodes i) p (sym (slice_get-map position nodes i) ∙ e) in
    (node.0, node.1, subst IsEmptyPosition (sym node.2) empty)
