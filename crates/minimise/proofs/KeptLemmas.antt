-- The nodes that are kept: representatives, each once, each after those to which it leads, the root at the end.
use Rattle.std.proofs.Common.{Some, ◌≡◌, ℕ, ◌+◌, ◌-◌, ◌<◌, ◌≤◌, eqb, List, [], ◌∷◌, ◌++◌, length, map, take, get_or, sym, ap, ◌∙◌, subst, arith}
use Rattle.std.specs.Prelude.{All, Contains, slice_get, slice_index}
use Rattle.std.specs.List.{filter_map, flat_map, IsDistinct}
use Rattle.std.specs.Option.{option_map}
use Rattle.std.proofs.lemmas.Option.{get_or_from_slice_get, slice_get-map}
use Rattle.std.proofs.lemmas.List.{get_or-map, get_or_default, length-map, length_push, get_or_push, get_or-take, length-take-le}
use Rattle.std.proofs.lemmas.List.Elements.{All-contains, All-map, All-weaker}
use Rattle.loads.specs.declared.position.Position.{Position}
use Rattle.minimise.specs.Canonical.{canonical, firsts, kept, leads, new_numbers, place, representatives, walk}
use Rattle.minimise.specs.Nodes.{LeadBack}
use Rattle.minimise.specs.Ordering.{IsOrdered}
use Rattle.minimise.proofs.FirstsLemmas.{All-firsts, Contains-from_take, Contains-map, IsDistinct-firsts}
use Rattle.minimise.proofs.PlaceLemmas.{length-le_below, place-get_or}
use Rattle.minimise.proofs.RepresentativeLemmas.{no_position, Falls-leads, children_below, length-representatives, representative, representative-lt}
use Rattle.minimise.proofs.RepresentativeLemmas.{representative_stays}
use Rattle.minimise.proofs.WalkLemmas.{All-walk, Falls, IsOrdered-nil, visits, walk_ends, walk_enough, walked}

module _ (positions : List Position) (references : List (List ℕ)) where
  -- nodes of which each leads to lower ones alone, at least one
  pub record IsGraph : Type 0 where
    pub one_each : length references ≡ length positions
    pub some : 1 ≤ length positions
    pub back : LeadBack references

  -- the representative of the root
  abbrev pub root : ℕ
  root = representative positions (length positions - 1)

  -- where a node leads
  abbrev pub next : ℕ → List ℕ
  next = leads positions references

  -- the new number of a node
  abbrev pub new_number : ℕ → ℕ
  new_number number = get_or (new_numbers positions references) number 0

  -- the node at a place of the kept ones
  abbrev pub kept_at : ℕ → ℕ
  kept_at k = get_or (kept positions references) k 0

  module _ (graph : IsGraph) where
    pub falls : Falls next
    falls = Falls-leads positions references (omega (arith, graph.one_each)) graph.back

    last_number : length positions - 1 < length positions
    last_number = omega (arith, graph.some)

    pub root-lt : root < length positions
    root-lt = representative-lt positions (length positions - 1) last_number

    -- the kept nodes are those that a walk visits, each at its first visit
    pub kept_are_visited : kept positions references ≡ firsts (visits next falls root)
    unfolding kept
    kept_are_visited = ap firsts (walk_enough next falls (length positions) (root + 1) root root-lt (omega arith))

    pub IsDistinct-kept : IsDistinct eqb (kept positions references)
    unfolding kept
    IsDistinct-kept = IsDistinct-firsts (walk next (length positions) root)

    -- a representative below the number of nodes
    pub record IsRepresentative (number : ℕ) : Type 0 where
      pub within : number < length positions
      pub stays : representative positions number ≡ number

    representatives_lead : (number : ℕ) → IsRepresentative number → All IsRepresentative (next number)
    unfolding leads
    representatives_lead number h =
        All-map IsRepresentative (representative positions) (get_or references number [])
        (λ k d l.
        let below = children_below references number graph.back k d l in
        let child : ℕ = get_or (get_or references number []) k d in
        let here : child < length positions = omega (arith, below, h.within) in
        record { within = representative-lt positions child here; stays = representative_stays positions child here })

    is_root : IsRepresentative root
    is_root = record { within = root-lt; stays = representative_stays positions (length positions - 1) last_number }

    pub kept_are_representatives : All IsRepresentative (kept positions references)
    unfolding kept
    kept_are_representatives =
        All-firsts IsRepresentative (walk next (length positions) root)
        (All-walk next falls IsRepresentative representatives_lead (length positions) root is_root)

    pub kept-below : All (λ number. number < length positions) (kept positions references)
    kept-below =
        All-weaker IsRepresentative (λ number. number < length positions) (λ number h. h.within) (kept positions references) kept_are_representatives

    pub length-kept : length (kept positions references) ≤ length positions
    length-kept = length-le_below (kept positions references) (length positions) IsDistinct-kept kept-below

    pub IsOrdered-kept : IsOrdered next (kept positions references)
    unfolding kept
    IsOrdered-kept = walked next falls (length positions) root [] root-lt (IsOrdered-nil next falls)

    -- where a kept node leads is kept
    pub kept_lead : (number : ℕ) → Contains (kept positions references) number → All (Contains (kept positions references)) (next number)
    kept_lead number c =
        let numbers = kept positions references in
        let at : get_or numbers c.0 0 ≡ number = get_or_default numbers c.0 0 number c.1 ∙ c.2 in
        All-weaker (Contains (take c.0 numbers)) (Contains numbers) (λ x h. Contains-from_take c.0 numbers x h) (next number)
        (subst (λ n. All (Contains (take c.0 numbers)) (next n)) at (IsOrdered-kept c.0 c.1))

    -- the kept nodes before the root
    abbrev pub before_root : List ℕ
    before_root = firsts (flat_map (visits next falls) (next root))

    pub kept_end : kept positions references ≡ before_root ++ root ∷ []
    kept_end = kept_are_visited ∙ walk_ends next falls root

    pub some_kept : 1 ≤ length (kept positions references)
    some_kept = omega (arith, ap length kept_end, length_push before_root root)

    pub last_kept : get_or (kept positions references) (length (kept positions references) - 1) 0 ≡ root
    last_kept =
        let number : length (kept positions references) - 1 ≡ length before_root = omega (arith, ap length kept_end, length_push before_root root) in
        ap (λ list. get_or list (length (kept positions references) - 1) 0) kept_end ∙ get_or_push before_root root 0 (length (kept positions references) - 1) (sym number)

    -- ---- the new numbers

    pub new_number_is : (number : ℕ) → number < length positions → new_number number ≡ place (representative positions number) (kept positions references)
    new_number_is number l =
        get_or-map (λ r. place r (kept positions references)) (representatives positions) number 0 0 (omega (arith, length-representatives positions, l))

    pub kept_at-lt : (k : ℕ) → k < length (kept positions references) → kept_at k < length positions
    kept_at-lt k l = kept-below k 0 l

    -- a reference of a kept node is to a kept node before it, at the place of its new number
    pub leads_before : (k child : ℕ) → k < length (kept positions references) → Contains (get_or references (kept_at k) []) child
        → (child < kept_at k) × Contains (take k (kept positions references)) (representative positions child)
    unfolding leads
    leads_before k child l c =
        let below = All-contains (λ x. x < kept_at k) (get_or references (kept_at k) []) child (children_below references (kept_at k) graph.back) c in (
          below,
          All-contains (Contains (take k (kept positions references))) (next (kept_at k)) (representative positions child) (IsOrdered-kept k l)
              (Contains-map (representative positions) (get_or references (kept_at k) []) child c),
        )

    pub new_number_before : (k child : ℕ) → k < length (kept positions references) → Contains (get_or references (kept_at k) []) child
        → (new_number child < k) × (kept_at (new_number child) ≡ representative positions child)
    new_number_before k child l c =
        let numbers = kept positions references in
        let h = leads_before k child l c in
        let within : child < length positions = omega (arith, h.0, kept_at-lt k l) in
        let r : ℕ = representative positions child in
        let cut = length-take-le k numbers (omega (arith, l)) in
        let at : get_or numbers h.1.0 0 ≡ r =
        get_or_default numbers h.1.0 0 r (omega (arith, h.1.1, cut, l)) ∙ sym (get_or-take k numbers h.1.0 r (omega (arith, h.1.1, cut))) ∙ h.1.2 in
        let found : place r numbers ≡ h.1.0 =
        ap (λ x. place x numbers) (sym at) ∙ place-get_or numbers h.1.0 0 IsDistinct-kept (omega (arith, h.1.1, cut, l)) in
        let is : new_number child ≡ h.1.0 = new_number_is child within ∙ found in
        (omega (arith, is, h.1.1, cut), ap (λ n. get_or numbers n 0) is ∙ at)

    -- a representative that is kept has its place as its new number
    pub new_number_of_kept : (k : ℕ) → k < length (kept positions references) → new_number (kept_at k) ≡ k
    new_number_of_kept k l =
        new_number_is (kept_at k) (kept_at-lt k l)
        ∙ ap (λ x. place x (kept positions references)) ((kept_are_representatives k 0 l).stays)
        ∙ place-get_or (kept positions references) k 0 IsDistinct-kept l

-- nodes of any kind whose references are to nodes before them
pub graph_of : {N : Type 0} (position_of : N → Position) (references_of : N → List ℕ) (nodes : List N) → 1 ≤ length nodes
    → LeadBack (map references_of nodes) → IsGraph (map position_of nodes) (map references_of nodes)
graph_of position_of references_of nodes some back = record {
  one_each = length-map nodes references_of ∙ sym (length-map nodes position_of);
  some = omega (arith, some, length-map nodes position_of);
  back = back;
}

-- the position of the last node
pub position_of_last : {N : Type 0} (position_of : N → Position) (nodes : List N) (node : N) → slice_get nodes (length nodes - 1) ≡ Some node
    → get_or (map position_of nodes) (length (map position_of nodes) - 1) no_position ≡ position_of node
position_of_last position_of nodes node e =
    ap (λ n. get_or (map position_of nodes) (n - 1) no_position) (length-map nodes position_of)
    ∙ get_or_from_slice_get (map position_of nodes) (length nodes - 1) (position_of node) no_position
    (slice_get-map position_of nodes (length nodes - 1) ∙ ap (option_map position_of) e)

-- ---- the canonical form from its parts

pub canonical_from : {N : Type 0} (position_of : N → Position) (references_of : N → List ℕ) (renamed : (ℕ → ℕ) → N → N) (nodes : List N)
    (graph : IsGraph (map position_of nodes) (map references_of nodes)) (least numbers order : List ℕ) (start : ℕ)
    → least ≡ representatives (map position_of nodes) → start ≡ get_or least (length nodes - 1) 0
    → order ≡ firsts ([] ++ walk (leads (map position_of nodes) (map references_of nodes)) (start + 1) start)
    → numbers ≡ map (λ number. place number order) least
    → map (renamed (slice_index numbers)) (filter_map (slice_get nodes) order) ≡ canonical position_of references_of renamed nodes
canonical_from position_of references_of renamed nodes graph least numbers order start e s o n =
    let positions = map position_of nodes in
    let references = map references_of nodes in
    let at : start ≡ root positions references =
    s ∙ ap (λ list. get_or list (length nodes - 1) 0) e ∙ ap (λ k. get_or (representatives positions) (k - 1) 0) (sym (length-map nodes position_of)) in
    let all : order ≡ kept positions references = o ∙ ap (λ k. firsts (walk (leads positions references) (k + 1) k)) at ∙ sym (kept_are_visited positions references graph) in
    let new : numbers ≡ new_numbers positions references =
    n ∙ ap (λ list. map (λ number. place number list) least) all ∙ ap (map (λ number. place number (kept positions references))) e in
    ap (λ list. map (renamed (slice_index list)) (filter_map (slice_get nodes) order)) new
    ∙ ap (λ list. map (renamed (slice_index (new_numbers positions references))) (filter_map (slice_get nodes) list)) all
