-- Nodes of any kind that agree have one canonical form.
use Rattle.std.proofs.Common.{◌≡◌, ℕ, ◌+◌, ◌-◌, ◌<◌, eqb, Some, List, [], length, map, get_or, sym, ap, ◌∙◌, subst, arith}
use Rattle.std.specs.Prelude.{All, Contains, slice_get, slice_index}
use Rattle.std.specs.List.{position_or_len}
use Rattle.std.proofs.lemmas.List.{get_or-map, length-map, same_lists}
use Rattle.std.proofs.lemmas.List.Elements.{All-contains, All-contains_itself, All-weaker, Contains-get_or}
use Rattle.std.proofs.lemmas.Option.{get_or_from_slice_get, slice_get-get_or, slice_get_within}
use Rattle.std.proofs.lemmas.Simd.{map-map}
use Rattle.loads.specs.Position.{are_equal}
use Rattle.loads.specs.Position.{IsEmptyPosition}
use Rattle.loads.specs.declared.position.Position.{Position}
use Rattle.minimise.specs.Agree.{Agree}
use Rattle.minimise.specs.Canonical.{canonical, firsts, kept, leads, new_numbers, place, representatives, walk}
use Rattle.minimise.proofs.FirstsLemmas.{Contains-firsts, Contains-map, IsInjectiveOn, eqb-injective, firsts-map}
use Rattle.minimise.proofs.FormLemmas.{distinct_positions, form_at, form_is, kept_within, last_position, length-form, map_alike, positions_of_form}
use Rattle.minimise.proofs.KeptLemmas.{IsGraph, falls, kept_at, kept_at-lt, leads_before, new_number_before, some_kept, kept-below}
use Rattle.minimise.proofs.KeptLemmas.{kept_are_representatives, kept_are_visited, kept_lead, new_number_is, next, root}
use Rattle.minimise.proofs.PlaceLemmas.{get_or-place, place-lt, place-map}
use Rattle.minimise.proofs.RepresentativeLemmas.{children_below, length-representatives, no_position, one_representative, position_at}
use Rattle.minimise.proofs.RepresentativeLemmas.{position_of_representative, representative, representative-lt, representative_is}
use Rattle.minimise.proofs.WalkLemmas.{visits, walk-itself, walk-map, walk_enough}

module _ {N : Type 0} (position_of : N → Position) (references_of : N → List ℕ) (renamed : (ℕ → ℕ) → N → N)
    (keeps : (name : ℕ → ℕ) (node : N) → position_of (renamed name node) ≡ position_of node)
    (renames : (name : ℕ → ℕ) (node : N) → references_of (renamed name node) ≡ map name (references_of node))
    (twice : (name again : ℕ → ℕ) (node : N) → renamed again (renamed name node) ≡ renamed (λ child. again (name child)) node)
    (alike : (name another : ℕ → ℕ) (node : N) → All (λ child. name child ≡ another child) (references_of node) → renamed name node ≡ renamed another node)
    (one other : List N) (graph : IsGraph (map position_of one) (map references_of one))
    (another : IsGraph (map position_of other) (map references_of other)) (d : N)
    (roots : get_or (map position_of one) (length (map position_of one) - 1) no_position ≡ get_or (map position_of other) (length (map position_of other) - 1) no_position)
    (agree : Agree position_of references_of renamed one other) where
  abbrev ps : List Position
  ps = map position_of one

  abbrev qs : List Position
  qs = map position_of other

  abbrev rs : List (List ℕ)
  rs = map references_of one

  abbrev ss : List (List ℕ)
  ss = map references_of other

  abbrev numbers : List ℕ
  numbers = kept ps rs

  -- the first number of the other nodes that has a position
  abbrev first_at : Position → ℕ
  first_at p = position_or_len (are_equal p) qs

  -- the twin of a node, by its number
  abbrev twin : ℕ → ℕ
  twin k = first_at (position_at ps k)

  abbrev node_at : ℕ → N
  node_at k = get_or one k d

  record IsTwin (k : ℕ) (name : ℕ → ℕ) : Type 0 where
    here : k < length one
    within : twin k < length other
    stays : representative qs (twin k) ≡ twin k
    position : position_at qs (twin k) ≡ position_at ps k
    node : get_or other (twin k) d ≡ renamed name (node_at k)
    leads : All (λ child. slice_get ps child ≡ slice_get qs (name child)) (references_of (node_at k))

  has_twin : (k : ℕ) → Contains numbers k → (name : ℕ → ℕ) × IsTwin k name
  has_twin k c =
      let here : k < length one = omega (arith, All-contains (λ number. number < length ps) numbers k (kept-below ps rs graph) c, length-map one position_of) in
      let h = agree k (node_at k) c (slice_get-get_or one k d here) in
      let within : h.number < length other = slice_get_within other h.number (renamed h.name (node_at k)) h.there in
      let l : h.number < length qs = omega (arith, within, length-map other position_of) in
      let found : get_or other h.number d ≡ renamed h.name (node_at k) = get_or_from_slice_get other h.number (renamed h.name (node_at k)) d h.there in
      let same : position_at qs h.number ≡ position_at ps k =
      get_or-map position_of other h.number d no_position within ∙ ap position_of found ∙ keeps h.name (node_at k)
      ∙ sym (get_or-map position_of one k d no_position here) in
      let stays : representative qs h.number ≡ h.number = get_or_from_slice_get (representatives qs) h.number h.number 0 h.stands in
      let is : twin k ≡ h.number = ap first_at (sym same) ∙ sym (representative_is qs h.number l) ∙ stays in (
        h.name,
        record {
          here = here;
          within = omega (arith, is, within);
          stays = ap (representative qs) is ∙ stays ∙ sym is;
          position = ap (position_at qs) is ∙ same;
          node = ap (λ n. get_or other n d) is ∙ found;
          leads = h.leads;
        },
      )

  -- ---- references

  references_at : (k : ℕ) → k < length one → get_or rs k [] ≡ references_of (node_at k)
  references_at k l = get_or-map references_of one k d [] l

  twin_references : (k : ℕ) (name : ℕ → ℕ) → IsTwin k name → get_or ss (twin k) [] ≡ map name (references_of (node_at k))
  twin_references k name t =
      get_or-map references_of other (twin k) d [] t.within ∙ ap references_of t.node ∙ renames name (node_at k)

  -- a reference leads to the twin of where the renamed one leads
  twin_of_child : (k : ℕ) (name : ℕ → ℕ) → IsTwin k name
      → All (λ child. twin (representative ps child) ≡ representative qs (name child)) (references_of (node_at k))
  twin_of_child k name t i e l =
      let refs = references_of (node_at k) in
      let child : ℕ = get_or refs i e in
      let below = subst (All (λ c. c < k)) (references_at k t.here) (children_below rs k graph.back) in
      let child_lt : child < length ps = omega (arith, below i e l, t.here, length-map one position_of) in
      let c : Contains (map name refs) (name child) = Contains-map name refs child (Contains-get_or refs i e l) in
      let lower = All-contains (λ x. x < twin k) (map name refs) (name child)
      (subst (All (λ x. x < twin k)) (twin_references k name t) (children_below ss (twin k) another.back)) c in
      let name_lt : name child < length qs = omega (arith, lower, t.within, length-map other position_of) in
      let same : position_at ps child ≡ position_at qs (name child) =
      sym (get_or_from_slice_get qs (name child) (position_at ps child) no_position (sym (t.leads i e l) ∙ slice_get-get_or ps child no_position child_lt)) in
      ap first_at (position_of_representative ps child child_lt ∙ same) ∙ sym (representative_is qs (name child) name_lt)

  twin_leads : (k : ℕ) → Contains numbers k → next qs ss (twin k) ≡ map twin (next ps rs k)
  unfolding leads
  twin_leads k c =
      let h = has_twin k c in
      let t = h.1 in
      let refs = references_of (node_at k) in
      ap (map (representative qs)) (twin_references k h.0 t)
      ∙ map-map (representative qs) h.0 refs
      ∙ sym (map_alike (λ child. twin (representative ps child)) (λ child. representative qs (h.0 child)) refs (twin_of_child k h.0 t))
      ∙ sym (map-map twin (representative ps) refs)
      ∙ ap (λ list. map twin (map (representative ps) list)) (sym (references_at k t.here))

  -- ---- the kept nodes

  twin_root : twin (root ps rs) ≡ root qs ss
  twin_root =
      ap first_at (position_of_representative ps (length ps - 1) (omega (arith, graph.some)) ∙ roots)
      ∙ sym (representative_is qs (length qs - 1) (omega (arith, another.some)))

  abbrev visited : List ℕ
  visited = visits (next ps rs) (falls ps rs graph) (root ps rs)

  visited_kept : (k : ℕ) → Contains visited k → Contains numbers k
  visited_kept k c = subst (λ list. Contains list k) (sym (kept_are_visited ps rs graph)) (Contains-firsts k visited c)

  root_kept : Contains numbers (root ps rs)
  root_kept = visited_kept (root ps rs) (walk-itself (next ps rs) (falls ps rs graph) (root ps rs + 1) (root ps rs) (omega arith))

  injective : IsInjectiveOn twin numbers
  injective a b ca cb e =
      let ta = (has_twin a ca).1 in
      let tb = (has_twin b cb).1 in
      let same : position_at ps a ≡ position_at ps b = sym ta.position ∙ ap (position_at qs) e ∙ tb.position in
      let stays = λ (k : ℕ) (c : Contains numbers k). All-contains (λ n. representative ps n ≡ n) numbers k (λ i x l. (kept_are_representatives ps rs graph i x l).stays) c in
      sym (stays a ca)
      ∙ one_representative ps a b (omega (arith, ta.here, length-map one position_of)) (omega (arith, tb.here, length-map one position_of)) same
      ∙ stays b cb

  twin_visits : visits (next qs ss) (falls qs ss another) (root qs ss) ≡ map twin visited
  twin_visits =
      let enough : ℕ = root ps rs + root qs ss + 1 in
      walk_enough (next qs ss) (falls qs ss another) (root qs ss + 1) enough (root qs ss) (omega arith) (omega arith)
      ∙ ap (walk (next qs ss) enough) (sym twin_root)
      ∙ walk-map twin (next ps rs) (next qs ss) (Contains numbers) (kept_lead ps rs graph) twin_leads enough (root ps rs) root_kept
      ∙ ap (map twin) (walk_enough (next ps rs) (falls ps rs graph) enough (root ps rs + 1) (root ps rs) (omega arith) (omega arith))

  twin_kept : kept qs ss ≡ map twin numbers
  twin_kept =
      kept_are_visited qs ss another
      ∙ ap firsts twin_visits
      ∙ firsts-map twin visited (λ a b ca cb. injective a b (visited_kept a ca) (visited_kept b cb))
      ∙ ap (map twin) (sym (kept_are_visited ps rs graph))

  -- ---- the canonical forms

  twin_place : (k : ℕ) → Contains numbers k → place (twin k) (kept qs ss) ≡ place k numbers
  twin_place k c =
      ap (place (twin k)) twin_kept
      ∙ place-map twin k numbers (All-weaker (Contains numbers) (λ y. eqb (twin y) (twin k) ≡ eqb y k)
      (λ y cy. eqb-injective twin numbers y k injective cy c) numbers (All-contains_itself numbers))

  twin_names : (k : ℕ) (c : Contains numbers k) (name : ℕ → ℕ) → IsTwin k name
      → All (λ child. slice_index (new_numbers ps rs) child ≡ slice_index (new_numbers qs ss) (name child)) (references_of (node_at k))
  unfolding leads
  twin_names k c name t i e l =
      let refs = references_of (node_at k) in
      let child : ℕ = get_or refs i e in
      let below = subst (All (λ x. x < k)) (references_at k t.here) (children_below rs k graph.back) in
      let child_lt : child < length ps = omega (arith, below i e l, t.here, length-map one position_of) in
      let lower = All-contains (λ x. x < twin k) (map name refs) (name child)
      (subst (All (λ x. x < twin k)) (twin_references k name t) (children_below ss (twin k) another.back)) (Contains-map name refs child (Contains-get_or refs i e l)) in
      let name_lt : name child < length qs = omega (arith, lower, t.within, length-map other position_of) in
      let leads_there : Contains (next ps rs k) (representative ps child) =
      subst (λ list. Contains (map (representative ps) list) (representative ps child)) (sym (references_at k t.here))
      (Contains-map (representative ps) refs child (Contains-get_or refs i e l)) in
      let is_kept = All-contains (Contains numbers) (next ps rs k) (representative ps child) (kept_lead ps rs graph k c) leads_there in
      new_number_is ps rs graph child child_lt
      ∙ sym (twin_place (representative ps child) is_kept)
      ∙ ap (λ n. place n (kept qs ss)) (twin_of_child k name t i e l)
      ∙ sym (new_number_is qs ss another (name child) name_lt)

  twin_renamed : (k : ℕ) → Contains numbers k
      → renamed (slice_index (new_numbers ps rs)) (node_at k) ≡ renamed (slice_index (new_numbers qs ss)) (get_or other (twin k) d)
  twin_renamed k c =
      let h = has_twin k c in
      let names = slice_index (new_numbers qs ss) in
      alike (slice_index (new_numbers ps rs)) (λ child. names (h.0 child)) (node_at k) (twin_names k c h.0 h.1)
      ∙ sym (twice h.0 names (node_at k))
      ∙ ap (renamed names) (sym h.1.node)

  pub one_form : canonical position_of references_of renamed one ≡ canonical position_of references_of renamed other
  one_form =
      form_is position_of references_of renamed keeps renames one graph d
      ∙ map_alike (λ k. renamed (slice_index (new_numbers ps rs)) (node_at k)) (λ k. renamed (slice_index (new_numbers qs ss)) (get_or other (twin k) d)) numbers
      (All-weaker (Contains numbers) (λ k. renamed (slice_index (new_numbers ps rs)) (node_at k) ≡ renamed (slice_index (new_numbers qs ss)) (get_or other (twin k) d))
      twin_renamed numbers (All-contains_itself numbers))
      ∙ sym (map-map (λ k. renamed (slice_index (new_numbers qs ss)) (get_or other k d)) twin numbers)
      ∙ ap (map (λ k. renamed (slice_index (new_numbers qs ss)) (get_or other k d))) (sym twin_kept)
      ∙ sym (form_is position_of references_of renamed keeps renames other another d)

-- ---- nodes and their canonical form

module _ {N : Type 0} (position_of : N → Position) (references_of : N → List ℕ) (renamed : (ℕ → ℕ) → N → N)
    (keeps : (name : ℕ → ℕ) (node : N) → position_of (renamed name node) ≡ position_of node)
    (renames : (name : ℕ → ℕ) (node : N) → references_of (renamed name node) ≡ map name (references_of node)) (nodes : List N)
    (graph : IsGraph (map position_of nodes) (map references_of nodes)) (d : N) where
  abbrev positions : List Position
  positions = map position_of nodes

  abbrev references : List (List ℕ)
  references = map references_of nodes

  abbrev kept_numbers : List ℕ
  kept_numbers = kept positions references

  abbrev name : ℕ → ℕ
  name = slice_index (new_numbers positions references)

  abbrev form : List N
  form = canonical position_of references_of renamed nodes

  abbrev form_positions : List Position
  form_positions = map position_of form

  form_size : length form_positions ≡ length kept_numbers
  form_size = length-map form position_of ∙ length-form position_of references_of renamed keeps renames nodes graph d

  stands_in_form : (k : ℕ) → k < length kept_numbers → slice_get (representatives form_positions) k ≡ Some k
  stands_in_form k l =
      let within : k < length form_positions = omega (arith, l, form_size) in
      let r : ℕ = representative form_positions k in
      let lower = representative-lt form_positions k within in
      let at = slice_get-get_or form_positions r no_position lower ∙ ap Some (position_of_representative form_positions k within) in
      let same : r ≡ k = distinct_positions position_of references_of renamed keeps renames nodes graph d r k (position_at form_positions k) at
      (slice_get-get_or form_positions k no_position within) in
      slice_get-get_or (representatives form_positions) k 0 (omega (arith, within, length-representatives form_positions)) ∙ ap Some same

  pub form_agrees : Agree position_of references_of renamed nodes form
  form_agrees number node c e =
      let k : ℕ = place number kept_numbers in
      let l : k < length kept_numbers = place-lt number kept_numbers c in
      let at : kept_at positions references k ≡ number = get_or-place number kept_numbers 0 c in
      let is : get_or nodes (kept_at positions references k) d ≡ node = ap (λ n. get_or nodes n d) at ∙ get_or_from_slice_get nodes number node d e in
      record {
        number = k;
        name = name;
        there =
            slice_get-get_or form k d (omega (arith, l, length-form position_of references_of renamed keeps renames nodes graph d))
            ∙ ap Some (form_at position_of references_of renamed keeps renames nodes graph d k d l)
            ∙ ap (λ x. Some (renamed name x)) is;
        stands = stands_in_form k l;
        leads = λ i z m.
            let child : ℕ = get_or (references_of node) i z in
            let listed : get_or references (kept_at positions references k) [] ≡ references_of node =
            get_or-map references_of nodes (kept_at positions references k) d [] (kept_within position_of references_of renamed keeps renames nodes graph d k l)
            ∙ ap references_of is in
            let there = subst (λ list. Contains list child) (sym listed) (Contains-get_or (references_of node) i z m) in
            let before = new_number_before positions references graph k child l there in
            let lower = leads_before positions references graph k child l there in
            let child_lt : child < length positions = omega (arith, lower.0, kept_at-lt positions references graph k l) in
            slice_get-get_or positions child no_position child_lt
            ∙ ap Some (sym (ap (position_at positions) before.1 ∙ position_of_representative positions child child_lt))
            ∙ ap Some (sym (get_or-map (position_at positions) kept_numbers (name child) 0 no_position (omega (arith, before.0, l))))
            ∙ sym (slice_get-get_or (map (position_at positions) kept_numbers) (name child) no_position
            (omega (arith, before.0, l, length-map kept_numbers (position_at positions))))
            ∙ ap (λ list. slice_get list (name child)) (sym (positions_of_form position_of references_of renamed keeps renames nodes graph d));
      }

  pub form_root : get_or positions (length positions - 1) no_position ≡ get_or form_positions (length form_positions - 1) no_position
  form_root =
      let k : ℕ = length kept_numbers - 1 in
      let some = some_kept positions references graph in
      let l : k < length kept_numbers = omega (arith, some) in
      sym (last_position position_of references_of renamed keeps renames nodes graph d k (omega (arith, some)))
      ∙ sym (keeps name (get_or nodes (kept_at positions references k) d))
      ∙ ap position_of (sym (form_at position_of references_of renamed keeps renames nodes graph d k d l))
      ∙ sym (get_or-map position_of form k d no_position (omega (arith, l, length-form position_of references_of renamed keeps renames nodes graph d)))
      ∙ ap (λ n. get_or form_positions (n - 1) no_position) (sym form_size)

-- positions without items, of as many bins whose loads are 0, are equal
pub empty_positions : (one other : Position) (bins : ℕ) → IsEmptyPosition one → IsEmptyPosition other → length one.loads ≡ bins → length other.loads ≡ bins
    → one ≡ other
empty_positions one other bins e f l k =
    let loads : one.loads ≡ other.loads = same_lists one.loads other.loads (l ∙ sym k) (λ i d within. e.loads i d within ∙ sym (f.loads i d (omega (arith, within, l, k)))) in
    let items : one.items ≡ other.items = e.items ∙ sym f.items in
    λ i. record { loads = loads i; items = items i }
