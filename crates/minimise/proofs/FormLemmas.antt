-- The canonical form of nodes of any kind: its nodes, positions and references; its positions are distinct, and each of
-- its nodes is reached from the last.
use Rattle.std.proofs.Common.{◌≡◌, Bool, IsTrue, true, ℕ, ◌+◌, ◌-◌, ◌<◌, ◌≤◌, eqb, Some, List, [], ◌∷◌, length, map, take, get_or, refl, sym, ap, ◌∙◌}
use Rattle.std.proofs.Common.{subst, arith}
use Rattle.std.specs.Prelude.{All, Contains, slice_get, slice_index}
use Rattle.std.specs.List.{filter_map, cons_option}
use Rattle.std.specs.Option.{option_map}
use Rattle.std.proofs.lemmas.Bool.{eqb-true}
use Rattle.std.proofs.lemmas.List.{get_or-map, length-map, take-map, get_or-take, length-take-le}
use Rattle.std.proofs.lemmas.List.Elements.{All-contains, All-head, All-map, All-tail, Contains-get_or}
use Rattle.std.proofs.lemmas.Option.{get_or_from_slice_get, slice_get-get_or, slice_get-map, slice_get_within}
use Rattle.std.proofs.lemmas.Simd.{map-map}
use Rattle.loads.specs.Position.{IsEmptyPosition, StandsAt}
use Rattle.loads.specs.declared.position.Position.{Position}
use Rattle.minimise.specs.Canonical.{canonical, kept, leads, new_numbers, place}
use Rattle.minimise.specs.Reached.{AreDistinct, AreReached, Reaches, further, here}
use Rattle.minimise.proofs.FirstsLemmas.{Contains-from_firsts, Contains-from_take, Contains-map}
use Rattle.minimise.proofs.KeptLemmas.{IsDistinct-kept, IsGraph, falls, kept_are_representatives, kept_are_visited, kept_at, kept_at-lt, kept-below}
use Rattle.minimise.proofs.KeptLemmas.{last_kept, leads_before, length-kept, new_number_before, new_number_is, next, root, some_kept}
use Rattle.minimise.proofs.PlaceLemmas.{get_or-place, place-get_or, place-lt}
use Rattle.minimise.proofs.RepresentativeLemmas.{no_position, one_representative, position_at, position_of_representative, representative}
use Rattle.minimise.proofs.WalkLemmas.{All-walk, visits}

pub map_alike : {X Y : Type 0} (f g : X → Y) (xs : List X) → All (λ x. f x ≡ g x) xs → map f xs ≡ map g xs
map_alike f g [] h = refl
map_alike {X} {Y} f g (x ∷ xs) h =
    let Alike = λ (y : X). f y ≡ g y in
    ap (λ z. z ∷ map f xs) (All-head Alike x xs h) ∙ ap (λ zs. g x ∷ zs) (map_alike f g xs (All-tail Alike x xs h))

-- elements at numbers that a list has
nodes_at : {N : Type 0} (nodes : List N) (numbers : List ℕ) (d : N) → All (λ number. number < length nodes) numbers
    → filter_map (slice_get nodes) numbers ≡ map (λ number. get_or nodes number d) numbers
nodes_at nodes [] d h = refl
nodes_at nodes (number ∷ numbers) d h =
    let Within = λ (k : ℕ). k < length nodes in
    ap (λ o. cons_option o (filter_map (slice_get nodes) numbers)) (slice_get-get_or nodes number d (All-head Within number numbers h))
    ∙ ap (λ list. get_or nodes number d ∷ list) (nodes_at nodes numbers d (All-tail Within number numbers h))

slice_get_before : {X : Type 0} (xs : List X) (k i : ℕ) (d : X) → i < k → k ≤ length xs → slice_get (take k xs) i ≡ Some (get_or xs i d)
slice_get_before xs k i d l within =
    slice_get-get_or (take k xs) i d (omega (arith, l, length-take-le k xs within)) ∙ ap Some (get_or-take k xs i d l)

-- one step more
reaches_further : (references : List (List ℕ)) (from number child : ℕ) (children : List ℕ) → Reaches references from number
    → slice_get references number ≡ Some children → Contains children child → Reaches references from child
reaches_further references from number child children (here same) e c = further same child child children e c (here child)
reaches_further references from number child children (further first second last others f d rest) e c =
    further first second child others f d (reaches_further references second last child children rest e c)

module _ {N : Type 0} (position_of : N → Position) (references_of : N → List ℕ) (renamed : (ℕ → ℕ) → N → N)
    (keeps : (name : ℕ → ℕ) (node : N) → position_of (renamed name node) ≡ position_of node)
    (renames : (name : ℕ → ℕ) (node : N) → references_of (renamed name node) ≡ map name (references_of node)) (nodes : List N)
    (graph : IsGraph (map position_of nodes) (map references_of nodes)) (d : N) where
  abbrev positions : List Position
  positions = map position_of nodes

  abbrev references : List (List ℕ)
  references = map references_of nodes

  abbrev numbers : List ℕ
  numbers = kept positions references

  abbrev name : ℕ → ℕ
  name = slice_index (new_numbers positions references)

  -- the canonical form
  abbrev form : List N
  form = canonical position_of references_of renamed nodes

  below : All (λ number. number < length nodes) numbers
  below = subst (λ n. All (λ number. number < n) numbers) (length-map nodes position_of) (kept-below positions references graph)

  -- the node at a place of the kept ones
  abbrev pub node_at : ℕ → N
  node_at k = get_or nodes (kept_at positions references k) d

  pub form_is : form ≡ map (λ number. renamed name (get_or nodes number d)) numbers
  form_is = ap (map (renamed name)) (nodes_at nodes numbers d below) ∙ map-map (renamed name) (λ number. get_or nodes number d) numbers

  pub length-form : length form ≡ length numbers
  length-form = ap length form_is ∙ length-map numbers (λ number. renamed name (get_or nodes number d))

  pub form_at : (k : ℕ) (e : N) → k < length numbers → get_or form k e ≡ renamed name (node_at k)
  form_at k e l = ap (λ list. get_or list k e) form_is ∙ get_or-map (λ number. renamed name (get_or nodes number d)) numbers k 0 e l

  pub form_node : (k : ℕ) (node : N) → slice_get form k ≡ Some node → (k < length numbers) × (node ≡ renamed name (node_at k))
  form_node k node e =
      let within : k < length numbers = omega (arith, slice_get_within form k node e, length-form) in
      (within, sym (get_or_from_slice_get form k node d e) ∙ form_at k d within)

  pub kept_within : (k : ℕ) → k < length numbers → kept_at positions references k < length nodes
  kept_within k l = omega (arith, kept_at-lt positions references graph k l, length-map nodes position_of)

  -- ---- positions

  position_at_node : (number : ℕ) → number < length nodes → position_of (get_or nodes number d) ≡ position_at positions number
  position_at_node number l = sym (get_or-map position_of nodes number d no_position l)

  pub positions_of_form : map position_of form ≡ map (position_at positions) numbers
  positions_of_form =
      ap (map position_of) form_is
      ∙ map-map position_of (λ number. renamed name (get_or nodes number d)) numbers
      ∙ map_alike (λ number. position_of (renamed name (get_or nodes number d))) (position_at positions) numbers
      (λ k e l. keeps name (get_or nodes (get_or numbers k e) d) ∙ position_at_node (get_or numbers k e) (below k e l))

  position_in_form : (k : ℕ) (position : Position) → slice_get (map position_of form) k ≡ Some position
      → (k < length numbers) × (position ≡ position_at positions (kept_at positions references k))
  position_in_form k position e =
      let at = sym (ap (λ list. slice_get list k) positions_of_form) ∙ e in
      let within : k < length numbers = omega (arith, slice_get_within (map (position_at positions) numbers) k position at, length-map numbers (position_at positions)) in
      (within, sym (get_or_from_slice_get (map (position_at positions) numbers) k position no_position at) ∙ get_or-map (position_at positions) numbers k 0 no_position within)

  -- no position stands at two numbers
  pub distinct_positions : AreDistinct (map position_of form)
  distinct_positions k j position ek ej =
      let one = position_in_form k position ek in
      let other = position_in_form j position ej in
      let a : ℕ = kept_at positions references k in
      let b : ℕ = kept_at positions references j in
      let same : position_at positions a ≡ position_at positions b = sym one.1 ∙ other.1 in
      let equal : a ≡ b =
      sym ((kept_are_representatives positions references graph k 0 one.0).stays)
      ∙ one_representative positions a b (kept_at-lt positions references graph k one.0) (kept_at-lt positions references graph j other.0) same
      ∙ (kept_are_representatives positions references graph j 0 other.0).stays in
      sym (place-get_or numbers k 0 (IsDistinct-kept positions references graph) one.0)
      ∙ ap (λ x. place x numbers) equal
      ∙ place-get_or numbers j 0 (IsDistinct-kept positions references graph) other.0

  -- ---- references

  references_at_kept : (k : ℕ) → k < length numbers → get_or references (kept_at positions references k) [] ≡ references_of (node_at k)
  references_at_kept k l = get_or-map references_of nodes (kept_at positions references k) d [] (kept_within k l)

  pub references_of_form : (k : ℕ) → k < length numbers → slice_get (map references_of form) k ≡ Some (map name (references_of (node_at k)))
  references_of_form k l =
      slice_get-map references_of form k
      ∙ ap (option_map references_of) (slice_get-get_or form k d (omega (arith, l, length-form)))
      ∙ ap (λ node. Some (references_of node)) (form_at k d l)
      ∙ ap Some (renames name (node_at k))

  -- where a reference of a node leads, the new reference leads too, among the nodes before
  pub form_leads : (k child : ℕ) (position : Position) → k < length numbers → Contains (references_of (node_at k)) child
      → slice_get positions child ≡ Some position → StandsAt (map position_of (take k form)) (name child) position
  form_leads k child position l c e =
      let c' = subst (λ list. Contains list child) (sym (references_at_kept k l)) c in
      let before = new_number_before positions references graph k child l c' in
      let all = map (position_at positions) numbers in
      let within = leads_before positions references graph k child l c' in
      let child_lt : child < length positions = slice_get_within positions child position e in
      let is : position_at positions (kept_at positions references (name child)) ≡ position =
      ap (position_at positions) before.1 ∙ position_of_representative positions child child_lt ∙ get_or_from_slice_get positions child position no_position e in
      ap (λ list. slice_get list (name child)) (sym (take-map position_of k form) ∙ ap (take k) positions_of_form)
      ∙ slice_get_before all k (name child) no_position before.0 (omega (arith, l, length-map numbers (position_at positions)))
      ∙ ap Some (get_or-map (position_at positions) numbers (name child) 0 no_position (omega (arith, before.0, l)) ∙ is)

  -- ---- the last node

  pub last_position : (k : ℕ) → k + 1 ≡ length numbers → position_of (node_at k) ≡ position_at positions (length positions - 1)
  last_position k e =
      let l : k < length numbers = omega (arith, e) in
      let number : k ≡ length numbers - 1 = omega (arith, e) in
      position_at_node (kept_at positions references k) (kept_within k l)
      ∙ ap (λ n. position_at positions (kept_at positions references n)) number
      ∙ ap (position_at positions) (last_kept positions references graph)
      ∙ position_of_representative positions (length positions - 1) (omega (arith, graph.some))

  -- ---- each node is reached

  abbrev links : List (List ℕ)
  links = map references_of form

  abbrev last : ℕ
  last = length links - 1

  length-links : length links ≡ length numbers
  length-links = length-map form references_of ∙ length-form

  record IsFound (number : ℕ) : Type 0 where
    kept : Contains numbers number
    reached : Reaches links last (place number numbers)

  found_at : (k : ℕ) → k < length numbers → IsFound (kept_at positions references k) → Reaches links last k
  found_at k l h = subst (Reaches links last) (place-get_or numbers k 0 (IsDistinct-kept positions references graph) l) h.reached

  found_next : (number : ℕ) → IsFound number → All IsFound (next positions references number)
  unfolding leads
  found_next number h =
      let k : ℕ = place number numbers in
      let l : k < length numbers = place-lt number numbers h.kept in
      let at : kept_at positions references k ≡ number = get_or-place number numbers 0 h.kept in
      let refs = get_or references number [] in
      let refs_are : refs ≡ references_of (node_at k) = ap (λ n. get_or references n []) (sym at) ∙ references_at_kept k l in
      All-map IsFound (representative positions) refs (λ j e m.
      let child : ℕ = get_or refs j e in
      let c : Contains (get_or references (kept_at positions references k) []) child = subst (λ n. Contains (get_or references n []) child) (sym at) (Contains-get_or refs j e m) in
      let before = leads_before positions references graph k child l c in
      let new = new_number_before positions references graph k child l c in
      let is_kept : Contains numbers (representative positions child) = Contains-from_take k numbers (representative positions child) before.1 in
      let place_is : place (representative positions child) numbers ≡ name child =
      sym (new_number_is positions references graph child (omega (arith, before.0, kept_at-lt positions references graph k l))) in
      let listed = subst (λ list. Contains list child) refs_are (Contains-get_or refs j e m) in
      let c' : Contains (map name (references_of (node_at k))) (name child) = Contains-map name (references_of (node_at k)) child listed in
      record {
        kept = is_kept;
        reached = subst (Reaches links last) (sym place_is)
            (reaches_further links last k (name child) (map name (references_of (node_at k))) h.reached (references_of_form k l) c');
      })

  last_found : IsFound (root positions references)
  last_found =
      let k : ℕ = length numbers - 1 in
      let some = some_kept positions references graph in
      let l : k < length numbers = omega (arith, some) in
      let at = last_kept positions references graph in
      let where_it_is : place (root positions references) numbers ≡ last =
      ap (λ x. place x numbers) (sym at) ∙ place-get_or numbers k 0 (IsDistinct-kept positions references graph) l ∙ omega (arith, length-links) in
      record {
        kept = subst (Contains numbers) at (Contains-get_or numbers k 0 l);
        reached = subst (Reaches links last) (sym where_it_is) (here last);
      }

  all_found : All IsFound (visits (next positions references) (falls positions references graph) (root positions references))
  all_found =
      All-walk (next positions references) (falls positions references graph) IsFound found_next (root positions references + 1) (root positions references) last_found

  pub each_reached : AreReached links
  each_reached k l =
      let within : k < length numbers = omega (arith, l, length-links) in
      let number : ℕ = kept_at positions references k in
      let visited = Contains-from_firsts number (visits (next positions references) (falls positions references graph) (root positions references))
      (subst (λ list. Contains list number) (kept_are_visited positions references graph) (Contains-get_or numbers k 0 within)) in
      found_at k within (All-contains IsFound (visits (next positions references) (falls positions references graph) (root positions references)) number all_found visited)

  length-form-le : length form ≤ length nodes
  length-form-le = omega (arith, length-form, length-kept positions references graph, length-map nodes position_of)

  -- ---- rules

  -- an earlier node's position is the one that its number has among all
  stands_among_all : (number child : ℕ) (position : Position) → number < length nodes → StandsAt (map position_of (take number nodes)) child position
      → slice_get positions child ≡ Some position
  stands_among_all number child position l e =
      let at = ap (λ list. slice_get list child) (take-map position_of number nodes) ∙ e in
      let few : number ≤ length positions = omega (arith, l, length-map nodes position_of) in
      let before : child < number = omega (arith, slice_get_within (take number positions) child position at, length-take-le number positions few) in
      slice_get-get_or positions child no_position (omega (arith, before, few))
      ∙ sym (slice_get_before positions number child no_position before few)
      ∙ at

  module _ (Meets : List Position → Bool → N → Type 0)
      (stays : (earlier later : List Position) (last final : Bool) (node : N) → Meets earlier last node
      → ((child : ℕ) (position : Position) → Contains (references_of node) child → StandsAt earlier child position → StandsAt later (name child) position)
      → (IsTrue final → IsEmptyPosition (position_of node)) → Meets later final (renamed name node))
      (met : (k : ℕ) (node : N) → slice_get nodes k ≡ Some node → Meets (map position_of (take k nodes)) (eqb (k + 1) (length nodes)) node)
      (empty : IsEmptyPosition (position_at positions (length positions - 1))) where
    each_meets : (k : ℕ) (node : N) → slice_get form k ≡ Some node → Meets (map position_of (take k form)) (eqb (k + 1) (length form)) node
    each_meets k node e =
        let h = form_node k node e in
        let number : ℕ = kept_at positions references k in
        let within : number < length nodes = kept_within k h.0 in
        let final = eqb (k + 1) (length form) in
        let root = λ (is : final ≡ true).
        let at : k + 1 ≡ length numbers = omega (arith, eqb-true (k + 1) (length form) is, length-form) in
        subst IsEmptyPosition (sym (last_position k at)) empty in
        subst (Meets (map position_of (take k form)) final) (sym h.1)
        (stays (map position_of (take number nodes)) (map position_of (take k form)) (eqb (number + 1) (length nodes)) final (node_at k)
        (met number (node_at k) (slice_get-get_or nodes number d within))
        (λ child position c stands. form_leads k child position h.0 c (stands_among_all number child position within stands))
        root)

  module _ (Formed : N → Type 0) (stays : (node : N) → Formed node → Formed (renamed name node)) (formed : All Formed nodes) where
    each_formed : All Formed form
    each_formed k e l =
        let within : k < length numbers = omega (arith, l, length-form) in
        subst Formed (sym (form_at k e within)) (stays (node_at k) (formed (kept_at positions references k) d (kept_within k within)))

-- what holds of a canonical form of legal nodes
pub record IsForm {N : Type 0} (position_of : N → Position) (references_of : N → List ℕ) (Meets : List Position → Bool → N → Type 0) (Formed : N → Type 0)
    (nodes form : List N) : Type 0 where
  pub some : 1 ≤ length form
  pub few : length form ≤ length nodes
  pub formed : All Formed form
  pub each : (k : ℕ) (node : N) → slice_get form k ≡ Some node → Meets (map position_of (take k form)) (eqb (k + 1) (length form)) node
  pub distinct : AreDistinct (map position_of form)
  pub reached : AreReached (map references_of form)

-- the canonical form of legal nodes
pub legal_form : {N : Type 0} (position_of : N → Position) (references_of : N → List ℕ) (renamed : (ℕ → ℕ) → N → N)
    → ((name : ℕ → ℕ) (node : N) → position_of (renamed name node) ≡ position_of node)
    → ((name : ℕ → ℕ) (node : N) → references_of (renamed name node) ≡ map name (references_of node))
    → (Meets : List Position → Bool → N → Type 0) (Formed : N → Type 0) (nodes : List N) → N
    → IsGraph (map position_of nodes) (map references_of nodes)
    → ((name : ℕ → ℕ) (earlier later : List Position) (last final : Bool) (node : N) → Meets earlier last node
    → ((child : ℕ) (position : Position) → Contains (references_of node) child → StandsAt earlier child position → StandsAt later (name child) position)
    → (IsTrue final → IsEmptyPosition (position_of node)) → Meets later final (renamed name node))
    → ((name : ℕ → ℕ) (node : N) → Formed node → Formed (renamed name node))
    → ((k : ℕ) (node : N) → slice_get nodes k ≡ Some node → Meets (map position_of (take k nodes)) (eqb (k + 1) (length nodes)) node)
    → All Formed nodes → IsEmptyPosition (get_or (map position_of nodes) (length (map position_of nodes) - 1) no_position)
    → IsForm position_of references_of Meets Formed nodes (canonical position_of references_of renamed nodes)
legal_form position_of references_of renamed keeps renames Meets Formed nodes d graph stays formed_stays met formed empty =
    let name = slice_index (new_numbers (map position_of nodes) (map references_of nodes)) in
    record {
      some = omega (
        arith,
        length-form position_of references_of renamed keeps renames nodes graph d,
        some_kept (map position_of nodes) (map references_of nodes) graph,
      );
      few = length-form-le position_of references_of renamed keeps renames nodes graph d;
      formed = each_formed position_of references_of renamed keeps renames nodes graph d Formed (formed_stays name) formed;
      each = each_meets position_of references_of renamed keeps renames nodes graph d Meets (stays name) met empty;
      distinct = distinct_positions position_of references_of renamed keeps renames nodes graph d;
      reached = each_reached position_of references_of renamed keeps renames nodes graph d;
    }
