-- Nodes of any kind: their references, and copies of them one after another.
use Rattle.std.proofs.Common.{◌≡◌, ℕ, zero, suc, ◌+◌, ◌<◌, Option, Some, None, List, [], ◌∷◌, ◌++◌, length, map, take, get_or, refl, sym, ap, ◌∙◌}
use Rattle.std.proofs.Common.{subst, arith}
use Rattle.std.specs.Prelude.{All, Contains, IfSome, slice_get, slice_index}
use Rattle.std.specs.List.{filter_map, cons_option}
use Rattle.std.specs.Option.{option_map}
use Rattle.std.proofs.lemmas.List.{get_or-map, get_or_default, length-map, map-append, map_more, take_more}
use Rattle.std.proofs.lemmas.List.Elements.{All-nil, All-cons, All-head, All-tail, filter_map-append}
use Rattle.std.proofs.lemmas.Option.{slice_get-map, slice_get_read}
use Rattle.loads.specs.declared.position.Position.{Position}
use Rattle.minimise.specs.Canonical.{leads, representatives}
use Rattle.minimise.specs.Nodes.{LeadBack}
use Rattle.minimise.proofs.RepresentativeLemmas.{Falls-leads, length-representatives, representative-lt}
use Rattle.minimise.proofs.WalkLemmas.{Falls}

-- ---- lists

pub filter_map_more : {X Y : Type 0} (h : X → Option Y) (xs : List X) (i : ℕ) (d : X) → i < length xs
    → filter_map h (take (i + 1) xs) ≡ filter_map h (take i xs) ++ cons_option (h (get_or xs i d)) []
filter_map_more h xs i d l = ap (filter_map h) (take_more xs i d l) ∙ filter_map-append h (take i xs) (get_or xs i d ∷ [])

first_given : {X : Type 0} (P : X → Type 0) (o : Option X) (xs : List X) → All P (cons_option o xs) → IfSome o P × All P xs
first_given P None xs h = (tt, h)
first_given P (Some x) xs h = (All-head P x xs h, All-tail P x xs h)

pub filter_map_at : {X Y : Type 0} (P : Y → Type 0) (h : X → Option Y) (xs : List X) (i : ℕ) (d : X) → i < length xs → All P (filter_map h xs)
    → IfSome (h (get_or xs i d)) P
filter_map_at P h [] i d l all = absurd (omega arith)
filter_map_at P h (x ∷ xs) zero d l all = (first_given P (h x) (filter_map h xs) all).0
filter_map_at P h (x ∷ xs) (suc i) d l all = filter_map_at P h xs i d (omega arith) (first_given P (h x) (filter_map h xs) all).1

given_first : {X : Type 0} (P : X → Type 0) (o : Option X) (xs : List X) → IfSome o P → All P xs → All P (cons_option o xs)
given_first P None xs h all = all
given_first P (Some x) xs h all = All-cons P x xs h all

pub All-filter_map : {X Y : Type 0} (P : Y → Type 0) (h : X → Option Y) (xs : List X) → All (λ x. IfSome (h x) P) xs → All P (filter_map h xs)
All-filter_map P h [] all = All-nil P
All-filter_map {X} P h (x ∷ xs) all =
    let Q = λ (y : X). IfSome (h y) P in
    given_first P (h x) (filter_map h xs) (All-head Q x xs all) (All-filter_map P h xs (All-tail Q x xs all))

contains_given : {X : Type 0} (o : Option X) (xs : List X) (y : X) → Contains xs y → Contains (cons_option o xs) y
contains_given None xs y c = c
contains_given (Some x) xs y c = (suc c.0, omega (arith, c.1), c.2)

pub Contains-filter_map : {X Y : Type 0} (h : X → Option Y) (xs : List X) (k : ℕ) (d : X) (y : Y) → k < length xs → h (get_or xs k d) ≡ Some y
    → Contains (filter_map h xs) y
Contains-filter_map h [] k d y l e = absurd (omega arith)
Contains-filter_map h (x ∷ xs) zero d y l e =
    subst (λ o. Contains (cons_option o (filter_map h xs)) y) (sym e) (0, omega arith, refl)
Contains-filter_map h (x ∷ xs) (suc k) d y l e = contains_given (h x) (filter_map h xs) y (Contains-filter_map h xs k d y (omega arith) e)

pub map_at : {X Y : Type 0} (P : Y → Type 0) (f : X → Y) (xs : List X) (i : ℕ) (d : X) → i < length xs → All P (map f xs) → P (f (get_or xs i d))
map_at P f xs i d l all = subst P (get_or-map f xs i d (f d) l) (all i (f d) (omega (arith, l, length-map xs f)))

-- one more value at the end of a list that a function makes of another
pub mapped_more : {X Y : Type 0} (f : X → Y) (xs : List X) (made after : List Y) (i : ℕ) (d : X) (y : Y) → i < length xs
    → made ≡ map f (take i xs) → y ≡ f (get_or xs i d) → after ≡ made ++ y ∷ [] → after ≡ map f (take (i + 1) xs)
mapped_more f xs made after i d y l so_far is put =
    put ∙ ap (λ ys. ys ++ y ∷ []) so_far ∙ ap (λ z. map f (take i xs) ++ z ∷ []) is ∙ sym (map_more f xs i d l)

-- ---- nodes

module _ {N : Type 0} (references_of : N → List ℕ) (nodes : List N) where
  pub references_at : (number : ℕ) (node : N) → number < length nodes → node ≡ get_or nodes number node
      → slice_get (map references_of nodes) number ≡ Some (references_of node)
  references_at number node l is =
      slice_get-map references_of nodes number ∙ ap (option_map references_of) (slice_get_read nodes (length nodes) number node refl l is)

  -- the references of a node are to nodes before it
  pub node_leads_back : (number : ℕ) (node : N) → LeadBack (map references_of nodes) → number < length nodes → node ≡ get_or nodes number node
      → All (λ child. child < number) (references_of node)
  node_leads_back number node back l is = back number (references_of node) (references_at number node l is)

  module _ (position_of : N → Position) where
    pub Falls-nodes : LeadBack (map references_of nodes) → Falls (leads (map position_of nodes) (map references_of nodes))
    Falls-nodes back =
        Falls-leads (map position_of nodes) (map references_of nodes) (omega (arith, length-map nodes position_of, length-map nodes references_of)) back

    pub leads_of_node : (number : ℕ) (node : N) → number < length nodes → node ≡ get_or nodes number node
        → leads (map position_of nodes) (map references_of nodes) number ≡ map (slice_index (representatives (map position_of nodes))) (references_of node)
    unfolding leads
    leads_of_node number node l is =
        ap (map (slice_index (representatives (map position_of nodes)))) (
        get_or-map references_of nodes number node [] l
        ∙ ap references_of (sym is)
        )

    pub length-leads : (number : ℕ) (node : N) → number < length nodes → node ≡ get_or nodes number node
        → length (leads (map position_of nodes) (map references_of nodes) number) ≡ length (references_of node)
    length-leads number node l is =
        ap length (leads_of_node number node l is) ∙ length-map (references_of node) (slice_index (representatives (map position_of nodes)))

    -- the representative of a reference is where the node leads
    pub lead_at : (number k : ℕ) (node : N) (least references : List ℕ) → number < length nodes → node ≡ get_or nodes number node
        → least ≡ representatives (map position_of nodes) → references ≡ references_of node → k < length references
        → get_or least (get_or references k 0) 0 ≡ get_or (leads (map position_of nodes) (map references_of nodes) number) k 0
    lead_at number k node least references l is e h within =
        ap (λ list. get_or list (get_or references k 0) 0) e
        ∙ sym (get_or-map (slice_index (representatives (map position_of nodes))) references k 0 0 within)
        ∙ ap (λ list. get_or (map (slice_index (representatives (map position_of nodes))) list) k 0) h
        ∙ ap (λ list. get_or list k 0) (sym (leads_of_node number node l is))

  -- one more node of these numbers, renamed
  pub renamed_more : (renamed : N → N) (numbers : List ℕ) (made after : List N) (i number : ℕ) (node : N) → i < length numbers
      → number ≡ get_or numbers i 0 → number < length nodes → node ≡ get_or nodes number node
      → made ≡ map renamed (filter_map (slice_get nodes) (take i numbers)) → after ≡ made ++ renamed node ∷ []
      → after ≡ map renamed (filter_map (slice_get nodes) (take (i + 1) numbers))
  renamed_more renamed numbers made after i number node l at within is so_far put =
      let found : slice_get nodes (get_or numbers i 0) ≡ Some node = ap (slice_get nodes) (sym at) ∙ slice_get_read nodes (length nodes) number node refl within is in
      put
      ∙ ap (λ list. list ++ renamed node ∷ []) so_far
      ∙ sym (map-append renamed (filter_map (slice_get nodes) (take i numbers)) (node ∷ []))
      ∙ ap (λ o. map renamed (filter_map (slice_get nodes) (take i numbers) ++ cons_option o [])) (sym found)
      ∙ ap (map renamed) (sym (filter_map_more (slice_get nodes) numbers i 0 l))

pub All-representatives : (positions : List Position) → All (λ number. number < length positions) (representatives positions)
All-representatives positions k d l =
    let within : k < length positions = omega (arith, l, length-representatives positions) in
    subst (λ n. n < length positions) (get_or_default (representatives positions) k 0 d l) (representative-lt positions k within)
