-- The depth of a node from the depths of the nodes before it.
use Rattle.std.proofs.Common.{◌≡◌, ◌≢◌, ℕ, zero, suc, ◌+◌, ◌-◌, ◌<◌, ◌≤◌, max, List, [], ◌∷◌, ◌++◌, Some, length, get_or, map, take, sum}
use Rattle.std.proofs.Common.{arith, refl, ap, sym, subst, ◌∙◌, inl, inr, ◌⊎◌, ⊎_elim}
use Rattle.std.specs.List.{All, Contains, slice_get}
use Rattle.std.proofs.lemmas.Bool.{cases_lt}
use Rattle.std.proofs.lemmas.List.{length-append, map-append, take_more}
use Rattle.std.proofs.lemmas.List.Elements.{All-contains}
use Rattle.std.proofs.lemmas.Option.{same_Some, slice_get-get_or, slice_get-map}
use Rattle.std.specs.Option.{option_map}
use Rattle.strategy_text.specs.Text.{AnyNode, items_of}
use Rattle.report.specs.Measuring.{most_items, items_along, greatest, depth_by, IsKnown, Leads, LeadsOn, EachLeadsOn, IsMeasured, AreDepths}
use Rattle.report.specs.Walks.{HasWay, Walk, ends, goes_on, IsDepthAt}
use Rattle.report.specs.Ways.{Way, ends_after, goes_to, ways_of}

-- ---- the greatest of a list

pub greatest-append : (x : ℕ) (ys : List ℕ) (y : ℕ) → greatest x (ys ++ y ∷ []) ≡ max (greatest x ys) y
greatest-append x [] y = refl
greatest-append x (z ∷ ys) y = greatest-append (max x z) ys y

-- one more way
pub depth_by_more : {X : Type 0} (way : X → Way) (depths : List ℕ) (xs : List X) (i : ℕ) (x : X) (before along after : ℕ) → i < length xs
    → before ≡ depth_by depths (map way (take i xs)) → along ≡ items_along depths (way (get_or xs i x)) → after ≡ max before along
    → after ≡ depth_by depths (map way (take (i + 1) xs))
depth_by_more way depths xs i x before along after l b e a =
    let y = get_or xs i x in
    let parts : depth_by depths (map way (take (i + 1) xs)) ≡ max (depth_by depths (map way (take i xs))) (items_along depths (way y)) =
    ap (λ ys. depth_by depths (map way ys)) (take_more xs i x l)
    ∙ ap (λ ways. depth_by depths ways) (map-append way (take i xs) (y ∷ []))
    ∙ ap (greatest 0) (map-append (items_along depths) (map way (take i xs)) (way y ∷ []))
    ∙ greatest-append 0 (map (items_along depths) (map way (take i xs))) (items_along depths (way y)) in
    omega (arith, parts, b, e, a)

le-greatest : (x : ℕ) (ys : List ℕ) → x ≤ greatest x ys
le-greatest x [] = omega arith
le-greatest x (y ∷ ys) = omega (arith, le-greatest (max x y) ys)

-- the greatest number along ways is attained, or it is the number from the start
attained : (depths : List ℕ) (x : ℕ) (ways : List Way)
    → (greatest x (map (items_along depths) ways) ≡ x) ⊎ ((way : Way) × Contains ways way × (items_along depths way ≡ greatest x (map (items_along depths) ways)))
attained depths x [] = inl refl
attained depths x (way ∷ ways) =
    let y = items_along depths way in
    let all = greatest (max x y) (map (items_along depths) ways) in
    ⊎_elim
    (λ (here : all ≡ max x y). ⊎_elim
    (λ (l : x < y). inr (way, (0, omega arith, refl), omega (arith, here, l)))
    (λ (l : y ≤ x). inl (omega (arith, here, l))) (cases_lt x y))
    (λ later. inr (later.0, (suc later.1.0, omega (arith, later.1.1), later.1.2), later.2))
    (attained depths (max x y) ways)

along_le : (depths : List ℕ) (x : ℕ) (ways : List Way) (way : Way) → Contains ways way → items_along depths way ≤ greatest x (map (items_along depths) ways)
along_le depths x [] way c = absurd (omega (arith, c.1))
along_le depths x (first ∷ ways) way (zero, l, e) =
    omega (arith, ap (items_along depths) e, le-greatest (max x (items_along depths first)) (map (items_along depths) ways))
along_le depths x (first ∷ ways) way (suc k, l, e) = along_le depths (max x (items_along depths first)) ways way (k, omega (arith, l), e)

-- some way on has as many items as the depth
deepest : (depths : List ℕ) (ways : List Way) → ways ≢ [] → (way : Way) × Contains ways way × (items_along depths way ≡ depth_by depths ways)
deepest depths [] some = absurd (some refl)
deepest depths (way ∷ ways) some =
    ⊎_elim
    (λ none. (way, (0, omega arith, refl), omega (arith, none, along_le depths 0 (way ∷ ways) way (0, omega arith, refl))))
    (λ found. found)
    (attained depths 0 (way ∷ ways))

-- ---- walks from a node

-- a walk ends at its first node, or goes on
walk_on : (nodes : List AnyNode) (number items : ℕ) → Walk nodes number items
    → HasWay nodes number (ends_after items) ⊎ ((child left : ℕ) × HasWay nodes number (goes_to child) × Walk nodes child left × (items ≡ left + 1))
walk_on nodes number items (ends _ _ way) = inl way
walk_on nodes number items (goes_on _ child left way later) = inr (child, left, way, later, refl)

-- the way of a node that is known is among its ways
way_of_node : (nodes : List AnyNode) (number : ℕ) (node : AnyNode) (way : Way) → slice_get nodes number ≡ Some node → HasWay nodes number way → Contains (ways_of node) way
way_of_node nodes number node way e h = subst (λ (n : AnyNode). Contains (ways_of n) way) (same_Some h.0 node (sym h.1 ∙ e)) h.2

-- the walk along one way
along : (nodes : List AnyNode) (depths : List ℕ) (number : ℕ) (node : AnyNode) (way : Way) → AreDepths nodes depths → length depths ≡ number → slice_get nodes number ≡ Some node
    → Contains (ways_of node) way → Leads nodes number (sum (items_of node)) way
    → Walk nodes number (items_along depths way) × (items_along depths way + sum (items_of node) ≤ most_items)
unfolding AreDepths
along nodes depths number node (ends_after items) known long e c leads = (ends number items (node, e, c), leads)
along nodes depths number node (goes_to child) known long e c leads =
    let h = known child leads.1 (omega (arith, long, leads.0)) leads.2 in
    (goes_on number child (get_or depths child 0) (node, e, c) h.depth_at.walk, omega (arith, h.within, leads.3))

pub measured : (nodes : List AnyNode) (depths : List ℕ) (number : ℕ) (node : AnyNode) → AreDepths nodes depths → length depths ≡ number → slice_get nodes number ≡ Some node
    → LeadsOn nodes number node → IsMeasured nodes number (depth_by depths (ways_of node)) node
unfolding AreDepths
measured nodes depths number node known long e leads =
    let far = deepest depths (ways_of node) leads.some in
    let reached = along nodes depths number node far.0 known long e far.1 (All-contains (Leads nodes number (sum (items_of node))) (ways_of node) far.0 leads.each far.1) in
    record {
      depth_at = record {
        walk = subst (λ n. Walk nodes number n) far.2 reached.0;
        greatest = λ items walk. ⊎_elim
            (λ way. along_le depths 0 (ways_of node) (ends_after items) (way_of_node nodes number node (ends_after items) e way))
            (λ on.
            let c = way_of_node nodes number node (goes_to on.0) e on.2 in
            let led = All-contains (Leads nodes number (sum (items_of node))) (ways_of node) (goes_to on.0) leads.each c in
            let h = known on.0 led.1 (omega (arith, long, led.0)) led.2 in
            omega (arith, on.4, h.depth_at.greatest on.1 on.3, along_le depths 0 (ways_of node) (goes_to on.0) c))
            (walk_on nodes number items walk);
      };
      within = omega (arith, far.2, reached.1);
    }

-- each way on is known
known_way : (nodes : List AnyNode) (depths : List ℕ) (number volume : ℕ) (way : Way) → AreDepths nodes depths → length depths ≡ number → Leads nodes number volume way
    → IsKnown depths way
unfolding AreDepths
known_way nodes depths number volume (ends_after items) known long leads = omega (arith, leads)
known_way nodes depths number volume (goes_to child) known long leads =
    let h = known child leads.1 (omega (arith, long, leads.0)) leads.2 in
    (omega (arith, long, leads.0), omega (arith, h.within, leads.3))

pub ways_are_known : (nodes : List AnyNode) (depths : List ℕ) (number : ℕ) (node : AnyNode) → AreDepths nodes depths → length depths ≡ number → LeadsOn nodes number node
    → All (IsKnown depths) (ways_of node)
ways_are_known nodes depths number node known long leads k d l = known_way nodes depths number (sum (items_of node)) _ known long (leads.each k d l)

-- ---- the depths of the first nodes

pub AreDepths-nil : (nodes : List AnyNode) → AreDepths nodes []
unfolding AreDepths
AreDepths-nil nodes number node l e = absurd (omega (arith, l))

push_at : (xs : List ℕ) (x k : ℕ) → (k < length xs) × (get_or (xs ++ x ∷ []) k 0 ≡ get_or xs k 0) ⊎ (length xs ≤ k) × (k ≡ length xs → get_or (xs ++ x ∷ []) k 0 ≡ x)
push_at [] x k = inr (omega arith, λ e. ap (λ i. get_or (x ∷ []) i 0) e)
push_at (y ∷ ys) x zero = inl (omega arith, refl)
push_at (y ∷ ys) x (suc k) =
    ⊎_elim (λ h. inl (omega (arith, h.0), h.1)) (λ h. inr (omega (arith, h.0), λ e. h.1 (omega (arith, e)))) (push_at ys x k)

pub AreDepths-push : (nodes : List AnyNode) (depths : List ℕ) (number depth : ℕ) (node : AnyNode) → AreDepths nodes depths → length depths ≡ number
    → slice_get nodes number ≡ Some node → IsMeasured nodes number depth node → AreDepths nodes (depths ++ depth ∷ [])
unfolding AreDepths
AreDepths-push nodes depths number depth node known long e is k other l f =
    ⊎_elim
    (λ h. subst (λ d. IsMeasured nodes k d other) (sym h.1) (known k other h.0 f))
    (λ h.
    let k_is : k ≡ number = omega (arith, h.0, long, l, length-append depths (depth ∷ [])) in
    let same : node ≡ other = same_Some node other (sym e ∙ ap (slice_get nodes) (sym k_is) ∙ f) in
    subst (λ d. IsMeasured nodes k d other) (sym (h.1 (omega (arith, k_is, long))))
    (subst (λ i. IsMeasured nodes i depth other) (sym k_is) (subst (λ (n : AnyNode). IsMeasured nodes number depth n) same is)))
    (push_at depths depth k)

last_depth : (nodes : List AnyNode) (depths : List ℕ) → 1 ≤ length nodes → length depths ≡ length nodes → AreDepths nodes depths
    → IsDepthAt nodes (length nodes - 1) (get_or depths (length nodes - 1) 0)
unfolding AreDepths
last_depth [] depths some long known = absurd (omega (arith, some))
last_depth (first ∷ nodes) depths some long known =
    let k = length (first ∷ nodes) - 1 in
    (known k (get_or (first ∷ nodes) k first) (omega (arith, long, some)) (slice_get-get_or (first ∷ nodes) k first (omega (arith, some)))).depth_at

-- the depth of the last node, read at the last place
pub depth_of_last : (nodes : List AnyNode) (depths slice : List ℕ) (count : ℕ) → 1 ≤ length nodes → length depths ≡ length nodes → AreDepths nodes depths
    → slice ≡ depths → count ≡ length nodes → IsDepthAt nodes (length nodes - 1) (get_or slice (count - 1) 0)
depth_of_last nodes depths slice count some long known same is =
    subst (λ n. IsDepthAt nodes (length nodes - 1) (get_or slice (n - 1) 0)) (sym is)
    (subst (λ ds. IsDepthAt nodes (length nodes - 1) (get_or ds (length nodes - 1) 0)) (sym same) (last_depth nodes depths some long known))

-- ---- a loop over nodes

node_here : {X : Type 0} (any : X → AnyNode) (xs : List X) (i : ℕ) (x : X) → i < length xs → x ≡ get_or xs i x → slice_get (map any xs) i ≡ Some (any x)
node_here any xs i x l e = slice_get-map any xs i ∙ ap (option_map any) (slice_get-get_or xs i x l) ∙ ap (λ y. Some (any y)) (sym e)

pub known_here : {X : Type 0} (any : X → AnyNode) (xs : List X) (depths slice : List ℕ) (i : ℕ) (x : X) → i < length xs → x ≡ get_or xs i x
    → EachLeadsOn (map any xs) → (length depths ≡ i) × AreDepths (map any xs) depths → slice ≡ depths → All (IsKnown slice) (ways_of (any x))
unfolding EachLeadsOn
known_here any xs depths slice i x l e leads known same =
    subst (λ ds. All (IsKnown ds) (ways_of (any x))) (sym same)
    (ways_are_known (map any xs) depths i (any x) known.1 known.0 (leads i (any x) (node_here any xs i x l e)))

pub next_depths : {X : Type 0} (any : X → AnyNode) (xs : List X) (depths slice : List ℕ) (i : ℕ) (x : X) (depth : ℕ) (next : List ℕ) → i < length xs → x ≡ get_or xs i x
    → EachLeadsOn (map any xs) → (length depths ≡ i) × AreDepths (map any xs) depths → slice ≡ depths → depth ≡ depth_by slice (ways_of (any x))
    → next ≡ depths ++ depth ∷ [] → (length next ≡ i + 1) × AreDepths (map any xs) next
unfolding EachLeadsOn
next_depths any xs depths slice i x depth next l e leads known same is pushed =
    let here = node_here any xs i x l e in
    let there = measured (map any xs) depths i (any x) known.1 known.0 here (leads i (any x) here) in
    let at = subst (λ d. IsMeasured (map any xs) i d (any x)) (sym (is ∙ ap (λ ds. depth_by ds (ways_of (any x))) same)) there in (
      omega (arith, ap length pushed, length-append depths (depth ∷ []), known.0),
      subst (λ ds. AreDepths (map any xs) ds) (sym pushed) (AreDepths-push (map any xs) depths i depth (any x) known.1 known.0 here at),
    )
