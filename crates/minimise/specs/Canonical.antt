-- The canonical form of nodes, by their positions and their references alone. Nodes with equal positions may stand for
-- each other: the least-numbered one does.
use Rattle.std.specs.Prelude.{ℕ, zero, suc, ◌-◌, ◌==◌, not, List, [], ◌∷◌, ◌++◌, length, map, slice_get, slice_index}
use Rattle.std.specs.List.{filter, filter_map, flat_map, position_or_len, slice_index_or}
use Rattle.loads.specs.Position.{are_equal}
use Rattle.loads.specs.declared.position.Position.{Position}

-- the representative of each node: the least number at which its position stands
abbrev pub representatives : List Position → List ℕ
representatives positions = map (λ position. position_or_len (are_equal position) positions) positions

-- where a node leads: its references in their order, each replaced by its representative
unfoldable pub leads : List Position → List (List ℕ) → ℕ → List ℕ
leads positions references number =
    map (slice_index (representatives positions)) (slice_index_or references number [])

-- all visits of a walk from a node, children before their parent: those of a walk from each node to which it leads, in
-- their order, and then the node itself; at most so many nodes deep
unfoldable pub walk : (ℕ → List ℕ) → ℕ → ℕ → List ℕ
walk leads zero number = []
walk leads (suc n) number = flat_map (walk leads n) (leads number) ++ number ∷ []

-- each number of a list at the first of its places alone
abbrev pub firsts : List ℕ → List ℕ
firsts [] = []
firsts (x ∷ xs) = x ∷ filter (λ y. not (y == x)) (firsts xs)

-- the nodes that are kept, in their new order: those that a walk from the representative of the root visits, each at
-- its first visit. Children have lower numbers, so no walk is deeper than there are nodes.
unfoldable pub kept : List Position → List (List ℕ) → List ℕ
kept positions references =
    let root = slice_index (representatives positions) (length positions - 1) in
    firsts (walk (leads positions references) (length positions) root)

-- the place of a number in a list
abbrev pub place : ℕ → List ℕ → ℕ
place number numbers = position_or_len (λ other. other == number) numbers

-- the new number of each node: the place of its representative among the nodes that are kept
abbrev pub new_numbers : List Position → List (List ℕ) → List ℕ
new_numbers positions references =
    map (λ representative. place representative (kept positions references)) (representatives positions)

-- the canonical form of nodes, whatever a node is: the nodes that are kept, in their new order, with the new numbers in
-- their references
abbrev pub canonical : {N : Type 0} → (N → Position) → (N → List ℕ) → ((ℕ → ℕ) → N → N) → List N → List N
canonical position_of references_of renamed nodes =
    let positions = map position_of nodes in
    let references = map references_of nodes in
    map (renamed (slice_index (new_numbers positions references)))
    (filter_map (slice_get nodes) (kept positions references))
