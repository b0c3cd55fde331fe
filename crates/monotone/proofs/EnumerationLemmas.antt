-- All paths of a bounded volume, written out.
use Rattle.std.proofs.Common.{◌≡◌, ℕ, zero, suc, ◌+◌, ◌*◌, ◌^◌, ◌<◌, ◌≤◌, Bool, List, [], ◌∷◌, ◌++◌, map, length, replicate, sym, ap, ◌∙◌, subst, inl, inr, arith, length-append}
use Rattle.std.specs.Prelude.{Contains}
use Rattle.std.specs.List.{flat_map}
use Rattle.std.proofs.Math.Nat.{pow-succ', pow-zero}
use Rattle.std.proofs.lemmas.Bool.{cases_eq}
use Rattle.std.proofs.lemmas.List.{length-map, length-replicate}
use Rattle.std.proofs.lemmas.List.Elements.{Contains-append_left, Contains-append_right}
use Rattle.items.specs.Game.{GameNumbers}
use Rattle.loads.specs.declared.position.Position.{Position}
use Rattle.loads.specs.After.{after}
use Rattle.loads.specs.Loads.{loads_after}
use Rattle.loads.proofs.LoadsLemmas.{length-loads_after}
use Rattle.monotone.specs.declared.path.PathMove.{PathMove}
use Rattle.loads.specs.Wins.{empty_position}
use Rattle.monotone.specs.Paths.{moved, IsLegalFrom, IsLegalPath}
use Rattle.monotone.proofs.ListLemmas.{Contains-first, Contains-flat_map, Contains-map, length-flat_map-same}
use Rattle.monotone.proofs.PathLemmas.{volume_of, positive_item, volume-le-bins}

-- all paths from these loads of at most this volume more, whose first item has more than the size that has grown so far:
-- either the first item grows by 1, or it goes to one of the loads
unfoldable pub paths_within : ℕ → ℕ → List ℕ → List (List PathMove)
paths_within zero grown loads = [] ∷ []
paths_within (suc left) grown loads =
    paths_within left (suc grown) loads ++ flat_map (λ load. map (λ path. moved (suc grown) load ∷ path) (paths_within left 0 (loads_after loads load (suc grown)))) loads

one_more_level : (n many : ℕ) → n + many * n ≡ (many + 1) * n
one_more_level n many = omega arith

pub length-paths_within : (left grown : ℕ) (loads : List ℕ) → length (paths_within left grown loads) ≡ (length loads + 1) ^ left
unfolding paths_within
length-paths_within zero grown loads = sym (pow-zero (length loads + 1))
length-paths_within (suc left) grown loads =
    let n = (length loads + 1) ^ left in
    let to = λ (load : ℕ). map (λ path. moved (suc grown) load ∷ path) (paths_within left 0 (loads_after loads load (suc grown))) in
    let each : (load : ℕ) → Contains loads load → length (to load) ≡ n = λ load member.
    length-map (paths_within left 0 (loads_after loads load (suc grown))) (λ path. moved (suc grown) load ∷ path)
    ∙ length-paths_within left 0 (loads_after loads load (suc grown)) ∙ ap (λ k. (k + 1) ^ left) (length-loads_after loads load (suc grown) member) in
    let joined : length (flat_map to loads) ≡ length loads * n = length-flat_map-same to n loads each in
    length-append (paths_within left (suc grown) loads) (flat_map to loads) ∙ ap (λ k. k + length (flat_map to loads)) (length-paths_within left (suc grown) loads)
    ∙ ap (λ k. n + k) joined ∙ one_more_level n (length loads) ∙ sym (pow-succ' (length loads + 1) left)

-- each move's load is there at the move, and each item is at least 1
abbrev pub HasItsLoads : List ℕ → List PathMove → Type 0
HasItsLoads loads [] = Unit {0}
HasItsLoads loads (step ∷ path) = (1 ≤ step.item) × Contains loads step.load × HasItsLoads (loads_after loads step.load step.item) path

pub HasItsLoads-legal : (game : GameNumbers) (allowed : List ℕ → ℕ → Bool) (start : Position) (path : List PathMove) → IsLegalFrom game allowed start path
    → HasItsLoads start.loads path
HasItsLoads-legal game allowed start [] h = tt
HasItsLoads-legal game allowed start (step ∷ path) h =
    (positive_item game allowed start step h.0, h.0.has_load, HasItsLoads-legal game allowed (after start step.load step.item) path h.1)

empty_within : (left grown : ℕ) (loads : List ℕ) → Contains (paths_within left grown loads) []
unfolding paths_within
empty_within zero grown loads = Contains-first [] []
empty_within (suc left) grown loads = Contains-append_left (paths_within left (suc grown) loads) _ [] (empty_within left (suc grown) loads)

-- the path that begins with this move is among those that go to one of the loads
goes_to : (left grown : ℕ) (loads : List ℕ) (step : PathMove) (path : List PathMove) → Contains loads step.load → step.item ≡ suc grown
    → Contains (paths_within left 0 (loads_after loads step.load (suc grown))) path → Contains (paths_within (suc left) grown loads) (step ∷ path)
unfolding paths_within
goes_to left grown loads step path member same h =
    let with = λ (load : ℕ) (rest : List PathMove). moved (suc grown) load ∷ rest in
    let to = λ (load : ℕ). map (with load) (paths_within left 0 (loads_after loads load (suc grown))) in
    let here : Contains (flat_map to loads) (with step.load path) = Contains-flat_map to loads step.load (with step.load path) member (Contains-map (with step.load) _ path h) in
    let is : with step.load path ≡ step ∷ path = ap (λ item. moved item step.load ∷ path) (sym same) in
    Contains-append_right (paths_within left (suc grown) loads) (flat_map to loads) (step ∷ path) (subst (Contains (flat_map to loads)) is here)

grows : (left grown : ℕ) (loads : List ℕ) (path : List PathMove) → Contains (paths_within left (suc grown) loads) path → Contains (paths_within (suc left) grown loads) path
unfolding paths_within
grows left grown loads path h = Contains-append_left (paths_within left (suc grown) loads) _ path h

within_grown : (left grown : ℕ) (loads : List ℕ) (step : PathMove) (path : List PathMove) → HasItsLoads loads (step ∷ path) → grown < step.item
    → step.item + volume_of path ≤ left + grown → Contains (paths_within left grown loads) (step ∷ path)
within_grown zero grown loads step path h l m = absurd (omega (arith, l, m))
within_grown (suc left) grown loads step [] h l m = elim (cases_eq step.item (suc grown)) [
  | inl e ↦ goes_to left grown loads step [] h.1 e (empty_within left 0 (loads_after loads step.load (suc grown)))
  | inr apart ↦ grows left grown loads (step ∷ []) (within_grown left (suc grown) loads step [] h (omega (arith, l, apart)) (omega (arith, m)))
]
within_grown (suc left) grown loads step (next ∷ path) h l m = elim (cases_eq step.item (suc grown)) [
  | inl e ↦ let rest : HasItsLoads (loads_after loads step.load (suc grown)) (next ∷ path) = subst (λ item. HasItsLoads (loads_after loads step.load item) (next ∷ path)) e h.2 in
      goes_to left grown loads step (next ∷ path) h.1 e (within_grown left 0 (loads_after loads step.load (suc grown)) next path rest (omega (arith, rest.0))
      (omega (arith, m, e)))
  | inr apart ↦ grows left grown loads (step ∷ next ∷ path) (within_grown left (suc grown) loads step (next ∷ path) h (omega (arith, l, apart)) (omega (arith, m)))
]

-- each path whose moves have their loads is among those of its volume
within : (left : ℕ) (loads : List ℕ) (path : List PathMove) → HasItsLoads loads path → volume_of path ≤ left → Contains (paths_within left 0 loads) path
within left loads [] h l = empty_within left 0 loads
within left loads (step ∷ path) h l = within_grown left 0 loads step path h (omega (arith, h.0)) (omega (arith, l))

-- all paths of a game that may be legal
unfoldable pub paths_of : GameNumbers → List (List PathMove)
paths_of game = paths_within (game.bins * game.capacity) 0 (replicate game.bins 0)

pub length-paths_of : (game : GameNumbers) → length (paths_of game) ≡ (game.bins + 1) ^ (game.bins * game.capacity)
unfolding paths_of
length-paths_of game =
    length-paths_within (game.bins * game.capacity) 0 (replicate game.bins 0) ∙ ap (λ n. (n + 1) ^ (game.bins * game.capacity)) (length-replicate game.bins 0)

pub legal_in_paths_of : (game : GameNumbers) (allowed : List ℕ → ℕ → Bool) (path : List PathMove) → IsLegalPath game allowed path → Contains (paths_of game) path
unfolding paths_of
legal_in_paths_of game allowed path h =
    within (game.bins * game.capacity) (replicate game.bins 0) path (HasItsLoads-legal game allowed (empty_position game) path h) (volume-le-bins game allowed path h)
