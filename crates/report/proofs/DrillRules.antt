-- Each of the five nodes of the drill strategy meets its rules.
use Rattle.std.proofs.Common.{◌≡◌, ℕ, zero, suc, ◌+◌, ◌<◌, ◌≤◌, Bool, IsTrue, List, [], ◌∷◌, ◌++◌, map, sum, arith, refl}
use Rattle.std.specs.List.{All, Contains, concat}
use Rattle.std.proofs.lemmas.List.Elements.{All-cons, All-nil}
use Rattle.items.specs.Game.{GameNumbers, IsGame, numbers}
use Rattle.items.specs.Multiset.{Same, sizes_of}
use Rattle.items.specs.Packable.{IsPacking}
use Rattle.items.proofs.MultisetLemmas.{IsNonDecreasing-from_rises, RisesFrom, low-le-get_or}
use Rattle.items.proofs.SizesLemmas.{Contains_from_size}
use Rattle.loads.specs.After.{after}
use Rattle.loads.specs.Descending.{IsDescending, distinct}
use Rattle.loads.specs.Loads.{IsLoads}
use Rattle.loads.specs.Position.{AreItemsOf, IsEmptyPosition, StandsAt, position}
use Rattle.loads.specs.declared.position.Position.{Position}
use Rattle.strategy_text.specs.declared.node.Format.TheVariants.{One}
use Rattle.strategy_text.specs.declared.node.Placement.{Placement}
use Rattle.adversary_graph.specs.Rules.{IsOverAtTarget, LeadsTo, MeetsRules}
use Rattle.report.specs.Drill.{node_0, node_1, node_2, node_3, node_4, over, sends, to}

abbrev game : GameNumbers
game = numbers 2 3 4

pub drill_is_game : IsGame (numbers 2 3 4)
drill_is_game = record {
  bins = record { low = omega arith; high = omega arith };
  capacity = record { low = omega arith; high = omega arith };
  target = record { low = omega arith; high = omega arith };
}

down : (x y : ℕ) → y ≤ x → IsDescending (x ∷ y ∷ [])
down x y l zero within = l
down x y l (suc k) within = absurd (omega (arith, within))

two_loads : (x y : ℕ) → y ≤ x → x < 4 → IsLoads game (x ∷ y ∷ [])
two_loads x y l below = record {
  one_each = refl;
  descending = down x y l;
  below_target = All-cons (λ load. load < 4) x (y ∷ []) below
      (All-cons (λ load. load < 4) y [] (omega (arith, l, below)) (All-nil (λ load. load < 4)));
}

size : (x : ℕ) → 1 ≤ x → x ≤ 3 → Contains (sizes_of game) x
size x low high = Contains_from_size 3 x (record { low = low; high = high })

-- items that rise from 1 and are at most 3
have : (loads items : List ℕ) → RisesFrom 1 items → All (λ x. x ≤ 3) items → sum items ≡ sum loads → AreItemsOf (sizes_of game) loads items
have loads items rises small total = record {
  ascending = IsNonDecreasing-from_rises 1 items rises;
  allowed = λ k d l. size _ (low-le-get_or 1 items rises k d l) (small k d l);
  total = total;
}

packing : (a b items : List ℕ) → sum a ≤ 3 → sum b ≤ 3 → Same (concat (a ∷ b ∷ [])) items → IsPacking game (a ∷ b ∷ []) items
packing a b items a_fits b_fits same = record {
  one_each = refl;
  fits = All-cons (λ bin. sum bin ≤ 3) a (b ∷ []) a_fits (All-cons (λ bin. sum bin ≤ 3) b [] b_fits (All-nil (λ (bin : List ℕ). sum bin ≤ 3)));
  together = same;
}

small_nil : All (λ x. x ≤ 3) []
small_nil = All-nil (λ x. x ≤ 3)

small : (x : ℕ) (xs : List ℕ) → x ≤ 3 → All (λ x. x ≤ 3) xs → All (λ x. x ≤ 3) (x ∷ xs)
small x xs = All-cons (λ x. x ≤ 3) x xs

-- a node with a packing that meets each rule
sending : (loads items : List ℕ) (sent : ℕ) (pack : List (List ℕ)) (placements : List Placement) (earlier : List Position) (last : Bool) → IsLoads game loads
    → AreItemsOf (sizes_of game) loads items → 1 ≤ sent → sent ≤ 3 → IsPacking game pack (items ++ sent ∷ [])
    → map (λ (placement : Placement). placement.load) placements ≡ distinct loads → All (IsOverAtTarget game sent) placements
    → All (λ placement. LeadsTo earlier placement.next (after (position loads items) placement.load sent)) placements
    → (IsTrue last → IsEmptyPosition (position loads items)) → MeetsRules One game (sizes_of game) earlier last (sends loads items sent pack placements)
sending loads items sent pack placements earlier last l i low high p placed overs leads root =
    (l, (i, (size sent low high, (tt, (record { shown = ((λ _. tt), (λ _. tt)); holds = p }, (placed, (overs, (leads, (root, tt)))))))))

over_at : (load sent : ℕ) → 4 ≤ load + sent → IsOverAtTarget game sent (over load)
over_at load sent l = ((λ _. l), (λ _. tt))

below_at : (load sent child : ℕ) → load + sent < 4 → IsOverAtTarget game sent (to load child)
below_at load sent child l = ((λ v. absurd v), (λ h. omega (arith, l, h)))

module _ (earlier : List Position) (last : Bool) where
  abbrev Leads : List ℕ → List ℕ → ℕ → Placement → Type 0
  Leads loads items sent placement = LeadsTo earlier placement.next (after (position loads items) placement.load sent)

  one_placement : (P : Placement → Type 0) (first : Placement) → P first → All P (first ∷ [])
  one_placement P first p = All-cons P first [] p (All-nil P)

  two_placements : (P : Placement → Type 0) (first second : Placement) → P first → P second → All P (first ∷ second ∷ [])
  two_placements P first second p q = All-cons P first (second ∷ []) p (one_placement P second q)

  pub meets_0 : (IsTrue last → ⊥) → MeetsRules One game (sizes_of game) earlier last node_0
  meets_0 not_last =
      let loads : List ℕ = 2 ∷ 2 ∷ [] in
      let items : List ℕ = 1 ∷ 1 ∷ 2 ∷ [] in
      sending loads items 2 ((1 ∷ 2 ∷ []) ∷ (1 ∷ 2 ∷ []) ∷ []) (over 2 ∷ []) earlier last (two_loads 2 2 (omega arith) (omega arith))
      (have loads items (omega arith, (omega arith, (omega arith, tt)))
      (small 1 (1 ∷ 2 ∷ []) (omega arith) (small 1 (2 ∷ []) (omega arith) (small 2 [] (omega arith) small_nil))) refl)
      (omega arith) (omega arith)
      (packing (1 ∷ 2 ∷ []) (1 ∷ 2 ∷ []) (items ++ 2 ∷ []) (omega arith) (omega arith) (λ x. omega arith)) refl
      (one_placement (IsOverAtTarget game 2) (over 2) (over_at 2 2 (omega arith)))
      (one_placement (Leads loads items 2) (over 2) tt)
      (λ e. absurd (not_last e))

  pub meets_1 : (child : ℕ) → (IsTrue last → ⊥) → StandsAt earlier child (position (2 ∷ 2 ∷ []) (1 ∷ 1 ∷ 2 ∷ []))
      → MeetsRules One game (sizes_of game) earlier last (node_1 child)
  meets_1 child not_last stands =
      let loads : List ℕ = 2 ∷ 0 ∷ [] in
      let items : List ℕ = 1 ∷ 1 ∷ [] in
      sending loads items 2 ((1 ∷ 2 ∷ []) ∷ (1 ∷ []) ∷ []) (over 2 ∷ to 0 child ∷ []) earlier last (two_loads 2 0 (omega arith) (omega arith))
      (have loads items (omega arith, (omega arith, tt)) (small 1 (1 ∷ []) (omega arith) (small 1 [] (omega arith) small_nil)) refl)
      (omega arith) (omega arith)
      (packing (1 ∷ 2 ∷ []) (1 ∷ []) (items ++ 2 ∷ []) (omega arith) (omega arith) (λ x. omega arith)) refl
      (two_placements (IsOverAtTarget game 2) (over 2) (to 0 child) (over_at 2 2 (omega arith)) (below_at 0 2 child (omega arith)))
      (two_placements (Leads loads items 2) (over 2) (to 0 child) tt stands)
      (λ e. absurd (not_last e))

  pub meets_2 : (IsTrue last → ⊥) → MeetsRules One game (sizes_of game) earlier last node_2
  meets_2 not_last =
      let loads : List ℕ = 1 ∷ 1 ∷ [] in
      let items : List ℕ = 1 ∷ 1 ∷ [] in
      sending loads items 3 ((3 ∷ []) ∷ (1 ∷ 1 ∷ []) ∷ []) (over 1 ∷ []) earlier last (two_loads 1 1 (omega arith) (omega arith))
      (have loads items (omega arith, (omega arith, tt)) (small 1 (1 ∷ []) (omega arith) (small 1 [] (omega arith) small_nil)) refl)
      (omega arith) (omega arith)
      (packing (3 ∷ []) (1 ∷ 1 ∷ []) (items ++ 3 ∷ []) (omega arith) (omega arith) (λ x. omega arith)) refl
      (one_placement (IsOverAtTarget game 3) (over 1) (over_at 1 3 (omega arith)))
      (one_placement (Leads loads items 3) (over 1) tt)
      (λ e. absurd (not_last e))

  pub meets_3 : (child other : ℕ) → (IsTrue last → ⊥) → StandsAt earlier child (position (2 ∷ 0 ∷ []) (1 ∷ 1 ∷ []))
      → StandsAt earlier other (position (1 ∷ 1 ∷ []) (1 ∷ 1 ∷ [])) → MeetsRules One game (sizes_of game) earlier last (node_3 child other)
  meets_3 child other not_last first second =
      let loads : List ℕ = 1 ∷ 0 ∷ [] in
      let items : List ℕ = 1 ∷ [] in
      sending loads items 1 ((1 ∷ 1 ∷ []) ∷ [] ∷ []) (to 1 child ∷ to 0 other ∷ []) earlier last (two_loads 1 0 (omega arith) (omega arith))
      (have loads items (omega arith, tt) (small 1 [] (omega arith) small_nil) refl)
      (omega arith) (omega arith)
      (packing (1 ∷ 1 ∷ []) [] (items ++ 1 ∷ []) (omega arith) (omega arith) (λ x. omega arith)) refl
      (two_placements (IsOverAtTarget game 1) (to 1 child) (to 0 other) (below_at 1 1 child (omega arith)) (below_at 0 1 other (omega arith)))
      (two_placements (Leads loads items 1) (to 1 child) (to 0 other) first second)
      (λ e. absurd (not_last e))

  pub meets_4 : (child : ℕ) → StandsAt earlier child (position (1 ∷ 0 ∷ []) (1 ∷ []))
      → MeetsRules One game (sizes_of game) earlier last (node_4 child)
  meets_4 child stands =
      let loads : List ℕ = 0 ∷ 0 ∷ [] in
      sending loads [] 1 ((1 ∷ []) ∷ [] ∷ []) (to 0 child ∷ []) earlier last (two_loads 0 0 (omega arith) (omega arith))
      (have loads [] tt small_nil refl)
      (omega arith) (omega arith)
      (packing (1 ∷ []) [] (1 ∷ []) (omega arith) (omega arith) (λ x. omega arith)) refl
      (one_placement (IsOverAtTarget game 1) (to 0 child) (below_at 0 1 child (omega arith)))
      (one_placement (Leads loads [] 1) (to 0 child) stands)
      (λ e. record {
        loads = All-cons (λ load. load ≡ 0) 0 (0 ∷ []) refl (All-cons (λ load. load ≡ 0) 0 [] refl (All-nil (λ load. load ≡ 0)));
        items = refl;
      })
