-- Tests in the logic that decide what is packable and which paths are legal.
use Rattle.std.proofs.Common.{◌≡◌, ◌↔◌, ℕ, zero, suc, ◌+◌, ◌<◌, ◌≤◌, ◌⊎◌, Bool, true, false, ◌&&◌, ◌||◌, eqb, leb, List, [], ◌∷◌, ◌++◌, map, length, refl, sym, subst}
use Rattle.std.proofs.Common.{⊎_elim, inl, inr, arith}
use Rattle.std.specs.Prelude.{All, Contains, IsTrue}
use Rattle.std.specs.List.{flat_map, range_with_len, list_any, list_all}
use Rattle.std.proofs.lemmas.Bool.{le-leb, leb-true, eqb-true, eq-eqb}
use Rattle.std.proofs.lemmas.List.Elements.{All-nil, All-cons, All-head, All-tail}
use Rattle.items.specs.Game.{GameNumbers}
use Rattle.items.specs.Multiset.{IsSize}
use Rattle.items.specs.Packable.{bin_total, IsAssignment, Packable}
use Rattle.loads.specs.declared.position.Position.{Position}
use Rattle.loads.specs.After.{after}
use Rattle.monotone.specs.declared.path.PathMove.{PathMove}
use Rattle.monotone.specs.Paths.{IsLegalMove, IsLegalFrom}
use Rattle.items.proofs.SizesLemmas.{Contains-range}
use Rattle.monotone.proofs.ListLemmas.{Contains-first, Contains-later, Contains-nothing, Contains-split, Contains-flat_map, Contains-map, at_range, all_range}
use Rattle.monotone.proofs.PassLemmas.{both_true, listed-Contains, Contains-listed}

-- both tests tell what both facts are
pub both : (a b : Bool) (P Q : Type 0) → IsTrue a ↔ P → IsTrue b ↔ Q → IsTrue (a && b) ↔ (P × Q)
both a b P Q e f =
    let t = both_true a b in
    (λ h. (e.0 (t.0 h).0, f.0 (t.0 h).1), λ h. t.1 (e.1 h.0, f.1 h.1))

eq_told : (a b : ℕ) → IsTrue (eqb a b) ↔ (a ≡ b)
eq_told a b = (eqb-true a b, eq-eqb a b)

left_true : (a b : Bool) → IsTrue a → IsTrue (a || b)
left_true true b h = refl
left_true false b h = cc

right_true : (a b : Bool) → IsTrue b → IsTrue (a || b)
right_true true b h = refl
right_true false b h = h

either_true : (a b : Bool) → IsTrue (a || b) → IsTrue a ⊎ IsTrue b
either_true true b h = inl refl
either_true false b h = inr h

pub le_told : (a b : ℕ) → IsTrue (leb a b) ↔ (a ≤ b)
le_told a b = (leb-true a b, le-leb a b)

module _ {X : Type 0} (test : X → Bool) (P : X → Type 0) (told : (x : X) → IsTrue (test x) ↔ P x) where
  pub all_told : (xs : List X) → IsTrue (list_all test xs) ↔ All P xs
  all_told [] = (λ h. All-nil P, λ h. refl)
  all_told (x ∷ xs) =
      let t = both_true (test x) (list_all test xs) in (
        λ h. All-cons P x xs ((told x).0 (t.0 h).0) ((all_told xs).0 (t.0 h).1),
        λ h. t.1 ((told x).1 (All-head P x xs h), (all_told xs).1 (All-tail P x xs h)),
      )

  pub any_found : (xs : List X) → IsTrue (list_any test xs) → (x : X) × Contains xs x × P x
  any_found [] h = cc
  any_found (x ∷ xs) h = ⊎_elim (λ e. (x, Contains-first x xs, (told x).0 e)) (λ e. let r = any_found xs e in (r.0, Contains-later x xs r.0 r.1, r.2))
      (either_true (test x) (list_any test xs) h)

  pub any_told : (xs : List X) (x : X) → Contains xs x → P x → IsTrue (list_any test xs)
  any_told [] x c h = absurd (Contains-nothing x c)
  any_told (y ∷ xs) x c h = ⊎_elim (λ e. left_true (test y) (list_any test xs) ((told y).1 (subst P (sym e) h))) (λ later. right_true (test y) (list_any test xs)
      (any_told xs x later h)) (Contains-split y xs x c)

-- all lists of so many numbers below a bound
unfoldable pub all_lists : ℕ → ℕ → List (List ℕ)
all_lists below zero = [] ∷ []
all_lists below (suc n) = flat_map (λ x. map (λ xs. x ∷ xs) (all_lists below n)) (range_with_len 0 below)

in_all_lists : (below n : ℕ) (xs : List ℕ) → length xs ≡ n → All (λ x. x < below) xs → Contains (all_lists below n) xs
unfolding all_lists
in_all_lists below zero [] e h = Contains-first [] []
in_all_lists below zero (x ∷ xs) e h = absurd (omega (arith, e))
in_all_lists below (suc n) [] e h = absurd (omega (arith, e))
in_all_lists below (suc n) (x ∷ xs) e h =
    let rest = in_all_lists below n xs (omega (arith, e)) (All-tail (λ x. x < below) x xs h) in
    let first = Contains-range 0 below x (omega arith) (omega (arith, All-head (λ x. x < below) x xs h)) in
    Contains-flat_map (λ x. map (λ xs. x ∷ xs) (all_lists below n)) (range_with_len 0 below) x (x ∷ xs) first (Contains-map (λ xs. x ∷ xs) (all_lists below n) xs rest)

abbrev pub is_size : ℕ → ℕ → Bool
is_size most size = leb 1 size && leb size most

size_told : (most size : ℕ) → IsTrue (is_size most size) ↔ IsSize most size
size_told most size =
    let t = both (leb 1 size) (leb size most) (1 ≤ size) (size ≤ most) (le_told 1 size) (le_told size most) in
    (λ h. record { low = (t.0 h).0; high = (t.0 h).1 }, λ h. t.1 (h.low, h.high))

-- whether these bins are an assignment of the items
unfoldable pub is_assignment : GameNumbers → List ℕ → List ℕ → Bool
is_assignment game items bins =
    (list_all (is_size game.capacity) items && eqb (length bins)
    (length items)) && (list_all (λ bin. leb (suc bin) game.bins) bins && list_all (λ bin. leb (bin_total bin items bins) game.capacity) (range_with_len 0 game.bins))

assignment_told : (game : GameNumbers) (items bins : List ℕ) → IsTrue (is_assignment game items bins) ↔ IsAssignment game items bins
unfolding is_assignment
assignment_told game items bins =
    let sizes = all_told (is_size game.capacity) (IsSize game.capacity) (size_told game.capacity) items in
    let lengths = eq_told (length bins) (length items) in
    let below = all_told (λ bin. leb (suc bin) game.bins) (λ bin. bin < game.bins) (λ bin. le_told (suc bin) game.bins) bins in
    let fits = all_told (λ bin. leb (bin_total bin items bins) game.capacity) (λ bin. bin_total bin items bins ≤ game.capacity)
    (λ bin. le_told (bin_total bin items bins) game.capacity) (range_with_len 0 game.bins) in
    let one = both _ _ _ _ sizes lengths in
    let other = both _ _ _ _ below fits in
    let t = both _ _ _ _ one other in (
      λ h. let r = t.0 h in record {
        item_list = r.0.0;
        one_each = r.0.1;
        of_game = r.1.0;
        fits = λ bin l. at_range (λ b. bin_total b items bins ≤ game.capacity) game.bins r.1.1 bin l;
      },
      λ h. t.1 ((h.item_list, h.one_each), (h.of_game, all_range (λ b. bin_total b items bins ≤ game.capacity) game.bins h.fits)),
    )

-- whether some assignment exists
unfoldable pub is_packable : GameNumbers → List ℕ → Bool
is_packable game items = list_any (is_assignment game items) (all_lists game.bins (length items))

pub packable_told : (game : GameNumbers) (items : List ℕ) → IsTrue (is_packable game items) ↔ Packable game items
unfolding is_packable
packable_told game items = (
  λ h. let r = any_found (is_assignment game items) (IsAssignment game items) (assignment_told game items) (all_lists game.bins (length items)) h in (r.0, r.2),
  λ p. any_told (is_assignment game items) (IsAssignment game items) (assignment_told game items)
      (all_lists game.bins (length items)) p.0 (in_all_lists game.bins (length items) p.0 p.1.one_each p.1.of_game) p.1,
)

-- whether a move is legal
unfoldable pub is_legal_move : GameNumbers → (List ℕ → ℕ → Bool) → Position → PathMove → Bool
is_legal_move game allowed position step =
    (allowed position.items step.item && is_packable game (position.items ++ step.item ∷ [])) &&
    (list_any (λ load. eqb step.load load) position.loads && leb (suc (step.load + step.item)) game.target)

move_told : (game : GameNumbers) (allowed : List ℕ → ℕ → Bool) (position : Position) (step : PathMove)
    → IsTrue (is_legal_move game allowed position step) ↔ IsLegalMove game allowed position step
unfolding is_legal_move
move_told game allowed position step =
    let one = both (allowed position.items step.item) (is_packable game (position.items ++ step.item ∷ [])) (IsTrue (allowed position.items step.item))
    (Packable game (position.items ++ step.item ∷ [])) (λ h. h, λ h. h) (packable_told game (position.items ++ step.item ∷ [])) in
    let load : IsTrue (list_any (λ load. eqb step.load load) position.loads)
    ↔ Contains position.loads step.load = (listed-Contains step.load position.loads, Contains-listed step.load position.loads) in
    let other = both _ _ _ _ load (le_told (suc (step.load + step.item)) game.target) in
    let t = both _ _ _ _ one other in (
      λ h. let r = t.0 h in record { allowed_size = r.0.0; packable = r.0.1; has_load = r.1.0; below_target = r.1.1 },
      λ h. t.1 ((h.allowed_size, h.packable), (h.has_load, h.below_target)),
    )

-- whether each move of a path is legal
unfoldable pub is_legal_from : GameNumbers → (List ℕ → ℕ → Bool) → Position → List PathMove → Bool
is_legal_from game allowed position [] = true
is_legal_from game allowed position (step ∷ path) =
    is_legal_move game allowed position step && is_legal_from game allowed (after position step.load step.item) path

pub path_told : (game : GameNumbers) (allowed : List ℕ → ℕ → Bool) (position : Position) (path : List PathMove)
    → IsTrue (is_legal_from game allowed position path) ↔ IsLegalFrom game allowed position path
unfolding is_legal_from
path_told game allowed position [] = (λ h. tt, λ h. refl)
path_told game allowed position (step ∷ path) =
    both _ _ _ _ (move_told game allowed position step) (path_told game allowed (after position step.load step.item) path)
