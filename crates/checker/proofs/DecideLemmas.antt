-- What can be decided: of numbers, lists and positions, and what bounded searches find.
use Rattle.std.proofs.Common.{◌≡◌, ◌⊎◌, ◌↔◌, inl, inr, Bool, true, false, ℕ, zero, suc, ◌+◌, ◌<◌, ◌≤◌, List, [], ◌∷◌, ◌*◌, length, get_or, All, Contains, Option, Some, None}
use Rattle.std.proofs.Common.{⊎_elim, ap, ◌∙◌, subst, refl, arith}
use Rattle.std.specs.Prelude.{IsTrue}
use Rattle.std.specs.List.{slice_get, slice_index, concat, sum}
use Rattle.std.specs.List.Sorted.{IsNonDecreasing}
use Rattle.std.proofs.lemmas.Bool.{cases_eq, cases_lt, false≢true}
use Rattle.std.proofs.lemmas.List.{nil_from_length}
use Rattle.std.proofs.lemmas.List.Elements.{All-nil, All-cons, All-head, All-tail}
use Rattle.items.specs.Game.{GameNumbers, IsGame}
use Rattle.items.specs.Multiset.{AreSizes, IsSize, Same, count}
use Rattle.items.specs.Packable.{bin_total, IsAssignment, IsPacking, Packable}
use Rattle.items.proofs.MultisetLemmas.{RisesFrom, IsNonDecreasing-from_rises, RisesFrom-zero}
use Rattle.loads.specs.Position.{position, StandsAt}
use Rattle.loads.specs.declared.position.Position.{Position}
use Rattle.loads.proofs.CountLemmas.{Contains-from_count, count_above_zero, Same-from_members}

-- it holds, or it does not
abbrev pub Decided : Type 0 → Type 0
Decided P = P ⊎ (P → ⊥)

-- ---- of statements

pub decided_by : (P Q : Type 0) → (P → Q) → (Q → P) → Decided P → Decided Q
decided_by P Q to from (inl p) = inl (to p)
decided_by P Q to from (inr fails) = inr (λ q. fails (from q))

pub decided_both : (P Q : Type 0) → Decided P → Decided Q → Decided (P × Q)
decided_both P Q (inl p) (inl q) = inl (p, q)
decided_both P Q (inl p) (inr fails) = inr (λ b. fails b.1)
decided_both P Q (inr fails) d = inr (λ b. fails b.0)

pub decided_if : (P Q : Type 0) → Decided P → Decided Q → Decided (P → Q)
decided_if P Q d (inl q) = inl (λ p. q)
decided_if P Q (inl p) (inr fails) = inr (λ f. fails (f p))
decided_if P Q (inr never) (inr fails) = inl (λ p. absurd (never p))

pub decided_iff : (P Q : Type 0) → Decided P → Decided Q → Decided (P ↔ Q)
decided_iff P Q p q = decided_both (P → Q) (Q → P) (decided_if P Q p q) (decided_if Q P q p)

pub decided_true : (b : Bool) → Decided (IsTrue b)
decided_true true = inl refl
decided_true false = inr (λ e. absurd (false≢true e))

-- ---- of numbers

pub decided_eq : (a b : ℕ) → Decided (a ≡ b)
decided_eq a b = cases_eq a b

lt_from : (a b : ℕ) → (a < b) ⊎ (b ≤ a) → Decided (a < b)
lt_from a b (inl low) = inl low
lt_from a b (inr high) = inr (λ low. absurd (omega (arith, low, high)))

pub decided_lt : (a b : ℕ) → Decided (a < b)
decided_lt a b = lt_from a b (cases_lt a b)

le_from : (a b : ℕ) → (b < a) ⊎ (a ≤ b) → Decided (a ≤ b)
le_from a b (inl high) = inr (λ low. absurd (omega (arith, low, high)))
le_from a b (inr low) = inl low

pub decided_le : (a b : ℕ) → Decided (a ≤ b)
decided_le a b = le_from a b (cases_lt b a)

-- ---- of the numbers below a bound

below_step : (P : ℕ → Type 0) (g : ℕ) → Decided (P g) → Decided ((b : ℕ) → b < g → P b) → Decided ((b : ℕ) → b < suc g → P b)
below_step P g (inr fails) d = inr (λ all. fails (all g (omega arith)))
below_step P g (inl here) (inr fails) = inr (λ all. fails (λ b low. all b (omega arith)))
below_step P g (inl here) (inl all) = inl (λ b low. ⊎_elim (λ (l : b < g). all b l) (λ (h : g ≤ b). (let e : g ≡ b = omega (arith, low, h) in subst P e here)) (cases_lt b g))

-- each number below the bound
pub decided_below : (P : ℕ → Type 0) → ((b : ℕ) → Decided (P b)) → (g : ℕ) → Decided ((b : ℕ) → b < g → P b)
decided_below P d zero = inl (λ b low. absurd (omega (arith, low)))
decided_below P d (suc g) = below_step P g (d g) (decided_below P d g)

some_step : (P : ℕ → Type 0) (g : ℕ) → Decided (P g) → Decided ((b : ℕ) × (b < g) × P b) → Decided ((b : ℕ) × (b < suc g) × P b)
some_step P g (inl here) d = inl (g, omega arith, here)
some_step P g (inr fails) (inl s) = let low : s.0 < g = s.1 in inl (s.0, omega arith, s.2)
some_step P g (inr fails) (inr none) = inr (λ s.
    (let low : s.0 < suc g = s.1 in
    ⊎_elim (λ (l : s.0 < g). none (s.0, l, s.2)) (λ (h : g ≤ s.0). (let e : s.0 ≡ g = omega (arith, low, h) in fails (subst P e s.2))) (cases_lt s.0 g)))

-- some number below the bound
pub decided_some : (P : ℕ → Type 0) → ((b : ℕ) → Decided (P b)) → (g : ℕ) → Decided ((b : ℕ) × (b < g) × P b)
decided_some P d zero = inr (λ s. absurd (omega (arith, s.1)))
decided_some P d (suc g) = some_step P g (d g) (decided_some P d g)

-- a list of so many numbers below a bound
abbrev SomeList : ℕ → ℕ → (List ℕ → Type 0) → Type 0
SomeList g n P = (xs : List ℕ) × (length xs ≡ n) × All (λ b. b < g) xs × P xs

list_more : (g n : ℕ) (P : List ℕ → Type 0) → ((b : ℕ) × (b < g) × SomeList g n (λ xs. P (b ∷ xs))) → SomeList g (suc n) P
list_more g n P s =
    let t = s.2 in
    (s.0 ∷ t.0, ap suc t.1, All-cons (λ b. b < g) s.0 t.0 s.1 t.2, t.3)

list_less : (g n : ℕ) (P : List ℕ → Type 0) (xs : List ℕ) → length xs ≡ suc n → All (λ b. b < g) xs → P xs → (b : ℕ) × (b < g) × SomeList g n (λ ys. P (b ∷ ys))
list_less g n P [] e all p = absurd (omega (arith, e))
list_less g n P (x ∷ xs) e all p = (x, All-head (λ b. b < g) x xs all, (xs, omega (arith, e), All-tail (λ b. b < g) x xs all, p))

pub decided_list : (g n : ℕ) (P : List ℕ → Type 0) → ((xs : List ℕ) → Decided (P xs)) → Decided (SomeList g n P)
decided_list g zero P d =
    decided_by (P []) (SomeList g zero P) (λ p. ([], refl, All-nil (λ b. b < g), p)) (λ s. subst P (nil_from_length s.0 s.1) s.3) (d [])
decided_list g (suc n) P d =
    decided_by ((b : ℕ) × (b < g) × SomeList g n (λ xs. P (b ∷ xs))) (SomeList g (suc n) P) (list_more g n P) (λ s. list_less g n P s.0 s.1 s.2 s.3)
    (decided_some (λ b. SomeList g n (λ xs. P (b ∷ xs))) (λ b. decided_list g n (λ xs. P (b ∷ xs)) (λ xs. d (b ∷ xs))) g)

-- ---- of lists

all_step : {X : Type 0} (P : X → Type 0) (x : X) (xs : List X) → Decided (P x) → Decided (All P xs) → Decided (All P (x ∷ xs))
all_step P x xs (inl here) (inl all) = inl (All-cons P x xs here all)
all_step P x xs (inl here) (inr fails) = inr (λ all. fails (All-tail P x xs all))
all_step P x xs (inr fails) d = inr (λ all. fails (All-head P x xs all))

pub decided_all : {X : Type 0} (P : X → Type 0) → ((x : X) → Decided (P x)) → (xs : List X) → Decided (All P xs)
decided_all P d [] = inl (All-nil P)
decided_all P d (x ∷ xs) = all_step P x xs (d x) (decided_all P d xs)

pub decided_contains : (xs : List ℕ) (x : ℕ) → Decided (Contains xs x)
decided_contains xs x = decided_by (0 < count x xs) (Contains xs x) (Contains-from_count x xs) (count_above_zero x xs) (decided_lt 0 (count x xs))

lists_step : (x y : ℕ) (xs ys : List ℕ) → Decided (x ≡ y) → Decided (xs ≡ ys) → Decided (x ∷ xs ≡ y ∷ ys)
lists_step x y xs ys (inl e) (inl f) = inl (ap (λ (z : ℕ). z ∷ xs) e ∙ ap (λ (zs : List ℕ). y ∷ zs) f)
lists_step x y xs ys (inl e) (inr fails) = inr (λ h. (let f : xs ≡ ys = cc in fails f))
lists_step x y xs ys (inr fails) d = inr (λ h. (let e : x ≡ y = cc in fails e))

pub decided_lists : (xs ys : List ℕ) → Decided (xs ≡ ys)
decided_lists [] [] = inl refl
decided_lists [] (y ∷ ys) = inr (λ e. absurd (omega (arith, ap length e)))
decided_lists (x ∷ xs) [] = inr (λ e. absurd (omega (arith, ap length e)))
decided_lists (x ∷ xs) (y ∷ ys) = lists_step x y xs ys (decided_eq x y) (decided_lists xs ys)

decided_rises : (low : ℕ) (xs : List ℕ) → Decided (RisesFrom low xs)
decided_rises low [] = inl tt
decided_rises low (x ∷ xs) = decided_both (low ≤ x) (RisesFrom x xs) (decided_le low x) (decided_rises x xs)

pub decided_ascending : (xs : List ℕ) → Decided (IsNonDecreasing xs)
decided_ascending xs = decided_by (RisesFrom 0 xs) (IsNonDecreasing xs) (IsNonDecreasing-from_rises 0 xs) (RisesFrom-zero xs) (decided_rises 0 xs)

-- what is said of each two neighbours
pub decided_neighbours : (R : ℕ → ℕ → Type 0) → ((k l : ℕ) → Decided (R k l)) → (n : ℕ) → Decided ((k : ℕ) → k + 1 < n → R k (k + 1))
decided_neighbours R d zero = inl (λ k low. absurd (omega (arith, low)))
decided_neighbours R d (suc n) =
    decided_by ((k : ℕ) → k < n → R k (k + 1)) ((k : ℕ) → k + 1 < suc n → R k (k + 1)) (λ h k low. h k (omega (arith, low))) (λ h k low. h k (omega (arith, low)))
    (decided_below (λ k. R k (k + 1)) (λ k. d k (k + 1)) n)

-- ---- of items

pub decided_size : (most size : ℕ) → Decided (IsSize most size)
decided_size most size =
    decided_by ((1 ≤ size) × (size ≤ most)) (IsSize most size) (λ h. record { low = h.0; high = h.1 }) (λ h. (h.low, h.high))
    (decided_both (1 ≤ size) (size ≤ most) (decided_le 1 size) (decided_le size most))

decided_some_list : (xs : List ℕ) → Decided (xs ≡ [] → ⊥)
decided_some_list [] = inr (λ h. h refl)
decided_some_list (x ∷ xs) = inl (λ e. absurd (omega (arith, ap length e)))

-- a list of sizes
pub decided_are_sizes : (most : ℕ) (xs : List ℕ) → Decided (AreSizes most xs)
decided_are_sizes most xs =
    let Rises : Type 0 = ((k : ℕ) → k + 1 < length xs → slice_index xs k < slice_index xs (k + 1)) in
    decided_by ((xs ≡ [] → ⊥) × (Rises × All (IsSize most) xs)) (AreSizes most xs) (λ h. record { nonempty = h.0; ascending = h.1.0; sizes = h.1.1 })
    (λ h. (h.nonempty, (h.ascending, h.sizes)))
    (decided_both (xs ≡ [] → ⊥) (Rises × All (IsSize most) xs) (decided_some_list xs)
    (decided_both Rises (All (IsSize most) xs) (decided_neighbours (λ k l. slice_index xs k < slice_index xs l) (λ k l. decided_lt (slice_index xs k) (slice_index xs l)) (length xs))
    (decided_all (IsSize most) (decided_size most) xs)))

pub decided_same : (xs ys : List ℕ) → Decided (Same xs ys)
decided_same xs ys =
    let Equal : ℕ → Type 0 = λ x. (count x xs ≡ count x ys) in
    decided_by (All Equal xs × All Equal ys) (Same xs ys) (λ h. Same-from_members xs ys h.0 h.1) (λ h. ((λ k d within. h (get_or xs k d)), (λ k d within. h (get_or ys k d))))
    (decided_both (All Equal xs) (All Equal ys) (decided_all Equal (λ x. decided_eq (count x xs) (count x ys)) xs)
    (decided_all Equal (λ x. decided_eq (count x xs) (count x ys)) ys))

pub decided_packing : (game : GameNumbers) (bins : List (List ℕ)) (items : List ℕ) → Decided (IsPacking game bins items)
decided_packing game bins items =
    let Fits : List ℕ → Type 0 = λ bin. (sum bin ≤ game.capacity) in
    decided_by (((length bins ≡ game.bins) × All Fits bins) × Same (concat bins) items) (IsPacking game bins items)
    (λ h. record { one_each = h.0.0; fits = h.0.1; together = h.1 })
    (λ h. ((h.one_each, h.fits), h.together))
    (decided_both ((length bins ≡ game.bins) × All Fits bins) (Same (concat bins) items)
    (decided_both (length bins ≡ game.bins) (All Fits bins) (decided_eq (length bins) game.bins) (decided_all Fits (λ bin. decided_le (sum bin) game.capacity) bins))
    (decided_same (concat bins) items))

decided_assignment : (game : GameNumbers) (items bins : List ℕ) → Decided (IsAssignment game items bins)
decided_assignment game items bins =
    let Sized : Type 0 = All (IsSize game.capacity) items in
    let Placed : Type 0 = All (λ bin. bin < game.bins) bins in
    let Fits : Type 0 = (bin : ℕ) → bin < game.bins → bin_total bin items bins ≤ game.capacity in
    decided_by ((Sized × (length bins ≡ length items)) × (Placed × Fits)) (IsAssignment game items bins)
    (λ h. record { item_list = h.0.0; one_each = h.0.1; of_game = h.1.0; fits = h.1.1 })
    (λ h. ((h.item_list, h.one_each), (h.of_game, h.fits)))
    (decided_both (Sized × (length bins ≡ length items)) (Placed × Fits)
    (decided_both Sized (length bins ≡ length items) (decided_all (IsSize game.capacity) (decided_size game.capacity) items) (decided_eq (length bins) (length items)))
    (decided_both Placed Fits (decided_all (λ bin. bin < game.bins) (λ bin. decided_lt bin game.bins) bins)
    (decided_below (λ bin. bin_total bin items bins ≤ game.capacity) (λ bin. decided_le (bin_total bin items bins) game.capacity) game.bins)))

pub decided_packable : (game : GameNumbers) (items : List ℕ) → Decided (Packable game items)
decided_packable game items =
    decided_by (SomeList game.bins (length items) (IsAssignment game items)) (Packable game items) (λ s. (s.0, s.3)) (λ p. (p.0, p.1.one_each, p.1.of_game, p.1))
    (decided_list game.bins (length items) (IsAssignment game items) (decided_assignment game items))

pub decided_game : (game : GameNumbers) → Decided (IsGame game)
decided_game game =
    let Bins : Type 0 = (2 ≤ game.bins) × (game.bins ≤ 8) in
    let Capacity : Type 0 = (1 ≤ game.capacity) × (game.capacity ≤ 120) in
    let Target : Type 0 = (game.capacity < game.target) × (game.target ≤ 2 * game.capacity) in
    decided_by (Bins × (Capacity × Target)) (IsGame game)
    (λ h. record { bins = record { low = h.0.0; high = h.0.1 }; capacity = record { low = h.1.0.0; high = h.1.0.1 }; target = record { low = h.1.1.0; high = h.1.1.1 } })
    (λ h. ((h.bins.low, h.bins.high), ((h.capacity.low, h.capacity.high), (h.target.low, h.target.high))))
    (decided_both Bins (Capacity × Target) (decided_both (2 ≤ game.bins) (game.bins ≤ 8) (decided_le 2 game.bins) (decided_le game.bins 8))
    (decided_both Capacity Target (decided_both (1 ≤ game.capacity) (game.capacity ≤ 120) (decided_le 1 game.capacity) (decided_le game.capacity 120))
    (decided_both (game.capacity < game.target) (game.target ≤ 2 * game.capacity) (decided_lt game.capacity game.target) (decided_le game.target (2 * game.capacity)))))

-- ---- of positions

positions_equal : (p q : Position) → p.loads ≡ q.loads → p.items ≡ q.items → p ≡ q
positions_equal p q l i = ap (λ (x : List ℕ). position x p.items) l ∙ ap (λ (x : List ℕ). position q.loads x) i

pub decided_positions : (p q : Position) → Decided (p ≡ q)
decided_positions p q =
    decided_by ((p.loads ≡ q.loads) × (p.items ≡ q.items)) (p ≡ q) (λ h. positions_equal p q h.0 h.1) (λ e. (ap (λ (x : Position). x.loads) e, ap (λ (x : Position). x.items) e))
    (decided_both (p.loads ≡ q.loads) (p.items ≡ q.items) (decided_lists p.loads q.loads) (decided_lists p.items q.items))

some_is : (p : Position) (o : Option Position) → Decided (o ≡ Some p)
some_is p None = inr (λ e. (let none : None ≡ Some p = e in absurd cc))
some_is p (Some q) = decided_by (q ≡ p) (Some q ≡ Some p) (λ e. ap (λ (x : Position). Some x) e) (λ e. cc) (decided_positions q p)

pub decided_stands : (earlier : List Position) (child : ℕ) (p : Position) → Decided (StandsAt earlier child p)
decided_stands earlier child p = some_is p (slice_get earlier child)
