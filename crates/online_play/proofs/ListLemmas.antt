-- The packable lists of a game, written out.
use Rattle.std.proofs.Common.{◌≡◌, ℕ, zero, suc, ◌*◌, ◌<◌, ◌≤◌, Bool, true, ◌&&◌, List, [], ◌∷◌, length, get_or, map, sum, refl, sym, ap, ◌∙◌, ◌⊎◌, ⊎_elim, inl}
use Rattle.std.proofs.Common.{inr, subst, arith}
use Rattle.std.specs.Prelude.{All, Contains, nat_le, filter}
use Rattle.std.specs.List.{range_with_len, flat_map, list_any}
use Rattle.std.proofs.lemmas.Bool.{leb-true, le-leb, and_parts, and_from, cases_Bool, cases_lt, true≢false}
use Rattle.std.proofs.lemmas.List.Folds.{Any-from_list_any, list_any-from_Any}
use Rattle.std.proofs.lemmas.List.Sums.{AllPass-from_list_all, list_all-from_AllPass, sum_by-cons}
use Rattle.std.proofs.lemmas.List.Elements.{All-nil, All-cons, All-head, All-tail, All-append, All-map, All-weaker, All-contains, All-contains_itself}
use Rattle.std.proofs.lemmas.List.Elements.{Contains-append_left, Contains-append_right, filter_passes}
use Rattle.items.specs.Game.{GameNumbers}
use Rattle.items.specs.Multiset.{IsSize, sizes_of}
use Rattle.items.specs.Packable.{Packable, bin_total}
use Rattle.items.proofs.SizesLemmas.{within_range, Contains-range, Contains_from_size}
use Rattle.packing_witness.proofs.PackableLemmas.{sum-Packable-le}
use Rattle.online_play.specs.Algorithm.{loads_by_bin}
use Rattle.online_play.specs.PackableLists.{lists_of_length, lists_up_to, are_sizes, fits, is_packable, packable_lists}
use Rattle.online_play.proofs.RunLemmas.{length-loads_by_bin, get_or-loads_by_bin}

module _ {X : Type 0} where
  cases_at : (x : X) (xs : List X) (y : X) (k : ℕ) → k < length (x ∷ xs) → get_or (x ∷ xs) k y ≡ y → (x ≡ y) ⊎ Contains xs y
  cases_at x xs y zero l e = inl e
  cases_at x xs y (suc k) l e = inr (k, omega arith, e)

  -- an element of a list is its first or stands after it
  pub Contains-cons_cases : (x : X) (xs : List X) (y : X) → Contains (x ∷ xs) y → (x ≡ y) ⊎ Contains xs y
  Contains-cons_cases x xs y h = cases_at x xs y h.0 h.1 h.2

  pub Contains-here : (x : X) (xs : List X) → Contains (x ∷ xs) x
  Contains-here x xs = (0, omega arith, refl)

  pub Contains-later : (x : X) (xs : List X) (y : X) → Contains xs y → Contains (x ∷ xs) y
  Contains-later x xs y h = (suc h.0, omega (arith, h.1), h.2)

  none : (y : X) → Contains [] y → ⊥
  none y h = omega (arith, h.1)

  -- what passes a test stays in the filtered list
  pub Contains-filter : (p : X → Bool) (xs : List X) (y : X) → Contains xs y → p y ≡ true → Contains (filter p xs) y
  Contains-filter p [] y h pass = absurd (none y h)
  Contains-filter p (x ∷ xs) y h pass = elim (cases_Bool (p x)) [
    | inl e ↦ rw e (⊎_elim (λ q. subst (Contains (x ∷ filter p xs)) q (Contains-here x (filter p xs)))
        (λ later. Contains-later x (filter p xs) y (Contains-filter p xs y later pass)) (Contains-cons_cases x xs y h))
    | inr e ↦ rw e (⊎_elim (λ q. absurd (true≢false (sym pass ∙ ap p (sym q) ∙ e))) (λ later. Contains-filter p xs y later pass) (Contains-cons_cases x xs y h))
  ]

module _ {X Y : Type 0} where
  pub Contains-map : (f : X → Y) (xs : List X) (x : X) → Contains xs x → Contains (map f xs) (f x)
  Contains-map f [] x h = absurd (none x h)
  Contains-map f (y ∷ xs) x h =
      ⊎_elim (λ q. subst (Contains (f y ∷ map f xs)) (ap f q) (Contains-here (f y) (map f xs)))
      (λ later. Contains-later (f y) (map f xs) (f x) (Contains-map f xs x later)) (Contains-cons_cases y xs x h)

  pub Contains-flat_map : (f : X → List Y) (xs : List X) (x : X) (y : Y) → Contains xs x → Contains (f x) y → Contains (flat_map f xs) y
  Contains-flat_map f [] x y h k = absurd (none x h)
  Contains-flat_map f (z ∷ xs) x y h k =
      ⊎_elim (λ q. Contains-append_left (f z) (flat_map f xs) y (subst (λ w. Contains (f w) y) (sym q) k))
      (λ later. Contains-append_right (f z) (flat_map f xs) y (Contains-flat_map f xs x y later k)) (Contains-cons_cases z xs x h)

  pub All-flat_map : (P : X → Type 0) (Q : Y → Type 0) (f : X → List Y) → ((x : X) → P x → All Q (f x)) → (xs : List X) → All P xs → All Q (flat_map f xs)
  All-flat_map P Q f each [] h = All-nil Q
  All-flat_map P Q f each (x ∷ xs) h = All-append Q (f x) (flat_map f xs) (each x (All-head P x xs h)) (All-flat_map P Q f each xs (All-tail P x xs h))

-- a list of this length with numbers from the choices
record IsListOver (choices : List ℕ) (n : ℕ) (xs : List ℕ) : Type 0 where
  length_is : length xs ≡ n
  chosen : All (Contains choices) xs

longer : (choices : List ℕ) (n : ℕ) (rest : List ℕ) → IsListOver choices n rest → All (IsListOver choices (suc n)) (map (λ x. x ∷ rest) choices)
longer choices n rest h =
    All-map (IsListOver choices (suc n)) (λ x. x ∷ rest) choices
    (All-weaker (Contains choices) (λ x. IsListOver choices (suc n) (x ∷ rest))
    (λ x c. record { length_is = ap suc h.length_is; chosen = All-cons (Contains choices) x rest c h.chosen }) choices (All-contains_itself choices))

lists_are_over : (choices : List ℕ) (n : ℕ) → All (IsListOver choices n) (lists_of_length choices n)
lists_are_over choices zero = All-cons (IsListOver choices 0) [] [] (record { length_is = refl; chosen = All-nil (Contains choices) }) (All-nil (IsListOver choices 0))
lists_are_over choices (suc n) =
    All-flat_map (IsListOver choices n) (IsListOver choices (suc n)) (λ rest. map (λ x. x ∷ rest) choices) (longer choices n) (lists_of_length choices n) (lists_are_over choices n)

pub over_is_listed : (choices : List ℕ) (n : ℕ) (xs : List ℕ) → length xs ≡ n → All (Contains choices) xs → Contains (lists_of_length choices n) xs
over_is_listed choices zero [] e h = Contains-here [] []
over_is_listed choices zero (x ∷ xs) e h = absurd (omega arith)
over_is_listed choices (suc n) [] e h = absurd (omega arith)
over_is_listed choices (suc n) (x ∷ xs) e h =
    Contains-flat_map (λ rest. map (λ y. y ∷ rest) choices) (lists_of_length choices n) xs (x ∷ xs)
    (over_is_listed choices n xs (omega arith) (All-tail (Contains choices) x xs h))
    (Contains-map (λ y. y ∷ xs) choices x (All-head (Contains choices) x xs h))

pub over_is_up_to : (choices : List ℕ) (n : ℕ) (xs : List ℕ) → length xs ≤ n → All (Contains choices) xs → Contains (lists_up_to choices n) xs
over_is_up_to choices zero [] e h = Contains-here [] []
over_is_up_to choices zero (x ∷ xs) e h = absurd (omega arith)
over_is_up_to choices (suc n) xs e h = elim (cases_lt n (length xs)) [
  | inl l ↦ Contains-append_right (lists_up_to choices n) (lists_of_length choices (suc n)) xs (over_is_listed choices (suc n) xs (omega arith) h)
  | inr l ↦ Contains-append_left (lists_up_to choices n) (lists_of_length choices (suc n)) xs (over_is_up_to choices n xs l h)
]

-- the tests of sizes and of bins
pub sizes_from_test : (game : GameNumbers) (items : List ℕ) → are_sizes game items ≡ true → All (IsSize game.capacity) items
sizes_from_test game items e =
    All-weaker (λ size. (nat_le 1 size && nat_le size game.capacity) ≡ true) (IsSize game.capacity)
    (λ size t. let p = and_parts (nat_le 1 size) (nat_le size game.capacity) t in record { low = leb-true 1 size p.0; high = leb-true size game.capacity p.1 })
    items (AllPass-from_list_all (λ size. nat_le 1 size && nat_le size game.capacity) items e)

pub test_from_sizes : (game : GameNumbers) (items : List ℕ) → All (IsSize game.capacity) items → are_sizes game items ≡ true
test_from_sizes game items h =
    list_all-from_AllPass (λ size. nat_le 1 size && nat_le size game.capacity) items
    (All-weaker (IsSize game.capacity) (λ size. (nat_le 1 size && nat_le size game.capacity) ≡ true)
    (λ size s. and_from (nat_le 1 size) (nat_le size game.capacity) (le-leb 1 size s.low) (le-leb size game.capacity s.high)) items h)

pub totals_from_test : (game : GameNumbers) (items bins : List ℕ) → fits game items bins ≡ true → (bin : ℕ) → bin < game.bins → bin_total bin items bins ≤ game.capacity
totals_from_test game items bins e bin l =
    let all = AllPass-from_list_all (λ total. nat_le total game.capacity) (loads_by_bin game items bins) e in
    let here = leb-true (get_or (loads_by_bin game items bins) bin 0) game.capacity (all bin 0 (omega (arith, l, length-loads_by_bin game items bins))) in
    omega (arith, here, get_or-loads_by_bin game items bins bin 0 l)

pub test_from_totals : (game : GameNumbers) (items bins : List ℕ) → ((bin : ℕ) → bin < game.bins → bin_total bin items bins ≤ game.capacity) → fits game items bins ≡ true
test_from_totals game items bins h =
    list_all-from_AllPass (λ total. nat_le total game.capacity) (loads_by_bin game items bins) (λ bin d l.
    let within : bin < game.bins = omega (arith, l, length-loads_by_bin game items bins) in
    le-leb (get_or (loads_by_bin game items bins) bin d) game.capacity (omega (arith, h bin within, get_or-loads_by_bin game items bins bin d within)))

-- the test tells the packable lists
pub packable_from_test : (game : GameNumbers) (items : List ℕ) → is_packable game items ≡ true → Packable game items
unfolding is_packable
packable_from_test game items e =
    let choices : List ℕ = range_with_len 0 game.bins in
    let lists : List (List ℕ) = lists_of_length choices (length items) in
    let p = and_parts (are_sizes game items) (list_any (fits game items) lists) e in
    let found = Any-from_list_any (fits game items) lists p.1 in
    let over = All-contains (IsListOver choices (length items)) lists found.1 (lists_are_over choices (length items)) (found.0, found.2, found.3) in (
      found.1,
      record {
        item_list = sizes_from_test game items p.0;
        one_each = over.length_is;
        of_game = All-weaker (Contains choices) (λ bin. bin < game.bins) (λ bin c. let r = within_range 0 game.bins bin c in omega (arith, r.1)) found.1 over.chosen;
        fits = totals_from_test game items found.1 found.4;
      },
    )

pub test_from_packable : (game : GameNumbers) (items : List ℕ) → Packable game items → is_packable game items ≡ true
unfolding is_packable
test_from_packable game items p =
    let choices : List ℕ = range_with_len 0 game.bins in
    let lists : List (List ℕ) = lists_of_length choices (length items) in
    let chosen = All-weaker (λ bin. bin < game.bins) (Contains choices) (λ bin l. Contains-range 0 game.bins bin (omega arith) (omega (arith, l))) p.0 p.1.of_game in
    let listed = over_is_listed choices (length items) p.0 p.1.one_each chosen in
    and_from (are_sizes game items) (list_any (fits game items) lists) (test_from_sizes game items p.1.item_list)
    (list_any-from_Any (fits game items) lists (listed.0, p.0, listed.1, listed.2, test_from_totals game items p.0 p.1.fits))

-- a list of sizes is no longer than its total
pub length-le-sum : (most : ℕ) (items : List ℕ) → All (IsSize most) items → length items ≤ sum items
length-le-sum most [] h = omega arith
length-le-sum most (x ∷ items) h =
    let s = All-head (IsSize most) x items h in
    omega (arith, s.low, length-le-sum most items (All-tail (IsSize most) x items h), sum_by-cons (λ n. n) x items)

pub written_is_packable : (game : GameNumbers) (items : List ℕ) → Contains (packable_lists game) items → Packable game items
unfolding packable_lists
written_is_packable game items h =
    let lists : List (List ℕ) = lists_up_to (sizes_of game) (game.bins * game.capacity) in
    packable_from_test game items (All-contains (λ xs. is_packable game xs ≡ true) (filter (is_packable game) lists) items (filter_passes (is_packable game) lists) h)

pub packable_is_written : (game : GameNumbers) (items : List ℕ) → Packable game items → Contains (packable_lists game) items
unfolding packable_lists
packable_is_written game items p =
    let lists : List (List ℕ) = lists_up_to (sizes_of game) (game.bins * game.capacity) in
    let chosen = All-weaker (IsSize game.capacity) (Contains (sizes_of game)) (Contains_from_size game.capacity) items p.1.item_list in
    let short = sum-Packable-le game items p in
    let few = length-le-sum game.capacity items p.1.item_list in
    Contains-filter (is_packable game) lists items (over_is_up_to (sizes_of game) (game.bins * game.capacity) items (omega arith) chosen) (test_from_packable game items p)
