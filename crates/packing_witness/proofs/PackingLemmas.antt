-- Packings after a number is taken out and on another scale, and the room.
use Rattle.std.proofs.Common.{◌≡◌, ℕ, ◌+◌, ◌*◌, ◌<◌, ◌≤◌, Some, None, List, [], ◌∷◌, ◌++◌, get_or, map, sum, cond, eqb, refl, sym, ap, ◌∙◌, inl, inr, arith}
use Rattle.std.specs.Prelude.{All}
use Rattle.std.specs.List.{concat, sum_by}
use Rattle.std.proofs.lemmas.Bool.{cases_eq, cases_lt}
use Rattle.std.proofs.lemmas.List.{length-map, map-append}
use Rattle.std.proofs.lemmas.List.Sums.{sum_by-cons, sum-map, get_or-le-sum_by}
use Rattle.std.proofs.lemmas.List.Elements.{All-head, All-tail, All-get_or, All-from_get_or, All-weaker, All-map}
use Rattle.std.proofs.Math.Nat.{mul-le-mul_right}
use Rattle.items.specs.Game.{GameNumbers, numbers}
use Rattle.items.specs.Multiset.{count, Same, IsSize}
use Rattle.items.specs.Packable.{Packable, IsPacking, IsRoom}
use Rattle.items.proofs.MultisetLemmas.{count-append, count_this, sum_by-Same}
use Rattle.packing_witness.specs.Edits.{without, scaled}
use Rattle.items.proofs.MemberLemmas.{count-concat}
use Rattle.packing_witness.proofs.PackableLemmas.{at_count, first_out_none, without_here, IsTakenFrom, Packable-smaller_last}

-- nothing is taken out where no bin has the item, and only there
pub without_none : (item : ℕ) (bins : List (List ℕ)) → All (λ bin. count item bin ≡ 0) bins → without item bins ≡ None
without_none item [] none = refl
without_none item (bin ∷ bins) none =
    let t = first_out_none item bin (All-head (λ bin. count item bin ≡ 0) bin bins none) in
    let r = without_none item bins (All-tail (λ bin. count item bin ≡ 0) bin bins none) in
    rw (t, r) refl

pub none_from_without : (item : ℕ) (bins : List (List ℕ)) → without item bins ≡ None → All (λ bin. count item bin ≡ 0) bins
none_from_without item bins e = elim (cases_lt 0 (count item (concat bins))) [
  | inl some ↦ let t = without_here item bins some in let is = t.2.is in cc
  | inr none ↦ All-from_get_or (λ bin. count item bin ≡ 0) bins [] (λ k l. omega (arith, none, count-concat item bins, get_or-le-sum_by (count item) bins k [] l))
]

-- what is left of bins is no fuller
fits_without : (most item place : ℕ) (bins rest : List (List ℕ)) → IsTakenFrom item place bins rest → All (λ bin. sum bin ≤ most) bins → All (λ bin. sum bin ≤ most) rest
fits_without most item place bins rest taken fits =
    All-from_get_or (λ bin. sum bin ≤ most) rest []
    (λ k l. let fit = All-get_or (λ bin. sum bin ≤ most) bins k [] (omega (arith, l, taken.one_each)) fits in elim (cases_eq k place) [
      | inl e ↦ omega (arith, fit, taken.here, ap (λ n. sum (get_or rest n [])) e, ap (λ n. sum (get_or bins n [])) e)
      | inr ne ↦ omega (arith, fit, ap sum (taken.others k ne))
    ])

-- a packing without one of its items is a packing of the others
pub IsPacking-without : (game : GameNumbers) (items others : List ℕ) (item : ℕ) (bins rest : List (List ℕ))
    → ((x : ℕ) → cond (eqb x item) 1 0 + count x others ≡ count x items) → IsPacking game bins items → without item bins ≡ Some rest → IsPacking game rest others
IsPacking-without game items others item bins rest one_more p e =
    let some : 0 < count item (concat bins) = omega (arith, p.together item, one_more item, count_this item item (count item others) refl) in
    let t = without_here item bins some in
    let is = t.2.is in
    let same : t.0 ≡ rest = cc in
    rw (← same) (record {
      one_each = t.2.one_each ∙ p.one_each;
      fits = fits_without game.capacity item t.1 bins t.0 t.2 p.fits;
      together = λ x. omega (arith, t.2.counts x, p.together x, one_more x);
    })

pub IsPacking-without_last : (game : GameNumbers) (items : List ℕ) (item : ℕ) (bins rest : List (List ℕ)) → IsPacking game bins (items ++ item ∷ [])
    → without item bins ≡ Some rest → IsPacking game rest items
IsPacking-without_last game items item bins rest p e =
    IsPacking-without game (items ++ item ∷ []) items item bins rest (λ x. omega (arith, count-append x items (item ∷ []))) p e

-- an item of a packing can be taken out
pub without_some : (game : GameNumbers) (items : List ℕ) (item : ℕ) (bins : List (List ℕ)) → IsPacking game bins items → 0 < count item items → (rest : List (List ℕ))
    × (without item bins ≡ Some rest)
without_some game items item bins p some =
    let t = without_here item bins (omega (arith, some, p.together item)) in (t.0, t.2.is)

-- numbers times a factor
sum_times : (factor : ℕ) (xs : List ℕ) → sum_by (λ x. x * factor) xs ≡ sum xs * factor
sum_times factor [] = omega arith
sum_times factor (x ∷ xs) =
    omega (arith, sum_by-cons (λ x. x * factor) x xs, sum_by-cons (λ n. n) x xs, sum_times factor xs, ap (λ n. n * factor) (sum_by-cons (λ n. n) x xs))

bin_times : (factor most : ℕ) (bin : List ℕ) → sum bin ≤ most → sum (map (λ size. size * factor) bin) ≤ most * factor
bin_times factor most bin fits =
    omega (arith, sum-map (λ size. size * factor) bin, sum_times factor bin, mul-le-mul_right factor fits)

concat-map : (f : ℕ → ℕ) (xss : List (List ℕ)) → concat (map (map f) xss) ≡ map f (concat xss)
concat-map f [] = refl
concat-map f (xs ∷ xss) = ap (λ ys. map f xs ++ ys) (concat-map f xss) ∙ sym (map-append f xs (concat xss))

count-map : (f : ℕ → ℕ) (x : ℕ) (xs : List ℕ) → count x (map f xs) ≡ sum_by (λ y. cond (eqb x (f y)) 1 0) xs
count-map f x [] = refl
count-map f x (y ∷ ys) = omega (arith, count-map f x ys, sum_by-cons (λ y. cond (eqb x (f y)) 1 0) y ys)

Same-map : (f : ℕ → ℕ) (xs ys : List ℕ) → Same xs ys → Same (map f xs) (map f ys)
Same-map f xs ys s x = count-map f x xs ∙ sum_by-Same (λ y. cond (eqb x (f y)) 1 0) xs ys s ∙ sym (count-map f x ys)

-- a packing on another scale
pub IsPacking-scaled : (game : GameNumbers) (items : List ℕ) (factor : ℕ) (bins : List (List ℕ)) → IsPacking game bins items
    → IsPacking (numbers game.bins (game.capacity * factor) (game.target * factor)) (scaled factor bins) (map (λ size. size * factor) items)
IsPacking-scaled game items factor bins p = record {
  one_each = length-map bins (map (λ size. size * factor)) ∙ p.one_each;
  fits = All-map (λ bin. sum bin ≤ game.capacity * factor) (map (λ size. size * factor)) bins
      (All-weaker (λ bin. sum bin ≤ game.capacity) (λ bin. sum (map (λ size. size * factor) bin) ≤ game.capacity * factor) (bin_times factor game.capacity) bins p.fits);
  together = λ x. ap (count x) (concat-map (λ size. size * factor) bins) ∙ Same-map (λ size. size * factor) (concat bins) items p.together x;
}

-- the sizes that may come next
pub size_of_last : (game : GameNumbers) (items : List ℕ) (size : ℕ) → Packable game (items ++ size ∷ []) → IsSize game.capacity size
size_of_last game items size p =
    at_count (IsSize game.capacity) size (items ++ size ∷ []) p.1.item_list (omega (arith, count-append size items (size ∷ []), count_this size size 0 refl))

pub le_room : (game : GameNumbers) (items : List ℕ) (room size : ℕ) → IsRoom game items room → Packable game (items ++ size ∷ []) → size ≤ room
le_room game items room size r p = elim (cases_lt room size) [
  | inl above ↦ absurd (r.greatest size above (size_of_last game items size p).high p)
  | inr within ↦ within
]

pub Packable-from_room : (game : GameNumbers) (items : List ℕ) (room size : ℕ) → IsRoom game items room → 1 ≤ size → size ≤ room → Packable game (items ++ size ∷ [])
Packable-from_room game items room size r some within =
    Packable-smaller_last game items room size some within (r.may_come (omega (arith, some, within)))
