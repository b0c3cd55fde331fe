-- Packings of items with more items of one size, and upgraded nodes one after another.
use Rattle.std.proofs.Common.{◌≡◌, ℕ, ◌+◌, ◌*◌, ◌<◌, List, [], ◌∷◌, ◌++◌, Option, Some, None, length, get_or, take, replicate, sum, arith, ap, sym, subst, ◌∙◌}
use Rattle.std.specs.List.{AllZip}
use Rattle.std.specs.Prelude.{MatchOption}
use Rattle.std.proofs.lemmas.List.Elements.{all_zip_more}
use Rattle.std.proofs.lemmas.List.Sums.{sum_by-append}
use Rattle.std.proofs.lemmas.List.Folds.{sum_by-replicate}
use Rattle.items.specs.Game.{GameNumbers}
use Rattle.items.specs.Multiset.{put_times}
use Rattle.items.specs.Packable.{IsPacking, Packable}
use Rattle.items.proofs.MultisetLemmas.{Same-push_times}
use Rattle.items.proofs.SameLemmas.{Same-sym}
use Rattle.packing_witness.proofs.PackableLemmas.{IsPacking-Same, Packable-Same, sum-Packable-le}

-- items with a total above that of the bins are not packable
pub too_many : (game : GameNumbers) (items : List ℕ) (size count bins capacity volume n s : ℕ) → bins ≡ game.bins → capacity ≡ game.capacity → volume ≡ sum items → n ≡ count
    → s ≡ size → bins * capacity < volume + n * s → Packable game (items ++ replicate count size) → ⊥
too_many game items size count bins capacity volume n s m g v cn sz over p =
    let limit : bins * capacity ≡ game.bins * game.capacity = ap (λ x. x * capacity) m ∙ ap (λ y. game.bins * y) g in
    let more : n * s ≡ count * size = ap (λ x. x * s) cn ∙ ap (λ y. count * y) sz in
    omega (
      arith,
      limit,
      more,
      over,
      v,
      sum-Packable-le game (items ++ replicate count size) p,
      sum_by-append (λ x. x) items (replicate count size),
      sum_by-replicate (λ x. x) count size,
    )

-- a packing of the items in order is one of the items with the others at the end
pub packed_with : (game : GameNumbers) (items made : List ℕ) (size count : ℕ) (found : Option (List (List ℕ))) → made ≡ put_times count size items
    → MatchOption found (Packable game made → ⊥) (λ packing. IsPacking game packing made)
    → MatchOption found (Packable game (items ++ replicate count size) → ⊥) (λ packing. IsPacking game packing (items ++ replicate count size))
packed_with game items made size count None e not = λ p. not (subst (λ xs. Packable game xs) (sym e)
    (Packable-Same game (items ++ replicate count size) (put_times count size items) (Same-push_times count size items) p))
packed_with game items made size count (Some bins) e packing =
    IsPacking-Same game bins (put_times count size items) (items ++ replicate count size)
    (Same-sym (items ++ replicate count size) (put_times count size items) (Same-push_times count size items))
    (subst (λ xs. IsPacking game bins xs) e packing)

-- one more node
pub zip_more : {X : Type 0} (R : X → X → Type 0) (xs ys next : List X) (i : ℕ) (x y : X) → i < length xs → x ≡ get_or xs i x → AllZip R (take i xs) ys → R x y
    → next ≡ ys ++ y ∷ [] → AllZip R (take (i + 1) xs) next
zip_more R xs ys next i x y l is zip r e = subst (λ zs. AllZip R (take (i + 1) xs) zs) (sym e) (all_zip_more R xs ys i x y l is zip r)
