-- The lists of the tests are packable.
use Rattle.std.proofs.Common.{◌≡◌, ℕ, true, List, [], ◌∷◌, refl, sym, subst}
use Rattle.items.specs.Game.{GameNumbers, numbers}
use Rattle.items.specs.Packable.{Packable}
use Rattle.online_play.specs.PackableLists.{is_packable}
use Rattle.online_play.proofs.ListLemmas.{packable_from_test}

by_test : (game same : GameNumbers) (items : List ℕ) → game ≡ same → is_packable same items ≡ true → Packable game items
by_test game same items e h = subst (λ g. Packable g items) (sym e) (packable_from_test same items h)

module _ (game : GameNumbers) (is : game ≡ numbers 2 6 8) where
  pub of_3 : Packable game (3 ∷ [])
  unfolding is_packable
  of_3 = by_test game (numbers 2 6 8) (3 ∷ []) is refl

  pub of_3_2 : Packable game (3 ∷ 2 ∷ [])
  unfolding is_packable
  of_3_2 = by_test game (numbers 2 6 8) (3 ∷ 2 ∷ []) is refl

  pub of_3_5 : Packable game (3 ∷ 5 ∷ [])
  unfolding is_packable
  of_3_5 = by_test game (numbers 2 6 8) (3 ∷ 5 ∷ []) is refl

  pub of_3_5_1 : Packable game (3 ∷ 5 ∷ 1 ∷ [])
  unfolding is_packable
  of_3_5_1 = by_test game (numbers 2 6 8) (3 ∷ 5 ∷ 1 ∷ []) is refl

  pub of_4_4_1 : Packable game (4 ∷ 4 ∷ 1 ∷ [])
  unfolding is_packable
  of_4_4_1 = by_test game (numbers 2 6 8) (4 ∷ 4 ∷ 1 ∷ []) is refl

  pub of_3_2_1 : Packable game (3 ∷ 2 ∷ 1 ∷ [])
  unfolding is_packable
  of_3_2_1 = by_test game (numbers 2 6 8) (3 ∷ 2 ∷ 1 ∷ []) is refl

module _ (game : GameNumbers) (is : game ≡ numbers 2 3 4) where
  pub of_1_1_2 : Packable game (1 ∷ 1 ∷ 2 ∷ [])
  unfolding is_packable
  of_1_1_2 = by_test game (numbers 2 3 4) (1 ∷ 1 ∷ 2 ∷ []) is refl

  pub of_1_1_2_2 : Packable game (1 ∷ 1 ∷ 2 ∷ 2 ∷ [])
  unfolding is_packable
  of_1_1_2_2 = by_test game (numbers 2 3 4) (1 ∷ 1 ∷ 2 ∷ 2 ∷ []) is refl
