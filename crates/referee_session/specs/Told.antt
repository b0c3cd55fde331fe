-- Items and the bin of each, as private contracts see them; nothing here has to be believed.
use Rattle.std.specs.Prelude.{ℕ, List}

pub record ToldItems : Type 0 where
  pub items : List ℕ
  pub bins : List ℕ

abbrev pub told : List ℕ → List ℕ → ToldItems
told items bins = record { items = items; bins = bins }
