-- Words of numbers of any width. These definitions serve private contracts alone.
use Rattle.std.specs.Prelude.{ℕ, List, [], ◌∷◌, map, codes}

-- a list of what is spelled so: a dash for none, else the words
abbrev pub words_of : {X : Type 0} → (X → List ℕ) → List X → List (List ℕ)
words_of spelled [] = codes "-" ∷ []
words_of spelled (x ∷ xs) = map spelled (x ∷ xs)
