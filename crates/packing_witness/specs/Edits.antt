use Rattle.std.specs.Prelude.{ℕ, ◌==◌, ◌*◌, ◌≤◌, Option, Some, None, List, [], ◌∷◌, if◌then◌else◌, map, option_map, All}
use Rattle.std.specs.Option.{option_or}
use Rattle.items.specs.declared.limits.TheConstants.{MOST_NUMBER}

-- what is left of a list when the first such number is taken out; None where it has none
abbrev pub first_out : ℕ → List ℕ → Option (List ℕ)
first_out item [] = None
first_out item (x ∷ xs) = if item == x then Some xs else option_map (λ rest. x ∷ rest) (first_out item xs)

-- the bins when the first such number of the first bin that has one is taken out; None where no bin has it
abbrev pub without : ℕ → List (List ℕ) → Option (List (List ℕ))
without item [] = None
without item (bin ∷ bins) =
    option_or (option_map (λ rest. rest ∷ bins) (first_out item bin))
    (option_map (λ rest. bin ∷ rest) (without item bins))

-- each number of each bin times a factor
abbrev pub scaled : ℕ → List (List ℕ) → List (List ℕ)
scaled factor bins = map (map (λ size. size * factor)) bins

-- each number of each bin times a factor is at most 65,535
abbrev pub CanScale : ℕ → List (List ℕ) → Type 0
CanScale factor bins = All (All (λ size. size * factor ≤ MOST_NUMBER)) bins
