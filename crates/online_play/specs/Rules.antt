use Rattle.std.specs.Prelude.{ℕ, ◌+◌, ◌==◌, Bool, ◌&&◌, nat_lt, List, [], ◌∷◌, filter, fold, position, unwrap_or, max}
use Rattle.std.specs.Prelude.{min}

-- whether a load stays below the target with one more item
abbrev pub stays_below : ℕ → ℕ → ℕ → Bool
stays_below target size load = nat_lt (load + size) target

-- the lowest bin whose load passes a test, and bin 0 where none does
abbrev pub lowest_bin : (ℕ → Bool) → List ℕ → ℕ
lowest_bin test loads = unwrap_or (position test loads) 0

-- the greatest number of a list, and 0 of the empty one
abbrev pub greatest : List ℕ → ℕ
greatest numbers = fold max 0 numbers

-- the least number of a list, and 0 of the empty one
abbrev pub least : List ℕ → ℕ
least [] = 0
least (first ∷ numbers) = fold min first numbers

-- first fit: the lowest bin whose load stays below the target
abbrev pub first_fit : ℕ → List ℕ → ℕ → ℕ
first_fit target loads size = lowest_bin (stays_below target size) loads

-- best fit: of the loads that stay below the target the greatest, and of the bins with that load the lowest
abbrev pub best_fit : ℕ → List ℕ → ℕ → ℕ
best_fit target loads size =
    let most = greatest (filter (stays_below target size) loads) in
    lowest_bin (λ load. stays_below target size load && load == most) loads

-- least loaded: the least load, and of the bins with that load the lowest
abbrev pub least_loaded : ℕ → List ℕ → ℕ → ℕ
least_loaded target loads size = lowest_bin (λ load. load == least loads) loads
