-- Serves private contracts: some of the numbers below a count, each once, in an order.
use Rattle.std.specs.Prelude.{◌≡◌, ◌==◌, ℕ, ◌<◌, ◌≤◌, nat_eq, List, Option, length, map, take, position, All}
use Rattle.std.specs.Prelude.{Contains, slice_index}
use Rattle.std.specs.List.{range_with_len, IsDistinct}
use Rattle.strategy_text.specs.Spelling.{most_nodes}

pub record Ordering : Type 0 where
  pub numbers : List ℕ
  pub count : ℕ

abbrev pub ordering : List ℕ → ℕ → Ordering
ordering numbers count = record { numbers = numbers; count = count }

-- each number stands once and is below the count
pub record IsOrdering (order : Ordering) : Type 0 where
  pub once : IsDistinct nat_eq order.numbers
  pub below : All (λ number. number < order.count) order.numbers
  pub few : order.count ≤ most_nodes

-- the place of each number below the count, if it has one
pub record IsPlaced (numbers : List ℕ) (places : List (Option ℕ)) : Type 0 where
  pub legal : IsOrdering (ordering numbers (length places))
  pub each : places ≡ map (λ number. position (λ other. other == number) numbers) (range_with_len 0 (length places))

-- what each number leads to stands before it
abbrev pub IsOrdered : (ℕ → List ℕ) → List ℕ → Type 0
IsOrdered leads numbers =
    (k : ℕ) → k < length numbers → All (Contains (take k numbers)) (leads (slice_index numbers k))
