use Rattle.std.specs.Prelude.{◌≡◌, ℕ, ◌+◌, ◌≤◌, Bool, false, List, length, Option, Some, None, IsSome, if◌then◌else◌}
use Rattle.std.specs.Map.{lookup, keys_of}
use Rattle.std.specs.List.{IsDistinct}

-- the entries of a map, each a key and its value, and how many it may have
pub record Bounded (K V : Type 0) : Type 0 where
  pub entries : List (K × V)
  pub capacity : ℕ

module _ {K V : Type 0} where
  abbrev pub bounded : List (K × V) → ℕ → Bounded K V
  bounded entries capacity = record { entries = entries; capacity = capacity }

  module _ (eq : K → K → Bool) where
    -- no key has two entries, and there are no more entries than the capacity
    pub record IsBoundedMap (map : Bounded K V) : Type 0 where
      pub one_each : IsDistinct eq (keys_of map.entries)
      pub within : length map.entries ≤ map.capacity

    -- the value of the key's entry; None where it has none
    abbrev pub found : List (K × V) → K → Option V
    found entries key = lookup (eq key) entries

    -- each key has the value that it had, and there are as many entries
    pub record SameEntries (old new : List (K × V)) : Type 0 where
      pub values : (key : K) → found new key ≡ found old key
      pub number : length new ≡ length old

    -- the key has the value, each other key what it had, and there are so many more entries
    pub record Puts (old new : List (K × V)) (key : K) (value : V) (more : ℕ) : Type 0 where
      pub values : (one : K) → found new one ≡ (if eq key one then Some value else found old one)
      pub number : length new ≡ length old + more

    -- the key has the value, one other key lost its entry, each further key has what it had, and there are as many
    -- entries
    pub record PutsForOther (old new : List (K × V)) (key : K) (value : V) (dropped : K) : Type 0 where
      pub other : eq key dropped ≡ false
      pub had : IsSome (found old dropped)
      pub values : (one : K)
          → found new one ≡ (if eq key one then Some value else (if eq dropped one then None else found old one))
      pub number : length new ≡ length old
