-- Counts of faults, which never fall and stand still at the last value of 64 bits.
use Rattle.std.specs.Prelude.{◌≡◌, ◌⊎◌, ℕ, ◌+◌, ◌-◌, ◌^◌, ◌<◌, ◌≤◌, min}

-- a count rose: it is greater than before, or stands at its last value
abbrev pub Rose : ℕ → ℕ → Type 0
Rose before after = min (before + 1) (2 ^ 64 - 1) ≤ after

-- the count grew, or stands at the last value of 64 bits, 18,446,744,073,709,551,615
abbrev pub GrewOrStandsAtLast : ℕ → ℕ → Type 0
GrewOrStandsAtLast before after = (before < after) ⊎ (after ≡ 2 ^ 64 - 1)
