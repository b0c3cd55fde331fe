-- A rise in an inner call is a rise over the outer one.
use Rattle.std.proofs.Common.{◌↔◌, inl, inr, ⊎_elim, ℕ, ◌-◌, ◌^◌, ◌<◌, ◌≤◌, arith}
use Rattle.std.proofs.lemmas.Bool.{cases_lt}
use Rattle.port_io.specs.Faults.{Rose, GrewOrStandsAtLast}

-- the count rose, and then did not fall
pub Rose-then : (a b c : ℕ) → Rose a b → b ≤ c → Rose a c
Rose-then a b c rose more = omega arith

-- the count did not fall, and then rose
pub then-Rose : (a b c : ℕ) → a ≤ b → Rose b c → Rose a c
then-Rose a b c more rose = omega arith

grew_from : (before after : ℕ) → after ≤ 2 ^ 64 - 1 → Rose before after → GrewOrStandsAtLast before after
grew_from before after within rose = ⊎_elim (λ (grew : before < after). inl grew) (λ (not : after ≤ before). inr (omega (arith, within, rose, not))) (cases_lt before after)

rose_from : (before after : ℕ) → GrewOrStandsAtLast before after → Rose before after
rose_from before after (inl grew) = omega (arith, grew)
rose_from before after (inr last) = omega (arith, last)

-- that a count rose means that it grew, or stands at its last value
pub rose_means : (before after : ℕ) → after ≤ 2 ^ 64 - 1 → Rose before after ↔ GrewOrStandsAtLast before after
rose_means before after within = (grew_from before after within, rose_from before after)
