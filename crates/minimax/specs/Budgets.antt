use Rattle.std.specs.Prelude.{ℕ, ◌≤◌, map, sum}
use Rattle.std.specs.List.{range_with_len}
use Rattle.items.specs.Game.{GameNumbers}
use Rattle.monotone.specs.Positions.{CountsAllReachable, CountsReachableOfPass}
use Rattle.minimax.specs.declared.answer.Answer.{Answer}
use Rattle.minimax.specs.declared.answer.Answer.TheVariants.{Adversary, Algorithm, Undecided}

-- a table of this capacity has room for all reachable positions
abbrev pub HasRoom : GameNumbers → ℕ → Type 0
HasRoom game room = (all : ℕ) × CountsAllReachable game all × (all ≤ room)

-- so many numbers of reachable positions, from the first pass on, together
abbrev pub reachable_before : (ℕ → ℕ) → ℕ → ℕ
reachable_before numbers pass = sum (map numbers (range_with_len 0 pass))

-- the numbers of positions that are reachable in each pass
abbrev pub AreNumbersOfReachable : GameNumbers → (ℕ → ℕ) → Type 0
AreNumbersOfReachable game numbers = (pass : ℕ) → CountsReachableOfPass game pass (numbers pass)

-- the adversary wins
abbrev pub IsOfAdversary : Answer → Type 0
IsOfAdversary (Adversary strategy) = Unit {0}
IsOfAdversary (Algorithm strategy) = ⊥
IsOfAdversary (Undecided visits pass path) = ⊥
