-- Serves private contracts: what holds of the nodes of a legal strategy, whatever a node is.
use Rattle.std.specs.Prelude.{◌≡◌, ℕ, ◌<◌, List, Some, All, slice_get}

-- each reference is to a node before its own
abbrev pub LeadBack : List (List ℕ) → Type 0
LeadBack references =
    (number : ℕ) (children : List ℕ) → slice_get references number ≡ Some children
    → All (λ child. child < number) children
