-- What follows a placement, its reference renamed.
use Rattle.std.specs.Prelude.{ℕ}
use Rattle.strategy_text.specs.declared.node.Then.{Then}
use Rattle.strategy_text.specs.declared.node.Then.TheVariants.{Over, To}

-- what follows, its reference renamed
abbrev pub renamed_then : (ℕ → ℕ) → Then → Then
renamed_then name Over = Over
renamed_then name (To child) = To (name child)
