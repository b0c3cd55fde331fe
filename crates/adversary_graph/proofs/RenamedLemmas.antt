-- What follows a placement under two namings.
use Rattle.std.proofs.Common.{◌≡◌, ℕ, refl, ap}
use Rattle.std.specs.Prelude.{IfSome}
use Rattle.strategy_text.specs.declared.node.Then.{Then}
use Rattle.strategy_text.specs.declared.node.Then.TheVariants.{Over, To}
use Rattle.adversary_graph.specs.Play.{child_of}
use Rattle.adversary_graph.specs.Renamed.{renamed_then}

-- it is the same where both name its child alike
pub renamed_alike : (name another : ℕ → ℕ) (next : Then) → IfSome (child_of next) (λ child. name child ≡ another child) → renamed_then name next ≡ renamed_then another next
renamed_alike name another Over h = refl
renamed_alike name another (To child) h = ap To h
