-- Serves private contracts: what belongs to a position that is expanded.
use Rattle.std.specs.Prelude.{◌≡◌}
use Rattle.loads.specs.Descending.{distinct}
use Rattle.minimax.specs.declared.expanding.Expansion.{Expansion}

-- the key and the different loads are those of the position
pub record IsWhole (here : Expansion) : Type 0 where
  pub of_key : here.key.now ≡ here.position.now
  pub of_loads : here.loads.now ≡ distinct here.position.now.loads
