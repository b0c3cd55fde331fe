-- Serves private contracts: the two forms in which a table keeps positions.
use Rattle.std.specs.Prelude.{◌≡◌, true, false}
use Rattle.loads.specs.declared.position.Position.{Position}
use Rattle.transposition.specs.declared.key.Form.{Form}
use Rattle.transposition.specs.declared.key.Form.TheVariants.{Small, Large}
use Rattle.transposition.specs.SmallPositions.{are_small}

-- the position that a form stands for
abbrev pub position_of_form : Form → Position
position_of_form (Small small) = small
position_of_form (Large packed) = packed

-- the form is that in which positions with these items are kept
abbrev pub IsFormOfItems : Form → Type 0
IsFormOfItems (Small small) = are_small small.items ≡ true
IsFormOfItems (Large packed) = are_small packed.items ≡ false
