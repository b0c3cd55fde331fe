use Rattle.strategy_transfer.specs.declared.fault.TransferFault.{TransferFault}
use Rattle.strategy_transfer.specs.declared.fault.TransferFault.TheVariants.{Game, Memory}

-- why a strategy was not moved to a game: it cannot be moved there, or it can and memory was refused
abbrev pub IsFaultOf : Type 0 → TransferFault → Type 0
IsFaultOf Can Game = ¬ Can
IsFaultOf Can Memory = Can
