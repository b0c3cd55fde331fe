use Rattle.items.proofs.SizeBitsLemmas.{sizes_with_bit, clear_with_bit}
use Rattle.items.proofs.sizes.with_greater.Goals as goal

pub returns-clause-value : goal.returns-clause-value
returns-clause-value c = sizes_with_bit c.args.bits c.args.s c.requires.low c.requires.high c.requires.greater

pub returns-clause-clear : goal.returns-clause-clear
returns-clause-clear c = clear_with_bit c.args.bits c.args.s c.requires.high c.requires.greater
