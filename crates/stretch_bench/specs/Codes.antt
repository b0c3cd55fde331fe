use Rattle.std.specs.Prelude.{ℕ}
use Rattle.stretch_bench.specs.declared.status.Status.{Status}
use Rattle.stretch_bench.specs.declared.status.Status.TheVariants.{Done, Rejected, Usage, Undecided, ReadFault}
use Rattle.stretch_bench.specs.declared.status.Status.TheVariants.{WriteFault, OutOfMemory, Unpackable}
use Rattle.stretch_bench.specs.declared.status.Status.TheVariants.{NoTransfer, Ended, BadAnswer, NotFound}

-- the number that the program ends with
abbrev pub code_of : Status → ℕ
code_of Done = 0
code_of Rejected = 1
code_of Usage = 2
code_of Undecided = 3
code_of ReadFault = 4
code_of WriteFault = 5
code_of OutOfMemory = 6
code_of Unpackable = 7
code_of NoTransfer = 8
code_of Ended = 9
code_of BadAnswer = 10
code_of NotFound = 11
