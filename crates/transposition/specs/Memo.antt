use Rattle.std.specs.Prelude.{List, Option}
use Rattle.loads.specs.declared.position.Position.{Position}
use Rattle.loads.specs.Position.{are_equal}
use Rattle.transposition.specs.declared.verdict.Verdict.{Verdict}
use Rattle.transposition.specs.Bounded.{found}

-- the verdict of a position's entry; None where it has none
abbrev pub verdict_of : List (Position × Verdict) → Position → Option Verdict
verdict_of entries position = found are_equal entries position
