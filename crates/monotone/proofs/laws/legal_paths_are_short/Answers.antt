use Rattle.std.proofs.Common.{arith}
use Rattle.loads.specs.Wins.{empty_position}
use Rattle.monotone.proofs.PathLemmas.{sum-position_after, volume-le-bins, length-le-volume}
use Rattle.monotone.proofs.laws.legal_paths_are_short.Goals as goal

pub returns : goal.returns
returns c = record {
  short = λ game allowed path h.
      let e = sum-position_after (empty_position game) path in
      (omega (arith, e, length-le-volume game allowed (empty_position game) path h), omega (arith, e, volume-le-bins game allowed path h));
}
