use Rattle.std.proofs.Common.{inl, inr}
use Rattle.stretch_bench.proofs.WordLemmas.{not_read, not_spelled, not_within}
use Rattle.stretch_bench.proofs.number.number_of.Goals as goal

pub returns-in_default : goal.returns-in_default
returns-in_default c = record {
  exact = not_read c.args.word.now c.args.low c.args.high c.parse.result c.ranges.high.fits c.parse.ensures.value.0 c.in_default.not-Ok;
}

pub returns-then-not-is_spelled : goal.returns-then-not-is_spelled
returns-then-not-is_spelled c = record {
  exact = not_spelled c.args.word.now c.args.low c.args.high c.in-Ok.number c.parse.result c.ranges.high.fits c.parse.ensures.value.0 c.in-Ok.is
      c.if-not-is_spelled.ensures.exact.1;
}

pub returns-then-number-low : goal.returns-then-number-low
returns-then-number-low c = record {
  exact = not_within c.args.word.now c.args.low c.args.high c.in-Ok.number c.parse.result c.ranges.high.fits c.parse.ensures.value.0 c.in-Ok.is
      (inl c.if-number-low.true);
}

pub returns-then-number-high : goal.returns-then-number-high
returns-then-number-high c = record {
  exact = not_within c.args.word.now c.args.low c.args.high c.in-Ok.number c.parse.result c.ranges.high.fits c.parse.ensures.value.0 c.in-Ok.is
      (inr c.if-number-high.true);
}
