use Rattle.std.proofs.Common.{arith}
use Rattle.stretch_bench.proofs.PlayLemmas.{named_here, not_named_here, none_named}
use Rattle.stretch_bench.proofs.playing.place_of.Goals as goal

pub returns-then-eq : goal.returns-then-eq
returns-then-eq g c = record {
  here = named_here (λ player. player.name) c.args.players.now.items c.loop-place.place c.index.result.now c.as_str.result.now c.args.name.now
      (omega (arith, c.loop-place-test.true, c.len-place-end.ensures)) c.index.ensures c.as_str.ensures.value c.if-eq.ensures;
  first = c.loop-place.invariant;
}

pub loop-place-preserved : goal.loop-place-preserved
loop-place-preserved g c =
    not_named_here (λ player. player.name) c.args.players.now.items c.loop-place.place c.index.result.now c.as_str.result.now c.args.name.now
    (omega (arith, c.loop-place-test.true, c.len-place-end.ensures)) c.index.ensures c.as_str.ensures.value c.if-eq.ensures c.loop-place.invariant

pub returns : goal.returns
returns g c = none_named (λ player. player.name) c.args.players.now.items c.loop-place.place c.args.name.now
    (omega (arith, c.loop-place-test.false, c.len-place-end.ensures)) c.loop-place.invariant
