use Rattle.std.proofs.Common.{◌∙◌}
use Rattle.stretch_bench.proofs.LineLemmas.{undecided_text}
use Rattle.stretch_bench.proofs.searching.line_of_undecided.Goals as goal

pub returns : goal.returns
returns c =
    undecided_text c.args.game.now c.args.visits c.args.pass c.args.path.now _ _ _ _ _ _ _ c.m-bins.ensures.value c.g-capacity.ensures.value c.t-target.ensures.value
    c.in_ok-line.ensures.ok (c.in_ok-text.ensures ∙ c.as_str.ensures.value) (rw c.as_slice.ensures.value at c.in_ok-put_moves.ensures) c.in_ok-push.ensures.ok
