use Rattle.std.proofs.Common.{[], ◌∷◌, length-append, refl, arith}
use Rattle.std.proofs.lemmas.List.Elements.{All-push, All-from_recursion}
use Rattle.strategy_text.specs.Spelling.{IsSpellableAdversary}
use Rattle.strategy_text.proofs.file_tests.adversary.Goals as goal

pub loop-line-init : goal.loop-line-init
loop-line-init c = rw c.new-nodes.ensures.empty (record { count = refl; each = All-from_recursion (IsSpellableAdversary c.args.format) [] tt })

pub loop-line-preserved : goal.loop-line-preserved
loop-line-preserved c =
    let spelled = rw c.in_ok-node.ensures.ok_part at c.in_ok-read.ensures.spelled in
    rw c.in_ok-push.ensures.ok (record {
      count = omega (arith, length-append c.loop-line.nodes (c.in_ok-node.node ∷ []), c.loop-line.invariant.count);
      each = All-push (IsSpellableAdversary c.args.format) c.loop-line.nodes c.in_ok-node.node c.loop-line.invariant.each spelled.spellable;
    })

pub returns : goal.returns
returns c = (omega (arith, c.loop-line.invariant.count), c.loop-line.invariant.each)
