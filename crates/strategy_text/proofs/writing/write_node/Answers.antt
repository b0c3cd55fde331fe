use Rattle.std.proofs.Common.{◌∙◌}
use Rattle.strategy_text.proofs.TextPieces.{writes_adversary, writes_algorithm}
use Rattle.strategy_text.proofs.writing.write_node.Goals as goal

pub returns-in-Adversary : goal.returns-in-Adversary
returns-in-Adversary g c =
    writes_adversary c.write_line.result _ _ c.args.nodes.now c.in-Adversary.list _ c.args.number _ c.in-Adversary.is c.as_slice.ensures.value
    (c.as_bytes-first.ensures.value ∙ c.format.ensures.text) c.requires c.write_line.ensures

pub returns-in-Algorithm : goal.returns-in-Algorithm
returns-in-Algorithm g c =
    writes_algorithm c.write_line-in-Algorithm.result _ _ c.args.nodes.now c.in-Algorithm.list _ c.args.number _ c.in-Algorithm.is c.as_slice-in-Algorithm.ensures.value
    (c.as_bytes-first.ensures.value ∙ c.format.ensures.text) c.requires c.write_line-in-Algorithm.ensures
