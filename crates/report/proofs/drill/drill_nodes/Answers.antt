use Rattle.std.proofs.Common.{◌+◌, ◌*◌, map, replicate, ap, ◌∙◌}
use Rattle.std.specs.List.{range_with_len}
use Rattle.report.specs.Drill.{choice, copy_of_1, copy_of_3, node_0, node_2, node_4}
use Rattle.report.proofs.DrawLemmas.{begun, joined}
use Rattle.report.proofs.drill.drill_nodes.Goals as goal

pub returns : goal.returns
returns c =
    let number = c.args.number in
    let copies = c.args.copies in
    let given = begun number c.seed_from_u64-rng.result c.seed_from_u64-rng.ensures in
    let given_1 = c.in_ok-put_copies_of_1.ensures.drawn number given in
    let given_3 = c.in_ok-put_copies_of_3.ensures.drawn number given_1 in
    joined c.new-nodes.result c.put_copies_of_0.new.nodes c.put_copies_of_1.new.nodes c.put_copies_of_2.new.nodes c.put_copies_of_3.new.nodes
    c.push.new.self (replicate copies node_0) (map (copy_of_1 number copies) (range_with_len 0 copies)) (replicate copies node_2)
    (map (copy_of_3 number copies) (range_with_len 0 copies)) c.in_ok-node_4.field-0
    (node_4 (3 * copies + choice number copies (3 * copies))) c.new-nodes.ensures.empty c.in_ok-put_copies_of_0.ensures
    (c.in_ok-put_copies_of_1.ensures.put number given) c.in_ok-put_copies_of_2.ensures
    (c.in_ok-put_copies_of_3.ensures.put number given_1) c.in_ok-push.ensures.ok
    (c.in_ok-node_4.ensures ∙ ap node_4 (c.choose-child.ensures.chosen number (3 * copies) given_3))
