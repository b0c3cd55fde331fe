use Rattle.std.proofs.Common.{◌≡◌, ◌<◌, ℕ, ◌∙◌, ◌++◌, ◌∷◌, [], length, map, take, ap, sym, arith}
use Rattle.std.proofs.lemmas.List.{get_or-map, length-map, length-take-le, take_more}
use Rattle.indexmap.specs.IndexMap.{get}
use Rattle.loads.specs.Position.{are_equal}
use Rattle.minimise.specs.Canonical.{representatives}
use Rattle.minimise.proofs.RepresentativeLemmas.{index_more, length-representatives, no_position, position_at, representative, representative_found}
use Rattle.minimise.proofs.representatives.least_numbers.Goals as goal

pub loop-node-preserved : goal.loop-node-preserved
loop-node-preserved g c =
    let k : ℕ = c.loop-node.node-index in
    let positions = map g.N.Node.position_of c.args.nodes.now in
    let here = c.in_ok-position.field-0 in
    let within : k < length positions = omega (arith, c.loop-node-test.true, length-map c.args.nodes.now g.N.Node.position_of) in
    let so_far : length c.loop-node.least.items ≡ k = ap length c.loop-node.invariant.least ∙ length-take-le k (representatives positions) (omega (
      arith,
      within,
      length-representatives positions,
    )) in
    let number : c.len-number.result ≡ k = omega (arith, c.len-number.ensures, so_far) in
    let at : here ≡ position_at positions k =
    c.in_ok-position.ensures ∙ ap g.N.Node.position_of c.node-item.is
    ∙ sym (get_or-map g.N.Node.position_of c.args.nodes.now k c.node-item.result no_position c.loop-node-test.true) in
    let found : c.in_ok-number_of.field-0 ≡ representative positions k =
    representative_found positions k c.len-number.result c.in_ok-number_of.field-0 here (get are_equal c.loop-node.index here) within at number
    (c.loop-node.invariant.index here) c.in_ok-number_of.ensures.found in
    record {
      least =
          c.in_ok-push.ensures.items
          ∙ ap (λ list. list ++ c.in_ok-number_of.field-0 ∷ []) c.loop-node.invariant.least
          ∙ ap (λ n. take k (representatives positions) ++ n ∷ []) found
          ∙ sym (take_more (representatives positions) k 0 (omega (arith, within, length-representatives positions)));
      index = λ other. index_more positions k c.len-number.result here other (get are_equal c.loop-node.index other) (get are_equal c.number_of.new.index other)
          within at number (c.loop-node.invariant.index other) (c.in_ok-number_of.ensures.index other);
    }
