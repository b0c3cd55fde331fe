use Rattle.std.proofs.Common.{◌≡◌, ◌<◌, ◌∙◌, refl, sym, length, arith}
use Rattle.std.proofs.lemmas.Option.{same_Some}
use Rattle.adversary_graph.proofs.EndLemmas.{no_packing, packed_here, packed_later}
use Rattle.adversary_graph.proofs.plays.packed_node.Goals as goal

pub unwrap-at-requires : goal.unwrap-at-requires
unwrap-at-requires c =
    let node = c.node.result.now in
    let no = no_packing c.args.pool.now c.pool_is_legal.ensures node.loads node.items node.step c.loop-shown.at c.node.ensures.value (sym c.in_default.ensures) in
    rw (c.first_child.ensures ∙ no.1) refl

pub loop-shown-smaller : goal.loop-shown-smaller
loop-shown-smaller c =
    let node = c.node.result.now in
    let no = no_packing c.args.pool.now c.pool_is_legal.ensures node.loads node.items node.step c.loop-shown.at c.node.ensures.value (sym c.in_default.ensures) in
    let child : c.unwrap-at.result ≡ no.0 = same_Some c.unwrap-at.result no.0 (sym c.unwrap-at.ensures ∙ c.first_child.ensures ∙ no.1) in
    omega (arith, child, no.2)

pub loop-shown-preserved : goal.loop-shown-preserved
loop-shown-preserved c =
    let node = c.node.result.now in
    let nodes = c.args.pool.now.nodes in
    let none = sym c.in_default.ensures in
    let no = no_packing c.args.pool.now c.pool_is_legal.ensures node.loads node.items node.step c.loop-shown.at c.node.ensures.value none in
    let child : c.unwrap-at.result ≡ no.0 = same_Some c.unwrap-at.result no.0 (sym c.unwrap-at.ensures ∙ c.first_child.ensures ∙ no.1) in
    let whole = c.loop-shown.invariant.1 in
    let later = packed_later nodes whole.0 c.loop-shown.at c.unwrap-at.result node whole.1 c.node.ensures.value none
    (sym c.first_child.ensures ∙ c.unwrap-at.ensures) (omega (arith, child, no.2)) in
    let within : c.unwrap-at.result < length nodes = omega (arith, child, no.2, c.loop-shown.invariant.0) in
    (within, (later.0, later.1, whole.2 ∙ later.2))

pub returns-in-loop-shown : goal.returns-in-loop-shown
returns-in-loop-shown c =
    let node = c.node.result.now in
    let whole = c.loop-shown.invariant.1 in
    let shown = sym c.in-Some.ensures in (
      node,
      c.node.ensures.value,
      c.in-Some._shown.now,
      shown,
      whole.2 ∙ packed_here c.args.pool.now.nodes whole.0 c.loop-shown.at node c.in-Some._shown.now whole.1 c.node.ensures.value shown,
    )
