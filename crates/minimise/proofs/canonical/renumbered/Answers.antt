use Rattle.std.proofs.Common.{◌<◌, ℕ, ◌∙◌, ◌++◌, ◌∷◌, [], get_or, length, ap, subst, sym, refl, arith}
use Rattle.std.specs.Prelude.{slice_index}
use Rattle.minimise.proofs.NodeLemmas.{node_leads_back, renamed_more}
use Rattle.minimise.proofs.canonical.renumbered.Goals as goal

pub renumbered-requires : goal.renumbered-requires
renumbered-requires g c =
    let k : ℕ = c.loop-number.number-index in
    let number : ℕ = get_or c.numbers-number-items.result.now k 0 in
    let below = c.numbers-number-items.ensures.legal.below in
    let within : number < length c.args.nodes.now = subst (λ list. get_or list k 0 < length c.args.nodes.now) (sym c.numbers-number-items.ensures.value)
    (subst (λ n. get_or c.args.order.now.numbers k 0 < n) c.requires.count (below k 0 (omega (arith, c.loop-number-test.true, ap length c.numbers-number-items.ensures.value)))) in
    let back = node_leads_back g.N.Node.references_of c.args.nodes.now number c.index-nodes-number.result c.requires.back within c.index-nodes-number.is in
    λ j d l. omega (arith, back j d l, within, c.requires.numbers)

pub loop-number-preserved : goal.loop-number-preserved
loop-number-preserved g c =
    let k : ℕ = c.loop-number.number-index in
    let number : ℕ = get_or c.numbers-number-items.result.now k 0 in
    let below = c.numbers-number-items.ensures.legal.below in
    let within : number < length c.args.nodes.now = subst (λ list. get_or list k 0 < length c.args.nodes.now) (sym c.numbers-number-items.ensures.value)
    (subst (λ n. get_or c.args.order.now.numbers k 0 < n) c.requires.count (below k 0 (omega (arith, c.loop-number-test.true, ap length c.numbers-number-items.ensures.value)))) in
    renamed_more g.N.Node.references_of c.args.nodes.now (g.N.Node.renamed_by (slice_index c.args.numbers.now)) c.numbers-number-items.result.now
    c.loop-number.made c.push.new.self k number c.index-nodes-number.result c.loop-number-test.true refl within c.index-nodes-number.is c.loop-number.invariant
    (c.in_ok-push.ensures.ok ∙ ap (λ node. c.loop-number.made ++ node ∷ []) c.in_ok-renumbered.ensures)
