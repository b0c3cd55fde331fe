use Rattle.std.proofs.Common.{◌≡◌, ◌<◌, ℕ, ◌∙◌, ◌++◌, ◌∷◌, [], true, get_or, length, map, take, ap, subst, sym, refl, arith}
use Rattle.std.specs.Prelude.{All, Contains, OnOk}
use Rattle.std.specs.List.{flat_map}
use Rattle.std.proofs.lemmas.List.{length-map, take_all}
use Rattle.minimise.specs.Canonical.{firsts, leads}
use Rattle.minimise.specs.Ordering.{IsOrdered, Ordering, ordering}
use Rattle.minimise.proofs.FirstsLemmas.{firsts_same}
use Rattle.minimise.proofs.NodeLemmas.{Falls-nodes, lead_at, length-leads, node_leads_back}
use Rattle.minimise.proofs.RepresentativeLemmas.{length-representatives}
use Rattle.minimise.proofs.WalkLemmas.{Falls, all_visited, visit_below, visit_more, visit_new, visit_old, visits}
use Rattle.minimise.proofs.canonical.+visit.Goals as goal

pub returns-then-contains : goal.returns-then-contains
returns-then-contains g t c =
    let next = leads (map g.N.Node.position_of c.args.nodes.now) (map g.N.Node.references_of c.args.nodes.now) in
    let falls : Falls next = Falls-nodes g.N.Node.references_of c.args.nodes.now g.N.Node.position_of c.requires.back in
    let stays = visit_old next falls c.args.order.now.numbers c.args.number c.contains.ensures.legal.once c.requires.ordered (c.contains.ensures.value.0 c.if-contains.true) in
    ap (λ numbers. ordering numbers c.args.order.now.count) (sym stays)

pub loop-reference-init : goal.loop-reference-init
loop-reference-init g t c = record { count = refl; numbers = sym (firsts_same c.args.order.now.numbers c.contains.ensures.legal.once) }

pub bounds-least-reference : goal.bounds-least-reference
bounds-least-reference g t c =
    let node = c.index-nodes-number.result in
    let all = c.deref-reference-items.ensures.value ∙ c.in_ok-references.ensures in
    let below = node_leads_back g.N.Node.references_of c.args.nodes.now c.args.number node c.requires.back c.requires.within c.index-nodes-number.is in
    let child = (subst (All (λ child. child < c.args.number)) (sym all) below) c.loop-reference.reference-index 0 c.loop-reference-test.true in
    omega (
      arith,
      child,
      c.requires.within,
      ap length c.requires.least,
      length-representatives (map g.N.Node.position_of c.args.nodes.now),
      length-map c.args.nodes.now g.N.Node.position_of,
    )

pub visit-requires : goal.visit-requires
visit-requires g t c κs within =
    let node = c.index-nodes-number.result in
    let k : ℕ = c.loop-reference.reference-index in
    let next = leads (map g.N.Node.position_of c.args.nodes.now) (map g.N.Node.references_of c.args.nodes.now) in
    let falls : Falls next = Falls-nodes g.N.Node.references_of c.args.nodes.now g.N.Node.position_of c.requires.back in
    let all = c.deref-reference-items.ensures.value ∙ c.in_ok-references.ensures in
    let lead = lead_at g.N.Node.references_of c.args.nodes.now g.N.Node.position_of c.args.number k node c.args.least.now c.deref-reference-items.result.now
    c.requires.within c.index-nodes-number.is c.requires.least all c.loop-reference-test.true in
    let size = length-leads g.N.Node.references_of c.args.nodes.now g.N.Node.position_of c.args.number node c.requires.within c.index-nodes-number.is in
    let lower : get_or (next c.args.number) k 0 < c.args.number = falls c.args.number k 0 (omega (arith, c.loop-reference-test.true, ap length all, size)) in (
      omega (arith, lower, lead, c.decreases),
      (
        within,
        (
          c.requires.back,
          (
            c.requires.least,
            (
              omega (arith, lower, lead, c.requires.within),
              (
                c.loop-reference.invariant.count ∙ c.requires.count,
                subst (IsOrdered next) (sym c.loop-reference.invariant.numbers)
                    (all_visited next falls c.args.order.now.numbers (take k (next c.args.number)) c.contains.ensures.legal.once c.requires.ordered),
              ),
            ),
          ),
        ),
      ),
    )

pub loop-reference-preserved : goal.loop-reference-preserved
loop-reference-preserved g t c =
    let node = c.index-nodes-number.result in
    let k : ℕ = c.loop-reference.reference-index in
    let next = leads (map g.N.Node.position_of c.args.nodes.now) (map g.N.Node.references_of c.args.nodes.now) in
    let falls : Falls next = Falls-nodes g.N.Node.references_of c.args.nodes.now g.N.Node.position_of c.requires.back in
    let all = c.deref-reference-items.ensures.value ∙ c.in_ok-references.ensures in
    let lead = lead_at g.N.Node.references_of c.args.nodes.now g.N.Node.position_of c.args.number k node c.args.least.now c.deref-reference-items.result.now
    c.requires.within c.index-nodes-number.is c.requires.least all c.loop-reference-test.true in
    let size = length-leads g.N.Node.references_of c.args.nodes.now g.N.Node.position_of c.args.number node c.requires.within c.index-nodes-number.is in
    record {
      count = ap (λ (o : Ordering). o.count) c.in_ok-visit.ensures ∙ c.loop-reference.invariant.count;
      numbers =
          ap (λ (o : Ordering). o.numbers) c.in_ok-visit.ensures
          ∙ ap (λ child. firsts (c.loop-reference.order.numbers ++ visits next falls child)) lead
          ∙ visit_more next falls c.args.order.now.numbers c.loop-reference.order.numbers k (next c.args.number)
          (omega (arith, c.loop-reference-test.true, ap length all, size)) c.loop-reference.invariant.numbers;
    }

pub push-requires-clause-new : goal.push-requires-clause-new
push-requires-clause-new g t c =
    let node = c.index-nodes-number.result in
    let next = leads (map g.N.Node.position_of c.args.nodes.now) (map g.N.Node.references_of c.args.nodes.now) in
    let falls : Falls next = Falls-nodes g.N.Node.references_of c.args.nodes.now g.N.Node.position_of c.requires.back in
    let all = c.deref-reference-items.ensures.value ∙ c.in_ok-references.ensures in
    let size = length-leads g.N.Node.references_of c.args.nodes.now g.N.Node.position_of c.args.number node c.requires.within c.index-nodes-number.is in
    let whole = take_all c.loop-reference.reference-index (next c.args.number) (omega (arith, c.loop-reference-test.false, ap length all, size)) in
    let end = c.loop-reference.invariant.numbers ∙ ap (λ list. firsts (c.args.order.now.numbers ++ flat_map (visits next falls) list)) whole in
    let new : Contains c.args.order.now.numbers c.args.number → ⊥ =
    λ h. (let yes : c.contains.result ≡ true = c.contains.ensures.value.1 h in let no = c.if-contains.false in grind arith) in
    λ h. visit_below next falls c.args.order.now.numbers c.args.number new (subst (λ list. Contains list c.args.number) end h)

pub returns : goal.returns
returns g t c =
    let node = c.index-nodes-number.result in
    let next = leads (map g.N.Node.position_of c.args.nodes.now) (map g.N.Node.references_of c.args.nodes.now) in
    let falls : Falls next = Falls-nodes g.N.Node.references_of c.args.nodes.now g.N.Node.position_of c.requires.back in
    let all = c.deref-reference-items.ensures.value ∙ c.in_ok-references.ensures in
    let size = length-leads g.N.Node.references_of c.args.nodes.now g.N.Node.position_of c.args.number node c.requires.within c.index-nodes-number.is in
    let whole = take_all c.loop-reference.reference-index (next c.args.number) (omega (arith, c.loop-reference-test.false, ap length all, size)) in
    let end = c.loop-reference.invariant.numbers ∙ ap (λ list. firsts (c.args.order.now.numbers ++ flat_map (visits next falls) list)) whole in
    let new : Contains c.args.order.now.numbers c.args.number → ⊥ =
    λ h. (let yes : c.contains.result ≡ true = c.contains.ensures.value.1 h in let no = c.if-contains.false in grind arith) in
    let after = ap (λ list. list ++ c.args.number ∷ []) end ∙ sym (visit_new next falls c.args.order.now.numbers c.args.number new) in
    subst (λ order. OnOk c.push.result (c.push.new.self ≡ order))
    (ap (λ list. ordering list c.loop-reference.order.count) after
    ∙ ap (ordering (firsts (c.args.order.now.numbers ++ visits next falls c.args.number))) c.loop-reference.invariant.count)
    c.push.ensures
