use Rattle.std.proofs.Common.{◌≡◌, ◌<◌, ◌-◌, ◌+◌, ◌++◌, [], ℕ, ◌∙◌, get_or, length, map, ap, subst, sym, arith}
use Rattle.std.specs.Prelude.{All, IfOk}
use Rattle.std.proofs.lemmas.List.{get_or_default, length-map}
use Rattle.minimise.specs.Canonical.{canonical, firsts, leads, representatives, walk}
use Rattle.minimise.specs.Nodes.{LeadBack}
use Rattle.minimise.specs.Ordering.{Ordering}
use Rattle.minimise.proofs.KeptLemmas.{IsGraph, canonical_from, graph_of}
use Rattle.minimise.proofs.NodeLemmas.{All-representatives}
use Rattle.minimise.proofs.RepresentativeLemmas.{length-representatives}
use Rattle.minimise.proofs.canonical.canonical.Goals as goal

pub visit-requires-clause-within : goal.visit-requires-clause-within
visit-requires-clause-within g c =
    let nodes = c.as_slice-nodes.result.now in
    let positions = map g.N.Node.position_of nodes in
    let last : ℕ = length nodes - 1 in
    let within : last < length positions = omega (arith, length-map nodes g.N.Node.position_of, c.requires.some, ap length c.as_slice-nodes.ensures.value) in
    omega (
      arith,
      c.index-root.ensures,
      ap (λ list. get_or list last c.index-root.result.now) c.in_ok-least.ensures,
      All-representatives positions last c.index-root.result.now (omega (arith, within, length-representatives positions)),
      length-map nodes g.N.Node.position_of,
    )

pub new_numbers-requires-clause-within : goal.new_numbers-requires-clause-within
new_numbers-requires-clause-within g c =
    let positions = map g.N.Node.position_of c.as_slice-nodes.result.now in
    let all = c.as_slice-2.ensures.value ∙ c.in_ok-least.ensures in
    subst (λ list. All (λ number. number < length list) list) (sym all)
    (subst (λ n. All (λ number. number < n) (representatives positions)) (sym (length-representatives positions)) (All-representatives positions))

pub returns : goal.returns
returns g c =
    let nodes = c.as_slice-nodes.result.now in
    let positions = map g.N.Node.position_of nodes in
    let references = map g.N.Node.references_of nodes in
    let graph : IsGraph positions references = graph_of g.N.Node.position_of g.N.Node.references_of nodes
    (omega (arith, c.requires.some, ap length c.as_slice-nodes.ensures.value))
    (subst (λ list. LeadBack (map g.N.Node.references_of list)) (sym c.as_slice-nodes.ensures.value) c.requires.back) in
    let start : ℕ = c.index-root.result.now in
    let last : ℕ = length nodes - 1 in
    let within : last < length c.in_ok-least.least.items = omega (
      arith,
      ap length c.in_ok-least.ensures,
      length-representatives positions,
      graph.some,
      length-map nodes g.N.Node.position_of,
    ) in
    let at : start ≡ get_or c.in_ok-least.least.items last 0 = c.index-root.ensures ∙ get_or_default c.in_ok-least.least.items last start 0 within in
    let order : c.visit.new.order.numbers ≡ firsts ([] ++ walk (leads positions references) (start + 1) start) =
    ap (λ (o : Ordering). o.numbers) c.in_ok-visit.ensures
    ∙ ap (λ (o : Ordering). firsts (o.numbers ++ walk (leads positions references) (start + 1) start)) c.in_ok-order.ensures in
    let numbers = c.as_slice-3.ensures.value ∙ c.in_ok-numbers.ensures in
    let same = canonical_from g.N.Node.position_of g.N.Node.references_of g.N.Node.renamed_by nodes graph c.as_slice-2.result.now c.as_slice-3.result.now
    c.visit.new.order.numbers start (c.as_slice-2.ensures.value ∙ c.in_ok-least.ensures) (at ∙ ap (λ list. get_or list last 0) (sym c.as_slice-2.ensures.value)) order numbers in
    subst (λ list. IfOk c.renumbered.result (λ made. made ≡ list))
    (same ∙ ap (canonical g.N.Node.position_of g.N.Node.references_of g.N.Node.renamed_by) c.as_slice-nodes.ensures.value)
    c.renumbered.ensures
