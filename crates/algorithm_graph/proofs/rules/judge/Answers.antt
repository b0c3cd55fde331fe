use Rattle.std.proofs.Common.{◌≡◌, ◌∙◌, inl, inr, refl}
use Rattle.std.proofs.lemmas.Bool.{false≢true}
use Rattle.algorithm_graph.specs.Rules as the
use Rattle.loads.specs.Position.{position}
use Rattle.loads.specs.declared.position.Position.{Position}
use Rattle.algorithm_graph.specs.Nodes.{position_of}
use Rattle.algorithm_graph.proofs.RuleLemmas.{past_items_read}
use Rattle.algorithm_graph.proofs.rules.judge.Goals as goal

pub returns-in_default : goal.returns-in_default
returns-in_default g c =
    record { exact = (the.loads, refl, inl (refl, λ h. c.in_default.ensures.exact (rw (c.as_slice-loads.ensures.value, c.game.ensures.value) h))) }

pub returns-then-not-are_items_of : goal.returns-then-not-are_items_of
returns-then-not-are_items_of g c =
    let loads = rw (c.as_slice-loads.ensures.value, c.game.ensures.value) at c.in-Some.ensures.exact.1 in
    record {
      exact = (
        the.items,
        refl,
        inr (
          loads,
          inl (
            refl,
            λ h. false≢true (c.if-not-are_items_of.ensures.exact.1 (rw (
              c.in-Some.ensures.exact.0,
              c.as_slice-loads.ensures.value,
              c.as_slice-items.ensures.value,
              c.sizes.ensures.value,
            ) h)),
          ),
        ),
      );
    }

pub returns : goal.returns
returns g c =
    let loads = rw (c.as_slice-loads.ensures.value, c.game.ensures.value) at c.in-Some.ensures.exact.1 in
    let items = rw (c.in-Some.ensures.exact.0, c.as_slice-loads.ensures.value, c.as_slice-items.ensures.value, c.sizes.ensures.value) at
    (c.if-not-are_items_of.ensures.exact.0 refl) in
    let loads_are : c.in-Some.loads ≡ c.args.node.now.loads = c.in-Some.ensures.exact.0 ∙ c.as_slice-loads.ensures.value in
    let here : Position = position c.in-Some.loads c.as_slice-items.result.now in
    let is : here ≡ position_of c.args.node.now = λ i. position (loads_are i) (c.as_slice-items.ensures.value i) in
    record {
      exact = past_items_read c.args.terms.now.game c.args.terms.now.sizes (g.E.EarlierPositions.positions c.args.earlier.now) c.args.last
          c.args.node.now here c.fault_past_items.result is loads items c.fault_past_items.ensures.exact;
    }
