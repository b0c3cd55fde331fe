use Rattle.std.proofs.Common.{inl, inr, refl}
use Rattle.std.proofs.lemmas.Bool.{false≢true}
use Rattle.adversary_graph.specs.NodeRules as the
use Rattle.adversary_graph.proofs.RuleLemmas.{past_items}
use Rattle.adversary_graph.proofs.rules.judge.Goals as goal

pub returns-in_default : goal.returns-in_default
returns-in_default g c =
    record { exact = (the.loads, refl, inl (refl, λ h. c.in_default.ensures.exact (rw (c.as_slice-loads.ensures.value, c.game.ensures.value) h))) }

pub returns-then-not-are_items_of : goal.returns-then-not-are_items_of
returns-then-not-are_items_of g c =
    let loads = rw (c.as_slice-loads.ensures.value, c.game.ensures.value) at c.in-Some.ensures.exact.1 in
    record {
      exact = (
        the.items,
        refl,
        inr (
          loads,
          inl (
            refl,
            λ h. false≢true (c.if-not-are_items_of.ensures.exact.1 (rw (
              c.in-Some.ensures.exact.0,
              c.as_slice-loads.ensures.value,
              c.as_slice-items.ensures.value,
              c.sizes.ensures.value,
            ) h)),
          ),
        ),
      );
    }

pub returns : goal.returns
returns g c =
    let loads = rw (c.as_slice-loads.ensures.value, c.game.ensures.value) at c.in-Some.ensures.exact.1 in
    let items = rw (c.in-Some.ensures.exact.0, c.as_slice-loads.ensures.value, c.as_slice-items.ensures.value, c.sizes.ensures.value) at
    (c.if-not-are_items_of.ensures.exact.0 refl) in
    let past = rw (c.in-Some.ensures.exact.0, c.as_slice-loads.ensures.value, c.as_slice-items.ensures.value) at c.fault_past_items.ensures.exact in
    record {
      exact = past_items c.args.terms.now.format c.args.terms.now.game c.args.terms.now.sizes (g.E.EarlierPositions.positions c.args.earlier.now) c.args.last c.args.node.now
          c.fault_past_items.result loads items past;
    }
