use Rattle.std.proofs.Common.{inl, inr, refl, arith}
use Rattle.std.proofs.lemmas.Bool.{false≢true}
use Rattle.items.specs.Multiset.{IsSize}
use Rattle.adversary_graph.specs.NodeRules as the
use Rattle.std.proofs.lemmas.List.Elements.{All-contains}
use Rattle.loads.proofs.LoadsLemmas.{multiset_of_loads}
use Rattle.adversary_graph.proofs.rules.fault_past_items.Goals as goal

pub returns-then-not-contains : goal.returns-then-not-contains
returns-then-not-contains g c =
    record { exact = (the.send, refl, inl (refl, λ h. false≢true (c.if-not-contains.ensures.exact.1 (rw (c.sizes.ensures.value, c.sent_size.ensures) h)))) }

pub returns-then-not-is_long_enough : goal.returns-then-not-is_long_enough
returns-then-not-is_long_enough g c =
    let send = rw (c.sizes.ensures.value, c.sent_size.ensures) at (c.if-not-contains.ensures.exact.0 refl) in
    record { exact = (the.burst, refl, inr (send, inl (refl, λ h. false≢true (c.if-not-is_long_enough.ensures.1 (rw c.game.ensures.value h))))) }

pub returns-then-not-is_packed : goal.returns-then-not-is_packed
returns-then-not-is_packed g c =
    let send = rw (c.sizes.ensures.value, c.sent_size.ensures) at (c.if-not-contains.ensures.exact.0 refl) in
    let burst = rw c.game.ensures.value at (c.if-not-is_long_enough.ensures.0 refl) in
    record { exact = (the.pack, refl, inr (send, inr (burst, inl (refl, λ h. false≢true (c.if-not-is_packed.ensures.1 (rw (c.game.ensures.value, c.format.ensures.value) h)))))) }

pub returns-then-not-places_each_load : goal.returns-then-not-places_each_load
returns-then-not-places_each_load g c =
    let send = rw (c.sizes.ensures.value, c.sent_size.ensures) at (c.if-not-contains.ensures.exact.0 refl) in
    let burst = rw c.game.ensures.value at (c.if-not-is_long_enough.ensures.0 refl) in
    let pack = rw (c.game.ensures.value, c.format.ensures.value) at (c.if-not-is_packed.ensures.0 refl) in
    record { exact = (the.placements, refl, inr (send, inr (burst, inr (pack, inl (refl, λ h. false≢true (c.if-not-places_each_load.ensures.1 h)))))) }

pub returns-then-not-is_over_at_target : goal.returns-then-not-is_over_at_target
returns-then-not-is_over_at_target g c =
    let send = rw (c.sizes.ensures.value, c.sent_size.ensures) at (c.if-not-contains.ensures.exact.0 refl) in
    let burst = rw c.game.ensures.value at (c.if-not-is_long_enough.ensures.0 refl) in
    let pack = rw (c.game.ensures.value, c.format.ensures.value) at (c.if-not-is_packed.ensures.0 refl) in
    let placements = c.if-not-places_each_load.ensures.0 refl in
    record {
      exact = (
        the.over,
        refl,
        inr (
          send,
          inr (
            burst,
            inr (
              pack,
              inr (
                placements,
                inl (refl, λ h. false≢true (c.if-not-is_over_at_target.ensures.1 (rw c.game.ensures.value h))),
              ),
            ),
          ),
        ),
      );
    }

pub returns-then-not-leads_to_children : goal.returns-then-not-leads_to_children
returns-then-not-leads_to_children g c =
    let send = rw (c.sizes.ensures.value, c.sent_size.ensures) at (c.if-not-contains.ensures.exact.0 refl) in
    let burst = rw c.game.ensures.value at (c.if-not-is_long_enough.ensures.0 refl) in
    let pack = rw (c.game.ensures.value, c.format.ensures.value) at (c.if-not-is_packed.ensures.0 refl) in
    let placements = c.if-not-places_each_load.ensures.0 refl in
    let over = rw c.game.ensures.value at (c.if-not-is_over_at_target.ensures.0 refl) in
    record { exact = (the.child, refl, inr (send, inr (burst, inr (pack, inr (placements, inr (over, inl (refl, λ h. false≢true (c.if-not-leads_to_children.ensures.1 h)))))))) }

pub returns-then-not-is_root : goal.returns-then-not-is_root
returns-then-not-is_root g c =
    let send = rw (c.sizes.ensures.value, c.sent_size.ensures) at (c.if-not-contains.ensures.exact.0 refl) in
    let burst = rw c.game.ensures.value at (c.if-not-is_long_enough.ensures.0 refl) in
    let pack = rw (c.game.ensures.value, c.format.ensures.value) at (c.if-not-is_packed.ensures.0 refl) in
    let placements = c.if-not-places_each_load.ensures.0 refl in
    let over = rw c.game.ensures.value at (c.if-not-is_over_at_target.ensures.0 refl) in
    let child = c.if-not-leads_to_children.ensures.0 refl in
    record {
      exact = (
        the.root,
        refl,
        inr (
          send,
          inr (
            burst,
            inr (
              pack,
              inr (
                placements,
                inr (
                  over,
                  inr (
                    child,
                    inl (
                      refl,
                      λ h. false≢true (c.if-not-is_root.ensures.exact.1 (h c.if-last.true)),
                    ),
                  ),
                ),
              ),
            ),
          ),
        ),
      );
    }

pub is_packed-requires-clause-items : goal.is_packed-requires-clause-items
is_packed-requires-clause-items g c =
    multiset_of_loads c.args.terms.now.game c.args.terms.now.sizes c.args.loads.now c.args.items.now
    c.game.ensures.legal.of_game c.game.ensures.legal.sizes c.requires.loads c.requires.items

pub leads_to_children-requires-clause-items : goal.leads_to_children-requires-clause-items
leads_to_children-requires-clause-items g c =
    multiset_of_loads c.args.terms.now.game c.args.terms.now.sizes c.args.loads.now c.args.items.now
    c.game.ensures.legal.of_game c.game.ensures.legal.sizes c.requires.loads c.requires.items

pub is_packed-requires-clause-size : goal.is_packed-requires-clause-size
is_packed-requires-clause-size g c =
    let send = rw (c.sizes.ensures.value, c.sent_size.ensures) at (c.if-not-contains.ensures.exact.0 refl) in
    let size = All-contains (IsSize c.args.terms.now.game.capacity) c.args.terms.now.sizes _ c.game.ensures.legal.sizes send in
    record { low = size.low; high = omega (arith, size.high, c.game.ensures.legal.of_game.capacity.high) }

pub leads_to_children-requires-clause-size : goal.leads_to_children-requires-clause-size
leads_to_children-requires-clause-size g c =
    let send = rw (c.sizes.ensures.value, c.sent_size.ensures) at (c.if-not-contains.ensures.exact.0 refl) in
    let size = All-contains (IsSize c.args.terms.now.game.capacity) c.args.terms.now.sizes _ c.game.ensures.legal.sizes send in
    record { low = size.low; high = omega (arith, size.high, c.game.ensures.legal.of_game.capacity.high) }
