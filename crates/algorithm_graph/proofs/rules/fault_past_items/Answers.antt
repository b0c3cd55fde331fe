use Rattle.std.proofs.Common.{inl, inr, refl, sym, ◌∙◌, subst, List}
use Rattle.std.specs.List.{All}
use Rattle.std.specs.Prelude.{IsTrue}
use Rattle.loads.specs.Position.{IsEmptyPosition, position}
use Rattle.std.proofs.lemmas.Bool.{false≢true}
use Rattle.strategy_text.specs.declared.node.Entry.{Entry}
use Rattle.algorithm_graph.specs.Judging.{node_at, LeadsOn, HasSize}
use Rattle.algorithm_graph.specs.Rules.{NamesLoad}
use Rattle.algorithm_graph.specs.Rules as the
use Rattle.algorithm_graph.proofs.SizesLemmas.{entries_of_have_sizes}
use Rattle.algorithm_graph.proofs.rules.fault_past_items.Goals.{else-last-via-then-last+else-not-is_root, else-last-via-else-last}
use Rattle.loads.proofs.LoadsLemmas.{multiset_from_items, multiset_of_loads}
use Rattle.algorithm_graph.proofs.rules.fault_past_items.Goals as goal

pub returns-then-not-finishes_if_said : goal.returns-then-not-finishes_if_said
returns-then-not-finishes_if_said g c =
    record { exact = (the.finish, refl, inl (refl, λ h. false≢true (c.if-not-finishes_if_said.ensures.1 (rw c.game.ensures.value h)))) }

pub returns-then-not-big_finishes_if_said : goal.returns-then-not-big_finishes_if_said
returns-then-not-big_finishes_if_said g c =
    let finish = rw c.game.ensures.value at (c.if-not-finishes_if_said.ensures.0 refl) in
    record { exact = (the.big, refl, inr (finish, inl (refl, λ h. false≢true (c.if-not-big_finishes_if_said.ensures.1 (rw c.game.ensures.value h))))) }

pub returns-then-not-branch : goal.returns-then-not-branch
returns-then-not-branch g c =
    let finish = rw c.game.ensures.value at (c.if-not-finishes_if_said.ensures.0 refl) in
    let big = rw c.game.ensures.value at (c.if-not-big_finishes_if_said.ensures.0 refl) in
    record { exact = (the.replies, refl, inr (finish, inr (big, inl (refl, λ h. false≢true (sym c.if-not-branch.true ∙ c.in_ok-replies_if_said.ensures.1 h))))) }

pub returns-then-not-name_loads : goal.returns-then-not-name_loads
returns-then-not-name_loads g c =
    let finish = rw c.game.ensures.value at (c.if-not-finishes_if_said.ensures.0 refl) in
    let big = rw c.game.ensures.value at (c.if-not-big_finishes_if_said.ensures.0 refl) in
    let replies = c.in_ok-replies_if_said.ensures.0 c.if-not-branch.false in
    record {
      exact = (
        the.reply,
        refl,
        inr (
          finish,
          inr (
            big,
            inr (
              replies,
              inl (
                refl,
                λ h.
                    false≢true (c.if-not-name_loads.ensures.1 (rw c.game.ensures.value
                    (subst (λ (es : List Entry). All (NamesLoad c.args.terms.now.game c.args.loads.now) es) (sym c.entries_of-entries.ensures) h))),
              ),
            ),
          ),
        ),
      );
    }

pub returns-then-not-lead_to_children : goal.returns-then-not-lead_to_children
returns-then-not-lead_to_children g c =
    let finish = rw c.game.ensures.value at (c.if-not-finishes_if_said.ensures.0 refl) in
    let big = rw c.game.ensures.value at (c.if-not-big_finishes_if_said.ensures.0 refl) in
    let replies = c.in_ok-replies_if_said.ensures.0 c.if-not-branch.false in
    let reply =
    subst (λ (es : List Entry). All (NamesLoad c.args.terms.now.game c.args.loads.now) es) c.entries_of-entries.ensures
    (rw c.game.ensures.value at (c.if-not-name_loads.ensures.0 refl)) in
    record {
      exact = (
        the.child,
        refl,
        inr (
          finish,
          inr (
            big,
            inr (
              replies,
              inr (
                reply,
                inl (
                  refl,
                  λ h.
                      false≢true (c.if-not-lead_to_children.ensures.exact.1
                      (subst (λ (es : List Entry). All (LeadsOn (g.E.EarlierPositions.positions c.args.earlier.now) (position c.args.loads.now c.args.items.now)) es)
                      (sym c.entries_of-entries.ensures) h)),
                ),
              ),
            ),
          ),
        ),
      );
    }

pub returns-then-not-is_root : goal.returns-then-not-is_root
returns-then-not-is_root g c =
    let finish = rw c.game.ensures.value at (c.if-not-finishes_if_said.ensures.0 refl) in
    let big = rw c.game.ensures.value at (c.if-not-big_finishes_if_said.ensures.0 refl) in
    let replies = c.in_ok-replies_if_said.ensures.0 c.if-not-branch.false in
    let reply =
    subst (λ (es : List Entry). All (NamesLoad c.args.terms.now.game c.args.loads.now) es) c.entries_of-entries.ensures
    (rw c.game.ensures.value at (c.if-not-name_loads.ensures.0 refl)) in
    let child =
    subst (λ (es : List Entry). All (LeadsOn (g.E.EarlierPositions.positions c.args.earlier.now) (position c.args.loads.now c.args.items.now)) es)
    c.entries_of-entries.ensures (c.if-not-lead_to_children.ensures.exact.0 refl) in
    record {
      exact = (
        the.root,
        refl,
        inr (
          finish,
          inr (
            big,
            inr (
              replies,
              inr (
                reply,
                inr (
                  child,
                  inl (
                    refl,
                    λ h.
                        false≢true (c.if-not-is_root.ensures.exact.1 (h c.if-last.true)),
                  ),
                ),
              ),
            ),
          ),
        ),
      );
    }

pub lead_to_children-requires-clause-sizes : goal.lead_to_children-requires-clause-sizes
lead_to_children-requires-clause-sizes g c =
    let replies = c.in_ok-replies_if_said.ensures.0 c.if-not-branch.false in
    rw c.game.ensures.value (subst (λ (es : List Entry). All (HasSize c.args.terms.now.game) es) (sym c.entries_of-entries.ensures)
    (entries_of_have_sizes c.args.terms.now.game c.args.terms.now.sizes (node_at (position c.args.loads.now c.args.items.now) c.args.act.now)
    c.args.act.now c.game.ensures.legal.sizes replies))

pub lead_to_children-requires-clause-named : goal.lead_to_children-requires-clause-named
lead_to_children-requires-clause-named g c = c.if-not-name_loads.ensures.0 refl

pub returns : goal.returns
returns g c =
    let finish = rw c.game.ensures.value at (c.if-not-finishes_if_said.ensures.0 refl) in
    let big = rw c.game.ensures.value at (c.if-not-big_finishes_if_said.ensures.0 refl) in
    let replies = c.in_ok-replies_if_said.ensures.0 c.if-not-branch.false in
    let reply =
    subst (λ (es : List Entry). All (NamesLoad c.args.terms.now.game c.args.loads.now) es) c.entries_of-entries.ensures
    (rw c.game.ensures.value at (c.if-not-name_loads.ensures.0 refl)) in
    let child =
    subst (λ (es : List Entry). All (LeadsOn (g.E.EarlierPositions.positions c.args.earlier.now) (position c.args.loads.now c.args.items.now)) es)
    c.entries_of-entries.ensures (c.if-not-lead_to_children.ensures.exact.0 refl) in
    let root = elim c.else-last.branch as (λ _. IsTrue c.args.last → IsEmptyPosition (position c.args.loads.now c.args.items.now)) [
      | else-last-via-then-last+else-not-is_root w ↦ λ _. w.is_root.ensures.exact.0 w.if-not-is_root.false
      | else-last-via-else-last w ↦ λ h. absurd (false≢true (sym w.if-last.false ∙ h))
    ] in
    record { exact = (finish, (big, (replies, (reply, (child, (root, tt)))))) }

pub big_finishes_if_said-requires : goal.big_finishes_if_said-requires
big_finishes_if_said-requires g c =
    rw c.game.ensures.value (multiset_from_items c.args.terms.now.game c.args.terms.now.sizes c.args.loads.now c.args.items.now
    c.game.ensures.legal.of_game c.game.ensures.legal.sizes c.requires.loads c.requires.items)

pub replies_if_said-requires : goal.replies_if_said-requires
replies_if_said-requires g c =
    multiset_from_items c.args.terms.now.game c.args.terms.now.sizes c.args.loads.now c.args.items.now
    c.game.ensures.legal.of_game c.game.ensures.legal.sizes c.requires.loads c.requires.items

pub lead_to_children-requires-clause-items : goal.lead_to_children-requires-clause-items
lead_to_children-requires-clause-items g c =
    multiset_of_loads c.args.terms.now.game c.args.terms.now.sizes c.args.loads.now c.args.items.now
    c.game.ensures.legal.of_game c.game.ensures.legal.sizes c.requires.loads c.requires.items
