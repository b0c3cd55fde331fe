use Rattle.std.proofs.Common.{◌≡◌, ◌*◌, ◌++◌, ap, arith, replicate, sum, ◌∙◌, List, ℕ, subst, sym}
use Rattle.std.proofs.lemmas.List.Folds.{sum_by-replicate}
use Rattle.std.proofs.lemmas.List.Sums.{sum_by-append}
use Rattle.std.proofs.lemmas.Bool.{false≢true}
use Rattle.items.specs.Packable.{IsPacking}
use Rattle.packing_witness.proofs.PackableLemmas.{sum-packing-le}
use Rattle.adversary_graph.specs.Nodes.{sent_items}
use Rattle.adversary_graph.proofs.RuleLemmas.{game_volume}
use Rattle.adversary_graph.proofs.rules.packs.Goals as goal
use Rattle.adversary_graph.proofs.rules.packs.Goals.{After-sent_number-number, After-as_slice}

-- what the step sends
sent_are : (c : After-sent_number-number) → sent_items c.args.step.now ≡ replicate c.sent_number-number.result c.sent_size-size.result
sent_are c = c.sent_number-number.ensures ∙ ap (replicate c.sent_number-number.result) (sym c.sent_size-size.ensures)

total_sent : (c : After-sent_number-number) → sum (sent_items c.args.step.now) ≡ c.sent_number-number.result * c.sent_size-size.result
total_sent c = ap sum (sent_are c) ∙ sum_by-replicate (λ x. x) c.sent_number-number.result c.sent_size-size.result

pub overflow_add-total : goal.overflow_add-total
overflow_add-total c = omega (arith, c.total_of.ensures, ap sum c.as_slice.ensures.value, c.requires.total, c.requires.items.total, c.total_sent.ensures.small)

pub returns-then-total-from : goal.returns-then-total-from
returns-then-total-from c =
    let d = (goal.at.returns-then-total-from c).After-sent_number-number in
    let items = c.args.items.now in
    let more = sent_items c.args.step.now in
    record {
      exact = (
        λ e. absurd (false≢true e),
        λ p. absurd (omega (
          arith,
          c.if-total-from.true,
          c.total_of.ensures,
          ap sum c.as_slice.ensures.value,
          c.total_sent.ensures.value,
          c.requires.total,
          total_sent d,
          sum_by-append (λ x. x) items more,
          sum-packing-le c.args.game.now c.args.pack.now (items ++ more) p,
          game_volume c.args.game.now c.game_is_legal.ensures,
        )),
      );
    }

pub holds_list-requires-clause-fits : goal.holds_list-requires-clause-fits
holds_list-requires-clause-fits c = omega (arith, c.if-total-from.false, c.total_of.ensures, ap sum c.as_slice.ensures.value, c.total_sent.ensures.value, c.requires.total)

pub returns : goal.returns
returns c =
    let d = (goal.at.returns c).After-sent_number-number in
    let is = sent_are d in
    let whole = λ (more : List ℕ). IsPacking c.args.game.now c.args.pack.now (c.args.items.now ++ more) in
    record { exact = (λ t. subst whole (sym is) (c.holds_list.ensures.exact.0 t), λ p. c.holds_list.ensures.exact.1 (subst whole is p)) }
