use Rattle.std.proofs.Common.{◌≡◌, ◌∙◌, ◌<◌, ℕ, sym, subst, inl, inr, arith}
use Rattle.std.proofs.lemmas.Bool.{cases_lt, true≢false}
use Rattle.good_situations.specs.Finish.{Finishes}
use Rattle.loads.specs.After.{after}
use Rattle.monotone.proofs.PassLemmas.{allowed_in-exact}
use Rattle.minimax.specs.Serving.{IsFirst}
use Rattle.minimax.specs.declared.space.Space.{Space}
use Rattle.loads.specs.declared.position.Position.{Position}
use Rattle.minimax.proofs.skipping.skipped.Goals as goal

-- there is one greatest load that stays below the target
one_first : (space : Space) (position : Position) (size load other : ℕ) → IsFirst space.game position size load → IsFirst space.game position size other
    → load ≡ other
one_first space position size load other a b = elim (cases_lt load other) [
  | inl less ↦ absurd (omega (arith, a.larger other b.has_load less, b.below))
  | inr at_least ↦ elim (cases_lt other load) [
    | inl less ↦ absurd (omega (arith, b.larger load a.has_load less, a.below))
    | inr at_most ↦ omega (arith, at_least, at_most)
  ]
]

pub returns-then-leads_to_finish : goal.returns-then-leads_to_finish
returns-then-leads_to_finish c = record {
  pass = c.in-Earlier.pass;
  earlier = c.in-Earlier.is;
  of_game = omega (arith, c.if-pass-g.false, c.g.ensures.value);
  allowed = (allowed_in-exact c.args.space.now.sizes c.args.position.now.items c.in-Earlier.pass c.args.size).1
      (c.requires.listed, c.allows.ensures.exact.0 c.if-not-allows.false);
  first = c.in-Some.ensures;
  finishes = c.leads_to_finish.ensures.0 c.if-leads_to_finish.true;
}

pub returns-in_default-first_below : goal.returns-in_default-first_below
returns-in_default-first_below c load skipped =
    omega (arith, c.in_default-first_below.ensures load skipped.first.has_load, skipped.first.below)

pub returns : goal.returns
returns c load skipped =
    let space = c.args.space.now in
    let p = c.args.position.now in
    let one = one_first space p c.args.size load c.in-Some.load skipped.first c.in-Some.ensures in
    let finishes = subst (λ l. Finishes space.game (after p l c.args.size).loads) one skipped.finishes in
    true≢false (sym (c.leads_to_finish.ensures.1 finishes) ∙ c.if-leads_to_finish.false)
