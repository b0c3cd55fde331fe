use Rattle.std.proofs.Common.{◌≡◌, ◌↔◌, ◌∙◌, ◌≤◌, ◌-◌, ◌∷◌, ap, sym, subst, get_or, take, drop, length, sum, arith}
use Rattle.std.specs.Prelude.{All}
use Rattle.std.proofs.lemmas.Bool.{eqb-true}
use Rattle.items.specs.Game.{GameNumbers}
use Rattle.reach_planes.specs.Reached.{ItemsSent, HasTotals}
use Rattle.reach_planes.specs.Layout.{AreDigits, IsStart}
use Rattle.reach_planes.proofs.TotalsLemmas.{sum-HasTotals}
use Rattle.reach_planes.proofs.LoadLemmas.{AreDigits-between, sum_fits, contains_where}
use Rattle.reach_planes.proofs.planes.Planes.contains.Goals as goal
use Rattle.reach_planes.proofs.planes.Planes.contains.Goals.{After-from-last}

game_is : (c : After-from-last) → c.self.inside.game ≡ c.args.self.now.game
game_is c = ap (λ (x : ItemsSent). x.game) c.self.view_is

one_each : (c : After-from-last) → length c.args.loads.now ≡ c.self.inside.game.bins
one_each c = c.requires.one_each ∙ sym (ap (λ (g : GameNumbers). g.bins) (game_is c))

fit : (c : After-from-last) → All (λ load. load ≤ c.self.inside.game.capacity) c.args.loads.now
fit c = subst (λ (g : GameNumbers). All (λ load. load ≤ g.capacity) c.args.loads.now) (sym (game_is c)) c.requires.fit

bound : (c : After-from-last) → sum c.args.loads.now ≤ 960
bound c = sum_fits c.self.inside.game c.args.loads.now c.m.ensures.legal (one_each c) (fit c)

between : (c : After-from-last) → c.from-last.result - 1 - 1 ≡ c.self.inside.game.bins - 2
between c = omega (arith, c.from-last.ensures, c.m.ensures.value)

where_ : (c : After-from-last) → sum c.args.loads.now ≡ sum c.self.inside.items
    → IsStart c.args.self.now.game c.args.self.now.items (get_or c.args.loads.now 0 0 ∷ take (c.from-last.result - 1 - 1) (drop 1 c.args.loads.now))
    ↔ HasTotals c.args.self.now.game c.args.self.now.items c.args.loads.now
where_ c e =
    subst (λ (x : ItemsSent). IsStart x.game x.items (get_or c.args.loads.now 0 0 ∷ take (c.from-last.result - 1 - 1) (drop 1 c.args.loads.now))
    ↔ HasTotals x.game x.items c.args.loads.now) c.self.view_is (contains_where c.self.inside.game c.self.inside.items c.args.loads.now
    (c.from-last.result - 1 - 1) c.m.ensures.legal (one_each c) (between c) e)

total : (c : After-from-last) → HasTotals c.args.self.now.game c.args.self.now.items c.args.loads.now → sum c.args.loads.now ≡ sum c.self.inside.items
total c h = sum-HasTotals c.args.self.now.game c.args.self.now.items c.args.loads.now h ∙ sym (ap (λ (x : ItemsSent). sum x.items) c.self.view_is)

pub sum_of-requires : goal.sum_of-requires
sum_of-requires c = let b = goal.at.sum_of-requires c in omega (arith, bound b.After-from-last)

pub marks-requires-clause-digits : goal.marks-requires-clause-digits
marks-requires-clause-digits c =
    let b = goal.at.marks-requires-clause-digits c in
    subst (λ (g : GameNumbers). AreDigits g (take (c.from-last.result - 1 - 1) (drop 1 c.args.loads.now))) (game_is b.After-from-last)
    (AreDigits-between c.self.inside.game c.args.loads.now (c.from-last.result - 1 - 1) c.m.ensures.legal (one_each b.After-from-last) (fit b.After-from-last)
    (between b.After-from-last))

pub returns-then-sum_of-self : goal.returns-then-sum_of-self
returns-then-sum_of-self c =
    let b = goal.at.returns-then-sum_of-self c in
    let e : sum c.args.loads.now ≡ sum c.self.inside.items = omega (arith, c.if-sum_of-self.true, c.sum_of.ensures, c.self.invariant.total_is, bound b.After-from-last) in
    let w = where_ b.After-from-last e in
    record { exact = (λ t. w.0 (c.marks.ensures.0 t), λ h. c.marks.ensures.1 (w.1 h)) }

pub returns-else-sum_of-self : goal.returns-else-sum_of-self
returns-else-sum_of-self c =
    let b = goal.at.returns-else-sum_of-self c in
    record {
      exact = (
        λ t. absurd (c.if-sum_of-self.false (eqb-true c.sum_of.result c.self.inside.total t)),
        λ h. absurd (c.if-sum_of-self.false (omega (arith, total b.After-from-last h, c.sum_of.ensures, c.self.invariant.total_is, bound b.After-from-last))),
      );
    }
