use Rattle.std.proofs.Common.{◌≡◌, ◌≢◌, ℕ, ◌+◌, ◌-◌, ◌*◌, ◌≤◌, max, sum_by, take, suc, length, get_or, sym, ap, ◌∙◌, arith}
use Rattle.std.proofs.lemmas.Bool.{leb-true, le-leb}
use Rattle.loads.specs.Loads.{loads_after}
use Rattle.good_situations.proofs.FinishLemmas.{total_after}
use Rattle.good_situations.proofs.finish.finishes_after.Goals as goal
use Rattle.good_situations.proofs.finish.finishes_after.Goals.{After-from-5}

-- the least load and the floor, as the rule names them
least_is : (c : After-from-5) → get_or c.as_slice-all.result.now (length c.as_slice-all.result.now - 1) 0 ≡ get_or c.args.loads.now (c.args.game.now.bins - 1) 0
least_is c =
    ap {B = ℕ} (λ xs. get_or xs (length xs - 1) 0) c.as_slice-all.ensures.value
    ∙ ap {B = ℕ} (λ n. get_or c.args.loads.now (n - 1) 0) c.requires.of_game.one_each

floor_is : (c : After-from-5) → c.t.result - c.g.result ≡ c.args.game.now.target - c.args.game.now.capacity
floor_is c = omega (arith, c.t.ensures.value, c.g.ensures.value)

-- both sides of the comparison, as the rule has them
sides : (c : After-from-5) → let game = c.args.game.now in
    let floor : ℕ = game.target - game.capacity in
    sum_by (λ l. max l floor) (take (game.bins - 1) (loads_after c.args.loads.now c.args.load c.args.s)) + (c.from-2.result + c.from-3.result)
    ≡ c.raised_total-total.result + c.from-4.result
sides c =
    let game = c.args.game.now in
    let loads = c.args.loads.now in
    let k : ℕ = game.bins - 1 in
    let floor : ℕ = game.target - game.capacity in
    let len : length loads ≡ suc k = omega (arith, c.requires.of_game.one_each, c.game_is_legal.ensures.bins.low) in
    let other : c.args.load ≢ get_or loads k 0 = λ e. c.if-load-least.false (e ∙ sym (least_is c)) in
    let total : c.raised_total-total.result ≡ sum_by (λ l. max l floor) loads =
    c.raised_total-total.ensures.value
    ∙ ap {B = ℕ} (λ xs. sum_by (λ l. max l (c.t.result - c.g.result)) xs) c.as_slice-all.ensures.value
    ∙ ap {B = ℕ} (λ n. sum_by (λ l. max l n) loads) (floor_is c) in
    let before : c.from-2.result ≡ max c.args.load floor = omega (arith, c.from-2.ensures, c.max.ensures, floor_is c) in
    let least : c.from-3.result ≡ max (get_or loads k 0) floor = omega (arith, c.from-3.ensures, c.max-2.ensures, least_is c, floor_is c) in
    let after : c.from-4.result ≡ max (c.args.load + c.args.s) floor = omega (arith, c.from-4.ensures, c.max-3.ensures, floor_is c) in
    omega (
      arith,
      total_after (λ l. max l floor) loads c.args.load c.args.s k len c.requires.of_game.descending c.requires.has_load other,
      total,
      before,
      least,
      after,
    )

pub returns : goal.returns
returns c =
    let s = sides c in
    let bins : c.from.result ≡ c.args.game.now.bins * c.args.game.now.capacity =
    c.from.ensures ∙ ap {B = ℕ} (λ n. n * c.g-2.result) c.m.ensures.value ∙ ap {B = ℕ} (λ n. c.args.game.now.bins * n) c.g-2.ensures.value in
    let last : c.from-5.result ≡ c.args.game.now.target - 1 = omega (arith, c.from-5.ensures, c.t-2.ensures.value) in
    record {
      exact = (
        λ t. omega (arith, leb-true _ _ t, s, bins, last),
        λ f. le-leb _ _ (omega (arith, f, s, bins, last)),
      );
    }
