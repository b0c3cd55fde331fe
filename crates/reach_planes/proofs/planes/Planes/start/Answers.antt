use Rattle.std.proofs.Common.{◌≡◌, ◌∙◌, ◌≤◌, ◌-◌, ◌*◌, ◌+◌, [], ap, sym, subst, set, replicate, length, arith, ℕ}
use Rattle.std.proofs.lemmas.List.{length-replicate}
use Rattle.std.proofs.lemmas.Nat.{mul-le}
use Rattle.std.proofs.Math.Nat.{one-le-pow}
use Rattle.items.specs.Game.{GameNumbers, IsGame}
use Rattle.reach_planes.specs.Layout.{ArePlanes, IsPlaneOf, halves_of, rows_of}
use Rattle.reach_planes.proofs.RowLemmas.{pow-bound}
use Rattle.reach_planes.proofs.LoadLemmas.{IsPlaneOf-none}
use Rattle.reach_planes.proofs.planes.Planes.start.Goals as goal

-- how many words a plane has
words_fit : (game : GameNumbers) (halves rows : ℕ) → IsGame game → halves ≡ halves_of game → rows ≡ rows_of game → halves * rows ≤ 759499667166482
words_fit game halves rows g h r =
    let bound = pow-bound game.capacity (game.bins - 2) g.capacity.high (omega (arith, g.bins.high)) in
    mul-le halves rows 2 379749833583241 (omega (arith, h, g.capacity.high)) (omega (arith, r, bound))

some_word : (game : GameNumbers) (halves rows : ℕ) → halves ≡ halves_of game → rows ≡ rows_of game → 1 ≤ halves * rows
some_word game halves rows h r = mul-le 1 1 halves rows (omega (arith, h)) (omega (arith, r, one-le-pow (game.bins - 2) (game.capacity + 1) (omega arith)))

pub overflow_mul-halves : goal.overflow_mul-halves
overflow_mul-halves c = record { fits = omega (arith, words_fit c.args.game.now c.halves.result c.rows.result c.m.ensures.legal c.halves.ensures c.rows.ensures) }

pub index_mut-requires : goal.index_mut-requires
index_mut-requires c =
    omega (
      arith,
      ap length c.in_ok-words.ensures,
      length-replicate {A = ℕ} (c.halves.result * c.rows.result) 0,
      some_word c.args.game.now c.halves.result c.rows.result c.halves.ensures c.rows.ensures,
    )

pub invariant_of-result : goal.invariant_of-result
invariant_of-result c =
    let game = c.args.game.now in
    let n : ℕ = c.halves.result * c.rows.result in
    let plane : IsPlaneOf game [] (set (replicate n 0) 0 1) = IsPlaneOf-none game n c.m.ensures.legal
    (ap (λ k. k * c.rows.result) c.halves.ensures ∙ ap (λ k. halves_of game * k) c.rows.ensures) in
    subst (λ items. ArePlanes game items 0 c.in_ok-digit_sums.field-0.items (set c.in_ok-words.words.items 0 1)) (sym c.new.ensures.empty) (record {
      total_is = omega arith;
      sums_are = c.in_ok-digit_sums.ensures;
      plane = subst (λ xs. IsPlaneOf game [] (set xs 0 1)) (sym c.in_ok-words.ensures) plane;
    })
