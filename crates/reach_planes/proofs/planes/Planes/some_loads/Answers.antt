use Rattle.std.proofs.Common.{◌≡◌, ◌∙◌, ◌<◌, ◌+◌, ◌*◌, ◌-◌, ◌/◌, ◌∷◌, ap, sym, subst, get_or, length, arith, ℕ}
use Rattle.std.specs.Int.{trailing_zeros, w64}
use Rattle.std.proofs.lemmas.List.{get_or_default}
use Rattle.items.specs.Packable.{Packable}
use Rattle.reach_planes.specs.Reached.{ItemsSent}
use Rattle.reach_planes.specs.Layout.{NoBits, rows_of, halves_of, IsStart, digits_of, word_at}
use Rattle.reach_planes.proofs.LoadLemmas.{NoBits-words, start_at_lowest, word_within, not_packable_from_bits}
use Rattle.reach_planes.proofs.planes.Planes.some_loads.Goals as goal
use Rattle.reach_planes.proofs.planes.Planes.some_loads.Goals.{In-Some}

rows_are : (c : In-Some) → c.len-rows.result ≡ rows_of c.self.inside.game
rows_are c = omega (arith, c.len-rows.ensures, c.self.invariant.sums_are.size)

within : (c : In-Some) → c.loop-half.half < halves_of c.self.inside.game
within c = omega (arith, c.loop-half-test.true, c.from-half-end.ensures, ap (λ n. n / 64) c.g-last.ensures.value)

pub loads_of-requires-clause-row : goal.loads_of-requires-clause-row
loads_of-requires-clause-row c =
    let b = goal.at.loads_of-requires-clause-row c in
    let e = ap (λ (x : ItemsSent). rows_of x.game) c.self.view_is in
    omega (arith, c.in-Some.ensures.0, rows_are b.In-Some, e)

pub loads_of-requires-clause-start : goal.loads_of-requires-clause-start
loads_of-requires-clause-start c =
    let b = goal.at.loads_of-requires-clause-start c in
    let game = c.self.inside.game in
    let words = c.self.inside.words.items in
    let i : ℕ = c.loop-half.half * c.len-rows.result + c.in-Some.row in
    let at : i ≡ word_at (rows_of game) c.loop-half.half c.in-Some.row = ap (λ n. c.loop-half.half * n + c.in-Some.row) (rows_are b.In-Some) in
    let in_words : i < length words = omega (
      arith,
      at,
      word_within game c.loop-half.half c.in-Some.row (within b.In-Some) (omega (arith, c.in-Some.ensures.0, rows_are b.In-Some)),
      c.self.invariant.plane.size,
    ) in
    let word : c.index-word.result.now ≡ get_or words i 0 = c.index-word.ensures ∙ sym (get_or_default words i 0 c.index-word.result.now in_words) in
    let some : c.index-word.result.now ≡ 0 → ⊥ = λ z. c.in-Some.ensures.1 (ap (λ ws. get_or ws i 0) c.as_slice.ensures.value ∙ sym word ∙ z) in
    let start = start_at_lowest game c.self.inside.items words c.loop-half.half c.in-Some.row c.index-word.result.now c.g-last.ensures.legal c.self.invariant.plane
    (within b.In-Some) (omega (arith, c.in-Some.ensures.0, rows_are b.In-Some)) (word ∙ ap (λ n. get_or words n 0) at) some (omega (arith, c.type_inv.word.fits)) in
    subst (λ (x : ItemsSent). IsStart x.game x.items ((64 * c.loop-half.half + trailing_zeros w64 c.index-word.result.now) ∷ digits_of (x.game.capacity + 1)
    (x.game.bins - 2) c.in-Some.row)) c.self.view_is start.start

pub loop-half-preserved : goal.loop-half-preserved
loop-half-preserved c =
    NoBits-words c.len-rows.result c.loop-half.half c.self.inside.words.items c.loop-half.invariant
    (λ k l. sym (ap (λ words. get_or words (c.loop-half.half * c.len-rows.result + k) 0) c.as_slice.ensures.value) ∙ c.in_default.ensures k l)

pub returns : goal.returns
returns c =
    let game = c.self.inside.game in
    let rows : c.len-rows.result ≡ rows_of game = omega (arith, c.len-rows.ensures, c.self.invariant.sums_are.size) in
    let all : c.loop-half.half ≡ halves_of game = omega (
      arith,
      c.loop-half-test.false,
      c.loop-half.auto.half-end,
      c.from-half-end.ensures,
      ap (λ n. n / 64) c.g-last.ensures.value,
    ) in
    let none : NoBits (rows_of game) (halves_of game) c.self.inside.words.items = subst
    (λ n. NoBits n (halves_of game) c.self.inside.words.items) rows (subst (λ n. NoBits c.len-rows.result n c.self.inside.words.items) all c.loop-half.invariant) in
    record {
      exact = subst (λ (x : ItemsSent). Packable x.game x.items
          → ⊥) c.self.view_is (not_packable_from_bits game c.self.inside.items c.self.inside.words.items c.g-last.ensures.legal c.self.invariant.plane none);
    }
