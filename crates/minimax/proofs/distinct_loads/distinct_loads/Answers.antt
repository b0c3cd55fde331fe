use Rattle.std.proofs.Common.{◌≡◌, ◌∙◌, ℕ, ◌+◌, ◌++◌, ◌∷◌, [], length, set, suc, take, ap, sym, arith}
use Rattle.std.proofs.Math.Seq.{take-suc, take-suc-set}
use Rattle.std.proofs.lemmas.List.{length-set, take_all}
use Rattle.loads.specs.Descending.{distinct}
use Rattle.loads.proofs.DistinctLemmas.{length-distinct-le}
use Rattle.minimax.proofs.distinct_loads.distinct_loads.Goals as goal

pub bounds-found-i : goal.bounds-found-i
bounds-found-i c = omega (arith, c.loop-i-test.true, c.distinct_count-count.ensures.value, length-distinct-le c.args.loads.now, c.as_slice-loads.ensures.loads.few)

pub loop-i-preserved : goal.loop-i-preserved
loop-i-preserved c =
    let i : ℕ = c.loop-i.i in
    let all = distinct c.args.loads.now in
    let load = c.distinct_at.result in
    let number = c.loop-i.invariant.number in
    let few = length-distinct-le c.args.loads.now in
    let next : i + 1 ≡ suc i = omega arith in
    let made = set c.loop-i.found i load in
    record {
      so_far = ap (λ k. take k made) next
          ∙ take-suc-set c.loop-i.found i load (omega (arith, number, few, c.loop-i-test.true, c.distinct_count-count.ensures.value, c.as_slice-loads.ensures.loads.few))
          ∙ ap (λ xs. xs ++ load ∷ []) c.loop-i.invariant.so_far ∙ ap (λ x. take i all ++ x ∷ []) c.distinct_at.ensures.value
          ∙ sym (take-suc all i 0 (omega (arith, c.distinct_count-count.ensures.value, c.loop-i-test.true))) ∙ ap (λ k. take k all) (sym next);
      number = length-set c.loop-i.found i load ∙ number;
    }

pub returns-clause-loads : goal.returns-clause-loads
returns-clause-loads c =
    let all = distinct c.args.loads.now in
    let end : c.loop-i.i ≡ length all = omega (arith, c.loop-i-test.false, c.loop-i.auto.i-end, c.distinct_count-count.ensures.value) in
    ap (λ k. take k c.loop-i.found) (sym end) ∙ c.loop-i.invariant.so_far ∙ take_all c.loop-i.i all (omega (arith, end))

pub returns-clause-few : goal.returns-clause-few
returns-clause-few c = omega (arith, length-distinct-le c.args.loads.now, c.as_slice-loads.ensures.loads.few)
