use Rattle.std.proofs.Common.{◌≡◌, inl, inr, ⊎_elim, ◌+◌, subst, get_or, arith}
use Rattle.std.proofs.lemmas.Bool.{cases_lt}
use Rattle.reach_planes.specs.Words.{IsSet}
use Rattle.reach_planes.proofs.BitLemmas.{set_or}
use Rattle.reach_planes.proofs.rows.any_of.Goals as goal

pub loop-k-preserved : goal.loop-k-preserved
loop-k-preserved c bit =
    let o = set_or c.loop-k.all (get_or c.args.words.now (c.args.from + c.loop-k.k) 0) bit in
    let was = c.loop-k.invariant bit in (
      λ h. ⊎_elim (λ x. let w = was.0 x in (w.0, omega (arith, w.1), w.2)) (λ x. (c.loop-k.k, omega arith, x)) (o.0 h),
      λ (k, l, is). o.1 (elim (cases_lt k c.loop-k.k) [
        | inl early ↦ inl (was.1 (k, early, is))
        | inr late ↦ let e : k ≡ c.loop-k.k = omega (arith, l, late) in inr (subst (λ n. IsSet c.args.words.now (c.args.from + n) bit) e is)
      ]),
    )
