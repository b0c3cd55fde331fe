use Rattle.std.proofs.Common.{◌≡◌, ℕ, ◌+◌, ◌++◌, List, length, take, refl, sym, ap, ◌∙◌, subst, arith}
use Rattle.std.specs.Prelude.{slice_get, Some}
use Rattle.std.proofs.lemmas.Bool.{false≢true, eqb-true, eq-eqb}
use Rattle.std.proofs.lemmas.List.{length-take-le, take_all}
use Rattle.algorithm_graph.specs.Judging.{sizes_in, sizes_up_to, if_one_of}
use Rattle.algorithm_graph.proofs.SizesLemmas.{sizes_length, sizes_up_to_zero, sizes_up_to_next, size_after_smaller}
use Rattle.algorithm_graph.proofs.rules.are_sizes_up_to.Goals as goal

pub loop-below-init : goal.loop-below-init
loop-below-init c = (omega arith, sym (sizes_up_to_zero c.args.sizes.now))

pub loop-below-preserved : goal.loop-below-preserved
loop-below-preserved c =
    let sizes = c.args.sizes.now in
    let below = c.loop-below.below in
    let next = c.in-Some.ensures in
    (next.0, next.1 ∙ ap (λ (ys : List ℕ). ys ++ if_one_of sizes (below + 1)) c.loop-below.invariant.1 ∙ sym (sizes_up_to_next sizes (below + 1) below refl))

pub returns-in_default : goal.returns-in_default
returns-in_default c =
    let sizes = c.args.sizes.now in
    let xs = sizes_in c.args.entries.now in
    let below = c.loop-below.below in
    let place = c.loop-below.place in
    let missing = c.in_default.ensures in (
      λ h. absurd (false≢true h),
      λ e.
          let n : length (sizes_up_to sizes below) ≡ place =
          sym (ap length c.loop-below.invariant.1) ∙ length-take-le place xs (omega (arith, c.loop-below.invariant.0, sizes_length c.args.entries.now)) in
          let here = size_after_smaller sizes below c.args.room (omega arith) missing.0 in
          absurd (missing.1 (subst (λ k. slice_get xs k ≡ Some (below + 1)) n
          (subst (λ (ys : List ℕ). slice_get ys (length (sizes_up_to sizes below)) ≡ Some (below + 1)) (sym e) here))),
    )

pub returns : goal.returns
returns c =
    let sizes = c.args.sizes.now in
    let entries = c.args.entries.now in
    let xs = sizes_in entries in
    let place = c.loop-below.place in
    let number = sizes_length entries in
    let whole : c.loop-below.below ≡ c.args.room = omega arith in
    let taken : take place xs ≡ sizes_up_to sizes c.args.room = c.loop-below.invariant.1 ∙ ap (sizes_up_to sizes) whole in (
      λ h. let n = eqb-true place (length entries) h in sym (take_all place xs (omega arith)) ∙ taken,
      λ e. eq-eqb place (length entries) (let same = ap length (taken ∙ sym e) in omega (arith, same, length-take-le place xs (omega (arith, c.loop-below.invariant.0)))),
    )
