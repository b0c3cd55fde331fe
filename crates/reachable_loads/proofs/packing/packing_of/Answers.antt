use Rattle.std.proofs.Common.{◌≡◌, ◌++◌, ◌∷◌, [], ◌∙◌, List, ℕ, sym, ap, subst, arith}
use Rattle.std.proofs.lemmas.List.FromFn.{map-range_with_len_more}
use Rattle.items.specs.Packable.{IsPacking}
use Rattle.packing_witness.specs.Contents.{items_in}
use Rattle.packing_witness.specs.Contents.{contents_of}
use Rattle.packing_witness.proofs.ContentsLemmas.{IsPacking-contents}
use Rattle.reachable_loads.proofs.packing.packing_of.Goals as goal

pub loop-bin-preserved : goal.loop-bin-preserved
loop-bin-preserved c =
    c.in_ok-push_bin.ensures.ok ∙ ap (λ (bin : List ℕ). c.loop-bin.packing ++ bin ∷ []) c.in_ok-contents.ensures
    ∙ ap (λ (xss : List (List ℕ)). xss ++ items_in c.loop-bin.bin c.args.items.now c.args.bins.now ∷ []) c.loop-bin.invariant
    ∙ sym (map-range_with_len_more (λ bin. items_in bin c.args.items.now c.args.bins.now) 0 c.loop-bin.bin c.loop-bin.bin (omega arith))

pub returns : goal.returns
returns c =
    let e : c.loop-bin.bin ≡ c.args.game.now.bins = omega (arith, c.m.ensures.value, c.from-bin-end.ensures) in
    subst (λ bins. IsPacking c.args.game.now bins c.args.items.now) (sym (c.loop-bin.invariant ∙ ap (contents_of c.args.items.now c.args.bins.now) e))
    (IsPacking-contents c.args.game.now c.args.items.now c.args.bins.now c.requires)
