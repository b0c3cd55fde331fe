use Rattle.std.proofs.Common.{ℕ, ◌≡◌, ◌*◌, ◌<◌, ◌+◌, ◌++◌, List, [], ◌∷◌, length, get_or, take, map, sym, arith}
use Rattle.std.proofs.lemmas.List.{map_more, get_or_read}
use Rattle.packing_witness.specs.Edits.{scaled}
use Rattle.packing_witness.proofs.packing.Packing.scaled.Goals as goal

scaled_more : (factor i : ℕ) (whole bins made new : List (List ℕ)) (bin product : List ℕ) → bins ≡ whole → i < length bins → bin ≡ get_or bins i []
    → made ≡ scaled factor (take i whole) → product ≡ map (λ size. size * factor) bin → new ≡ made ++ product ∷ [] → new ≡ scaled factor (take (i + 1) whole)
scaled_more factor i whole bins made new bin product same l here e f g =
    rw (g, e, f, here, ← same) (sym (map_more (map (λ size. size * factor)) bins i [] l))

pub loop-bin-preserved : goal.loop-bin-preserved
loop-bin-preserved c =
    let here = get_or_read c.bins-bin-items.result.now _ _ (omega arith) c.bin-item.is [] in
    scaled_more c.args.c c.loop-bin.bin-index _ _ _ _ _ _ c.bins-bin-items.ensures.value
    (omega arith) here c.loop-bin.invariant c.in_ok-times.ensures.exact c.in_ok-push_bin.ensures.ok
