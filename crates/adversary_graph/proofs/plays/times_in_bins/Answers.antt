use Rattle.std.proofs.Common.{◌≡◌, ◌+◌, ◌∙◌, [], get_or, take, ap, arith}
use Rattle.std.specs.List.{concat}
use Rattle.std.proofs.lemmas.List.{get_or_default}
use Rattle.items.specs.Multiset.{count}
use Rattle.items.proofs.MemberLemmas.{count-concat-more, count-concat-take-le}
use Rattle.adversary_graph.proofs.plays.times_in_bins.Goals as goal

pub overflow_add-total : goal.overflow_add-total
overflow_add-total c =
    let bins = c.args.bins.now in
    let i = c.loop-bin.bin-index in
    let bin : c.times-total.result ≡ count c.args.size (get_or bins i []) =
    c.times-total.ensures ∙ ap (count c.args.size) (c.as_slice.ensures.value ∙ c.bin-item.is ∙ get_or_default bins i c.bin-item.result [] c.loop-bin-test.true) in
    omega (arith, c.loop-bin.invariant, bin, count-concat-more c.args.size bins i [] c.loop-bin-test.true, count-concat-take-le c.args.size bins (i + 1), c.requires)

pub loop-bin-preserved : goal.loop-bin-preserved
loop-bin-preserved c =
    let bins = c.args.bins.now in
    let i = c.loop-bin.bin-index in
    let bin : c.times-total.result ≡ count c.args.size (get_or bins i []) =
    c.times-total.ensures ∙ ap (count c.args.size) (c.as_slice.ensures.value ∙ c.bin-item.is ∙ get_or_default bins i c.bin-item.result [] c.loop-bin-test.true) in
    let more : c.loop-bin.total + c.times-total.result ≡ count c.args.size (concat (take (i + 1) bins)) =
    omega (arith, c.loop-bin.invariant, bin, count-concat-more c.args.size bins i [] c.loop-bin-test.true) in
    more
