use Rattle.std.proofs.Common.{List, ℕ, arith, subst, sym}
use Rattle.std.proofs.lemmas.List.Elements.{All-contains}
use Rattle.items.specs.Multiset.{IsSize}
use Rattle.listed_sizes.proofs.SizeLists.{TakenUpTo, all_taken, none_taken, one_taken}
use Rattle.listed_sizes.proofs.checking.list_of.Goals as goal

pub loop-size-init : goal.loop-size-init
loop-size-init c = (subst (λ (list : List ℕ). TakenUpTo 0 list c.args.sizes.now) (sym c.new-list.ensures.empty) (none_taken c.args.sizes.now c.requires), omega arith)

pub loop-size-preserved : goal.loop-size-preserved
loop-size-preserved c =
    let least = c.in-Some.ensures.exact in
    let size : IsSize 120 c.in-Some.size = All-contains (IsSize 120) c.args.sizes.now c.in-Some.size c.requires.sizes least.one in (
      one_taken c.loop-size.last c.in-Some.size c.loop-size.list c.push.new.self c.args.sizes.now least c.in_ok-push.ensures.ok c.loop-size.invariant.0,
      size.high,
    )

pub returns : goal.returns
returns c = all_taken c.loop-size.last c.loop-size.list c.args.sizes.now c.in_default.ensures.exact c.loop-size.invariant.0
