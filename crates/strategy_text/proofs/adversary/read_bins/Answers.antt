use Rattle.std.proofs.Common.{◌≡◌, ◌∷◌, ◌++◌, ◌+◌, ◌<◌, ℕ, List, [], Option, Result, Err, ◌∙◌, ap, codes, length, take, arith}
use Rattle.std.proofs.lemmas.Result.{err_from_is_err_and}
use Rattle.strategy_text.specs.declared.stop.LineStop.{LineStop}
use Rattle.strategy_text.specs.declared.stop.LineStop.TheVariants.{Memory, Form}
use Rattle.strategy_text.specs.Words.{after}
use Rattle.strategy_text.specs.Reading.{Reads, ReadsInto, list_at, bins_at}
use Rattle.strategy_text.proofs.Loops.{many_more, many_fails, many_ends, after_shrinks}
use Rattle.strategy_text.proofs.Taken.{list_shrinks}
use Rattle.strategy_text.proofs.adversary.read_bins.Goals as goal

-- what is refused of a list that is filled is refused of one that is made
refused : (e : LineStop) (list : List ℕ) (left : List (List ℕ)) (read : Option (List ℕ × List (List ℕ)))
    → ReadsInto (let r : Result (Unit {0}) LineStop = Err e in r) list left read
    → Reads (let r : Result (List ℕ) LineStop = Err e in r) left read
refused Memory list left read h = h
refused Form list left read h = h

-- the bins so far and one more
one_more : (old lent new : List (List ℕ)) (bin : List ℕ) (k next : ℕ) → take k lent ≡ take k old → take (k + 1) new ≡ take k lent ++ bin ∷ [] → next ≡ k + 1
    → take next new ≡ take k old ++ bin ∷ []
one_more old lent new bin k next e b n = rw n (b ∙ ap (λ (bins : List (List ℕ)). bins ++ bin ∷ []) e)

pub returns-in_err-read_list : goal.returns-in_err-read_list
returns-in_err-read_list c =
    let first_is : take c.in_ok-count.count c.put_bin.new.self ≡ c.args.first ∷ [] = rw c.in_ok-count.ensures.next c.in_ok-count.ensures.bins in
    let so_far = rw first_is at c.loop-packing.invariant.1 in
    let p = err_from_is_err_and c.from_residual-in_err-read_list.result c.from_residual-in_err-read_list.ensures.1 in
    let less = after_shrinks (codes "/") c.loop-packing.words c.accept.new.self c.loop-packing-test.ensures in
    let no_list = refused c.in_err-read_list.field-0.0 c.read_list.new.list c.read_list.new.words (list_at c.accept.new.self) c.in_err-read_list.ensures in
    rw (p.1, p.2) (many_fails (after (codes "/")) list_at (take c.loop-packing.count c.loop-packing.packing) c.loop-packing.words c.accept.new.self c.read_list.new.words
    c.read_list.new.words (bins_at c.args.first c.args.words.now) c.in_err-read_list.field-0.0 c.loop-packing-test.ensures (omega (arith, less)) no_list so_far)

pub loop-packing-smaller : goal.loop-packing-smaller
loop-packing-smaller c =
    omega (
      arith,
      after_shrinks (codes "/") c.loop-packing.words c.accept.new.self c.loop-packing-test.ensures,
      list_shrinks c.accept.new.self (c.read_list.new.list, c.read_list.new.words) c.in_ok-read_list.ensures,
    )

pub loop-packing-preserved : goal.loop-packing-preserved
loop-packing-preserved c =
    let less : length c.read_list.new.words < length c.loop-packing.words = omega (
      arith,
      after_shrinks (codes "/") c.loop-packing.words c.accept.new.self c.loop-packing-test.ensures,
      list_shrinks c.accept.new.self (c.read_list.new.list, c.read_list.new.words) c.in_ok-read_list.ensures,
    ) in
    let told = c.in_ok-count-2.ensures in
    let more = one_more c.loop-packing.packing c.lend_bin-bin.new.self c.put_bin-in-loop-packing.new.self c.read_list.new.list c.loop-packing.count c.in_ok-count-2.count
    c.lend_bin-bin.ensures.before told.bins told.next in (
      omega (arith, told.number, told.next),
      rw more (many_more (after (codes "/")) list_at (take c.loop-packing.count c.loop-packing.packing) c.loop-packing.words c.accept.new.self c.read_list.new.words
          c.read_list.new.list _ c.loop-packing-test.ensures c.in_ok-read_list.ensures less c.loop-packing.invariant.1),
    )

pub returns : goal.returns
returns c =
    let first_is : take c.in_ok-count.count c.put_bin.new.self ≡ c.args.first ∷ [] = rw c.in_ok-count.ensures.next c.in_ok-count.ensures.bins in
    let so_far = rw first_is at c.loop-packing.invariant.1 in
    rw (c.truncate.ensures.kept, c.loop-packing-test.ensures.1) (many_ends (after (codes "/")) list_at (take c.loop-packing.count c.loop-packing.packing) c.loop-packing.words _
    c.loop-packing-test.ensures.0 so_far)
