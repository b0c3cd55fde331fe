use Rattle.strategy_text.specs.Reading.{numbers_at}
use Rattle.strategy_text.proofs.Loops.{numbers_more, numbers_end, number_shrinks}
use Rattle.strategy_text.proofs.position.read_numbers.Goals as goal

pub loop-number-smaller : goal.loop-number-smaller
loop-number-smaller c = number_shrinks 65535 c.loop-number.left (c.in-Some.number, c.size.new.self) c.in-Some.ensures

pub loop-number-preserved : goal.loop-number-preserved
loop-number-preserved c =
    rw c.in_ok-push.ensures.ok (numbers_more c.loop-number.list c.in-Some.number c.loop-number.left c.size.new.self (numbers_at c.args.words.now) c.in-Some.ensures
    c.loop-number.invariant)

pub returns : goal.returns
returns c = rw c.in_default.ensures.1 (numbers_end c.loop-number.list c.loop-number.left (numbers_at c.args.words.now) c.in_default.ensures.0 c.loop-number.invariant)
