use Rattle.std.proofs.Common.{◌≡◌, ◌-◌, ◌<◌, false, length, vec_capacity, set, ap, ◌∙◌, subst, arith}
use Rattle.std.proofs.lemmas.Grind.{common_steps}
use Rattle.std.proofs.lemmas.List.{length-set}
use Rattle.transposition.specs.Clock.{next_place}
use Rattle.transposition.proofs.ClockLemmas.{IsOnTheWay, at_the_start, read_mark, fewer_left, one_more_on}
use Rattle.transposition.proofs.clock.Clock.stop.Goals as goal

pub loop-self-init : goal.loop-self-init
loop-self-init c =
    let marks = c.self.inside.marks.items in
    let room = vec_capacity c.self.inside.marks - length marks in
    let some : 0 < length marks = rw (← c.self.view_is) at c.requires in
    record {
      way = subst (λ before. IsOnTheWay before marks c.self.inside.hand) c.self.view_is (at_the_start marks c.self.inside.hand room c.self.invariant some);
      room = ap (λ clock. clock.room) c.self.view_is;
    }

pub loop-self-smaller : goal.loop-self-smaller
loop-self-smaller c =
    fewer_left c.loop-self.self-inside.marks.items c.loop-self.self-inside.hand c.index.result.now c.loop-self.invariant.way.within c.index.ensures c.loop-self-test.true

pub loop-self-preserved : goal.loop-self-preserved
loop-self-preserved c =
    let marks = c.loop-self.self-inside.marks.items in
    let hand = c.loop-self.self-inside.hand in
    let way = c.loop-self.invariant.way in
    let is = read_mark marks hand c.index.result.now way.within c.index.ensures c.loop-self-test.true in
    let number : c.len.result ≡ length (set marks hand false) = grind (arith, common_steps) in
    record {
      way = one_more_on c.args.self.now marks hand c.following-self-inside.result way is (c.following-self-inside.ensures ∙ ap (λ n. next_place n hand) number);
      room = ap (λ n. vec_capacity c.loop-self.self-inside.marks - n) (length-set marks hand false) ∙ c.loop-self.invariant.room;
    }
