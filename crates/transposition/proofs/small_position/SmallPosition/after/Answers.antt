use Rattle.std.proofs.Common.{◌≡◌, ◌∙◌, ap, subst, sym, true, arith}
use Rattle.items.specs.Counters.{expanded}
use Rattle.items.specs.Multiset.{put_ascending}
use Rattle.transposition.specs.SmallPositions.{are_small}
use Rattle.loads.specs.Position.{position}
use Rattle.transposition.proofs.SmallLemmas.{IsCountedOn, IsCountedOn-small}
use Rattle.transposition.proofs.small_position.SmallPosition.after.Goals as goal
use Rattle.transposition.proofs.small_position.SmallPosition.after.Goals.{After-from}

-- one more item is counted
counted : (c : After-from) → IsCountedOn c.args.s c.self.inside.volume c.args.loads.now c.self.inside.counters
counted c =
    let e : expanded 1 c.self.inside.counters ≡ c.args.self.now.items = ap (λ r. r.items) c.self.view_is in
    let small = subst (λ xs. are_small (put_ascending c.args.s xs) ≡ true) (sym e) c.requires.small in
    IsCountedOn-small c.args.s c.self.inside.volume c.args.loads.now c.self.inside.counters c.self.told.1 c.self.invariant.volume_is c.as_slice-loads.ensures.loads
    c.requires.low small

pub bounds-counters-from : goal.bounds-counters-from
bounds-counters-from c = let h = counted c in rw c.from.ensures (omega (arith, h.low, c.requires.low))

pub overflow_add-counters : goal.overflow_add-counters
overflow_add-counters c = let h = counted c in record { fits = rw c.from.ensures (omega (arith, h.counter)) }

pub bounds-counters-from-2 : goal.bounds-counters-from-2
bounds-counters-from-2 c = let h = counted c in rw c.from.ensures (omega (arith, h.low, c.requires.low))

pub overflow_cast-result-2 : goal.overflow_cast-result-2
overflow_cast-result-2 c = let h = counted c in record { fits = omega (arith, h.low) }

pub overflow_add-result : goal.overflow_add-result
overflow_add-result c = let h = counted c in record { fits = omega (arith, h.total) }

pub invariant_of-result : goal.invariant_of-result
invariant_of-result c =
    let d = (goal.at.invariant_of-result c).After-from in
    let h = counted d in
    rw (c.from.ensures, c.load_bytes.ensures, c.as_slice-loads.ensures.value) h.legal

pub returns : goal.returns
returns c =
    let d = (goal.at.returns c).After-from in
    let h = counted d in
    rw (c.from.ensures, c.load_bytes.ensures, c.as_slice-loads.ensures.value)
    (h.counted ∙ ap (λ xs. position c.args.loads.now (put_ascending c.args.s xs)) (ap (λ r. r.items) c.self.view_is))
