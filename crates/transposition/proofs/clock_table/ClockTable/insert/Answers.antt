use Rattle.std.proofs.Common.{◌≡◌, ap, ◌∙◌, length, subst, arith}
use Rattle.transposition.specs.Clock.{Drops}
use Rattle.transposition.proofs.DropLemmas.{put_for_other}
use Rattle.transposition.proofs.clock_table.ClockTable.insert.Goals.{then-not-has_room+else-contains_key+in_ok-make_room, else-not-has_room}
use Rattle.transposition.proofs.clock_table.ClockTable.insert.Goals as goal

pub returns-else-len-self-clause-full : goal.returns-else-len-self-clause-full
returns-else-len-self-clause-full g c = rw (← c.self.view_is) (λ none full.
    let eq = g.K.PartialEq.eq in
    let before = c.self.inside.map in
    let ready = c.if-not-has_room.self-inside in
    let same : ready.map.entries ≡ before.entries = elim c.if-not-has_room.branch [
      | then-not-has_room+else-contains_key+in_ok-make_room w ↦ ap (λ t. t.map.entries) w.self-inside-is ∙ w.make_room.ensures.entries
      | else-not-has_room w ↦ ap (λ t. t.map.entries) w.self-inside-is
    ] in
    let marks : ready.clock.marks ≡ c.self.inside.clock.marks = elim c.if-not-has_room.branch [
      | then-not-has_room+else-contains_key+in_ok-make_room w ↦ ap (λ t. t.clock.marks) w.self-inside-is ∙ w.make_room.ensures.marks
      | else-not-has_room w ↦ ap (λ t. t.clock.marks) w.self-inside-is
    ] in
    let number : length ready.clock.marks ≡ length ready.map.entries = omega (arith, ap length same, ap length marks, c.self.invariant.0) in
    let put = rw c.unwrap-2.ensures at c.insert-2.ensures in
    let drops = c.drop_one.ensures.dropped in
    let first = subst (λ n. Drops eq n c.insert-2.new.self.entries c.drop_one.new.map.entries drops.0) number drops.1 in
    let still = rw (← same) at none in
    rw (← same) (
      drops.0,
      put_for_other eq g.met.K.Eq.laws ready.map c.insert-2.new.self c.drop_one.new.map c.args.key c.args.value drops.0 still put.entries put.updates first
          c.drop_one.ensures.number,
    ))
