use Rattle.std.proofs.Common.{◌≡◌, length, drop, take, arith, sym}
use Rattle.std.proofs.lemmas.List.{length-take, take-append-drop}
use Rattle.loads.specs.Slots.{bytes_in}
use Rattle.loads.proofs.PackedLemmas.{AreKept-push, IsInSlot-put, positions_in-push}
use Rattle.loads.proofs.packed_list.keep_last.Goals as goal
use Rattle.loads.proofs.packed_list.keep_last.Goals.{After-push_reserved}

-- the slot has the bytes from the place on, and those up to it stay
stands : (c : After-push_reserved) → let full = c.args.bytes.now.items in let ys = c.slot_of_last-slot.new.bytes.items in
    (bytes_in ys c.slot_of_last-slot.result ≡ drop c.args.start full) × (take (length (take c.args.start full)) ys ≡ take c.args.start full)
stands c =
    let full = c.args.bytes.now.items in
    IsInSlot-put (take c.args.start full) (drop c.args.start full) full _ c.args.start c.slot_of_last-slot.result (sym (take-append-drop c.args.start full))
    (omega (arith, length-take c.args.start full, c.requires.within)) c.slot_of_last-slot.ensures.kept c.slot_of_last-slot.ensures.others

pub returns-clause-kept : goal.returns-clause-kept
returns-clause-kept c =
    let d = (goal.at.returns-clause-kept c).After-push_reserved in
    rw d.push_reserved.ensures.items
    (AreKept-push (take d.args.start d.args.bytes.now.items) _ _ _ _ d.requires.kept (stands d).1 (stands d).0 d.slot_of_last-slot.ensures.within d.requires.legal)

pub returns-clause-put : goal.returns-clause-put
returns-clause-put c =
    let d = (goal.at.returns-clause-put c).After-push_reserved in
    rw d.push_reserved.ensures.items
    (positions_in-push (take d.args.start d.args.bytes.now.items) _ _ _ _ d.requires.kept (stands d).1 (stands d).0)
