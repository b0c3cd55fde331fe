use Rattle.std.proofs.Common.{◌≡◌, ◌∙◌, ◌<◌, ◌*◌, ◌+◌, ap, sym, length, arith}
use Rattle.std.proofs.lemmas.List.{get_or_default}
use Rattle.reach_planes.specs.Layout.{row_of, rows_of}
use Rattle.reach_planes.proofs.LoadLemmas.{marks_seen, marks_within}
use Rattle.reach_planes.proofs.planes.Planes.marks.Goals as goal
use Rattle.reach_planes.proofs.planes.Planes.marks.Goals.{After-len}

rows_are : (c : After-len) → c.len.result ≡ rows_of c.self.inside.game
rows_are c = omega (arith, c.len.ensures, c.self.invariant.sums_are.size)

row_is : (c : After-len) → c.row_of-row.result ≡ row_of (c.self.inside.game.capacity + 1) c.args.digits.now
row_is c = c.row_of-row.ensures ∙ ap (λ n. row_of (n + 1) c.args.digits.now) (c.from.ensures ∙ c.g.ensures.value)

within : (c : After-len) → c.from-2.result * c.len.result + c.row_of-row.result < length c.self.inside.words.items
within c =
    marks_within c.self.inside.game c.self.inside.items c.self.inside.words.items c.args.self.now c.args.load c.args.digits.now c.from-2.result c.len.result c.row_of-row.result
    c.g.ensures.legal c.self.view_is c.self.invariant.plane c.requires.digits c.requires.fits c.from-2.ensures (rows_are c) (row_is c)

pub overflow_add-from-2 : goal.overflow_add-from-2
overflow_add-from-2 c = let b = goal.at.overflow_add-from-2 c in record { fits = omega (arith, within b.After-len) }

pub index-word-requires : goal.index-word-requires
index-word-requires c = let b = goal.at.index-word-requires c in omega (arith, within b.After-len)

pub returns : goal.returns
returns c =
    let b = goal.at.returns c in
    let word = c.index-word.ensures ∙ sym (get_or_default c.self.inside.words.items (c.from-2.result * c.len.result + c.row_of-row.result) 0 c.index-word.result.now
    (within b.After-len)) in
    marks_seen c.self.inside.game c.self.inside.items c.self.inside.words.items c.args.self.now c.args.load c.args.digits.now c.from-2.result c.len.result c.row_of-row.result
    c.index-word.result.now c.self.view_is c.self.invariant.plane c.requires.digits c.requires.fits c.from-2.ensures (rows_are b.After-len) (row_is b.After-len) word
