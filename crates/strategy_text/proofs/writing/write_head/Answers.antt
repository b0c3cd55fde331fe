use Rattle.std.proofs.Common.{ℕ, List, [], ◌∷◌, ◌++◌}
use Rattle.strategy_text.specs.Text.{first_line, game_line, side_line, count_line}
use Rattle.strategy_text.proofs.TextPieces.{writes_four, stops_one, stops_two, stops_three}
use Rattle.strategy_text.proofs.writing.write_head.Goals as goal

-- a line as bytes
abbrev ended : List ℕ → List ℕ
ended line = line ++ 10 ∷ []

pub returns-in_err-write_line : goal.returns-in_err-write_line
returns-in_err-write_line g c =
    stops_one c.from_residual.result _ _ (ended (first_line c.args.format)) _ c.from_residual.ensures.0
    (rw (c.as_bytes.ensures.value, c.first_line.ensures) at c.in_err-write_line.ensures)

pub returns-in_err-write_line-2 : goal.returns-in_err-write_line-2
unfolding game_line
returns-in_err-write_line-2 g c =
    stops_two c.from_residual-in_err-write_line-2.result _ _ _ (ended (first_line c.args.format)) (ended (game_line c.args.game.now)) _
    c.from_residual-in_err-write_line-2.ensures.0
    (rw (c.as_bytes.ensures.value, c.first_line.ensures) at c.in_ok-write_line.ensures)
    (rw (c.m.ensures.value, c.g.ensures.value, c.t.ensures.value) at c.in_err-write_line-2.ensures)

pub returns-in_err-write_line-3 : goal.returns-in_err-write_line-3
unfolding game_line
returns-in_err-write_line-3 g c =
    stops_three c.from_residual-in_err-write_line-3.result _ _ _ _ (ended (first_line c.args.format)) (ended (game_line c.args.game.now)) (ended (side_line c.args.side)) _
    c.from_residual-in_err-write_line-3.ensures.0
    (rw (c.as_bytes.ensures.value, c.first_line.ensures) at c.in_ok-write_line.ensures)
    (rw (c.m.ensures.value, c.g.ensures.value, c.t.ensures.value) at c.in_ok-write_line-2.ensures)
    (rw c.word.ensures.value at c.in_err-write_line-3.ensures)

pub returns : goal.returns
unfolding game_line count_line
returns g c =
    writes_four c.write_line-4.result _ _ _ _ _ (ended (first_line c.args.format)) (ended (game_line c.args.game.now)) (ended (side_line c.args.side))
    (ended (count_line c.args.count))
    (rw (c.as_bytes.ensures.value, c.first_line.ensures) at c.in_ok-write_line.ensures)
    (rw (c.m.ensures.value, c.g.ensures.value, c.t.ensures.value) at c.in_ok-write_line-2.ensures)
    (rw c.word.ensures.value at c.in_ok-write_line-3.ensures)
    c.write_line-4.ensures
