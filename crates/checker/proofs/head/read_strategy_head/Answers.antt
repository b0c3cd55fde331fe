use Rattle.std.proofs.Common.{◌∷◌, [], refl, sym, subst}
use Rattle.strategy_text.specs.Text.{first_line, game_line, side_line, count_line, head_lines}
use Rattle.items.specs.Multiset.{sizes_of}
use Rattle.node_pool.specs.Terms.{Terms}
use Rattle.checker.specs.Accepted.{IsTextFaultUnder}
use Rattle.checker.specs.FirstFault.{IsGameLine, IsSideLine, IsCountLine}
use Rattle.checker.specs.Progress.{IsFront, IsWrongNext, NoRule, BreaksGame, BreaksSide, ReadsLines}
use Rattle.checker.specs.declared.fault.CheckFault.{CheckFault}
use Rattle.checker.specs.declared.fault.Heading.TheVariants.{Strategy}
use Rattle.checker.proofs.FaultLemmas.{exit_first, exit_game, exit_side, exit_count}
use Rattle.checker.proofs.ProgressLemmas.{passed_on, ReadsLines-then, RefusesAfter-then}
use Rattle.checker.proofs.head.read_strategy_head.Goals as goal

pub returns-in_err-format-clause-refused : goal.returns-in_err-format-clause-refused
returns-in_err-format-clause-refused g c =
    let old = c.args.lines.now in
    let left = g.S.Source.left c.args.source.now in
    let new_left = g.S.Source.left c.read_first.new.source in
    passed_on (λ (fault : CheckFault). IsTextFaultUnder (Strategy c.args.wanted) old.held fault left new_left) c.in_err-format.field-0.0 c.from_residual.result c.from_residual.ensures.1
    (exit_first (Strategy c.args.wanted) c.in_err-format.field-0.0 old left new_left c.in_err-format.ensures.refused)

pub returns-in_err-game-clause-refused : goal.returns-in_err-game-clause-refused
returns-in_err-game-clause-refused g c =
    let old = c.args.lines.now in
    let left = g.S.Source.left c.args.source.now in
    let new_left = g.S.Source.left c.read_game.new.source in
    let first = c.in_ok-format.ensures.ok in
    passed_on (λ (fault : CheckFault). IsTextFaultUnder (Strategy c.args.wanted) old.held fault left new_left) c.in_err-game.field-0.0 c.from_residual-in_err-game.result
    c.from_residual-in_err-game.ensures.1
    (exit_game (Strategy c.args.wanted) c.in_ok-format.format c.in_err-game.field-0.0 old left new_left tt
    (RefusesAfter-then (first_line c.in_ok-format.format ∷ []) [] (IsWrongNext 2 IsGameLine BreaksGame) c.in_err-game.field-0.0 old c.read_first.new.lines left
    (g.S.Source.left c.read_first.new.source) new_left first c.in_err-game.ensures.refused))

pub returns-in_err-side-clause-refused : goal.returns-in_err-side-clause-refused
returns-in_err-side-clause-refused g c =
    let old = c.args.lines.now in
    let left = g.S.Source.left c.args.source.now in
    let new_left = g.S.Source.left c.read_side.new.source in
    let first = c.in_ok-format.ensures.ok in
    let game = c.in_ok-game.ensures.ok in
    let reads = ReadsLines-then (first_line c.in_ok-format.format ∷ []) (game_line c.in_ok-game.game ∷ []) old c.read_first.new.lines c.read_game.new.lines left
    (g.S.Source.left c.read_first.new.source) (g.S.Source.left c.read_game.new.source) first game in
    passed_on (λ (fault : CheckFault). IsTextFaultUnder (Strategy c.args.wanted) old.held fault left new_left) c.in_err-side.field-0.0 c.from_residual-in_err-side.result
    c.from_residual-in_err-side.ensures.1
    (exit_side (Strategy c.args.wanted) c.in_ok-format.format c.in_ok-game.game (sizes_of c.in_ok-game.game) c.in_err-side.field-0.0 old left new_left
    (record { of_format = tt; of_game = c.in_ok-game.ensures.legal; of_sizes = refl })
    (RefusesAfter-then (first_line c.in_ok-format.format ∷ game_line c.in_ok-game.game ∷ []) []
    (IsWrongNext 3 IsSideLine (BreaksSide c.args.wanted)) c.in_err-side.field-0.0 old c.read_game.new.lines left
    (g.S.Source.left c.read_game.new.source) new_left reads c.in_err-side.ensures.refused))

pub returns-in_err-count-clause-refused : goal.returns-in_err-count-clause-refused
returns-in_err-count-clause-refused g c =
    let old = c.args.lines.now in
    let left = g.S.Source.left c.args.source.now in
    let new_left = g.S.Source.left c.read_count.new.source in
    let first = c.in_ok-format.ensures.ok in
    let game = c.in_ok-game.ensures.ok in
    let side = c.in_ok-side.ensures.ok in
    let reads = ReadsLines-then (first_line c.in_ok-format.format ∷ game_line c.in_ok-game.game ∷ [])
    (side_line c.in_ok-side.side ∷ []) old c.read_game.new.lines c.read_side.new.lines left (g.S.Source.left c.read_game.new.source) (g.S.Source.left c.read_side.new.source)
    (ReadsLines-then (first_line c.in_ok-format.format ∷ []) (game_line c.in_ok-game.game ∷ []) old c.read_first.new.lines c.read_game.new.lines left
    (g.S.Source.left c.read_first.new.source) (g.S.Source.left c.read_game.new.source) first game) side in
    passed_on (λ (fault : CheckFault). IsTextFaultUnder (Strategy c.args.wanted) old.held fault left new_left) c.in_err-count.field-0.0 c.from_residual-in_err-count.result
    c.from_residual-in_err-count.ensures.1
    (exit_count (Strategy c.args.wanted) c.in_ok-format.format c.in_ok-game.game (sizes_of c.in_ok-game.game) c.in_ok-side.side c.in_err-count.field-0.0 old left new_left
    (record { of_format = tt; of_game = c.in_ok-game.ensures.legal; of_sizes = refl })
    c.in_ok-side.ensures.wanted
    (RefusesAfter-then (first_line c.in_ok-format.format ∷ game_line c.in_ok-game.game ∷ side_line c.in_ok-side.side ∷ []) []
    (IsWrongNext 4 IsCountLine NoRule) c.in_err-count.field-0.0 old c.read_side.new.lines left
    (g.S.Source.left c.read_side.new.source) new_left reads c.in_err-count.ensures.refused))

pub returns-clause-ok : goal.returns-clause-ok
returns-clause-ok g c =
    let old = c.args.lines.now in
    let left = g.S.Source.left c.args.source.now in
    let first = c.in_ok-format.ensures.ok in
    let game = c.in_ok-game.ensures.ok in
    let side = c.in_ok-side.ensures.ok in
    let count = c.in_ok-count.ensures.ok in
    subst (λ (t : Terms). ReadsLines (head_lines t.format t.game c.in_ok-side.side c.in_ok-count.count) old c.read_count.new.lines left (g.S.Source.left c.read_count.new.source))
    (sym c.of_game.ensures.value)
    (ReadsLines-then (first_line c.in_ok-format.format ∷ game_line c.in_ok-game.game ∷ side_line c.in_ok-side.side ∷ [])
    (count_line c.in_ok-count.count ∷ []) old c.read_side.new.lines c.read_count.new.lines left (g.S.Source.left c.read_side.new.source) (g.S.Source.left c.read_count.new.source)
    (ReadsLines-then (first_line c.in_ok-format.format ∷ game_line c.in_ok-game.game ∷ []) (side_line c.in_ok-side.side ∷ []) old c.read_game.new.lines c.read_side.new.lines left
    (g.S.Source.left c.read_game.new.source) (g.S.Source.left c.read_side.new.source)
    (ReadsLines-then (first_line c.in_ok-format.format ∷ []) (game_line c.in_ok-game.game ∷ []) old c.read_first.new.lines c.read_game.new.lines left
    (g.S.Source.left c.read_first.new.source) (g.S.Source.left c.read_game.new.source) first game) side) count)
