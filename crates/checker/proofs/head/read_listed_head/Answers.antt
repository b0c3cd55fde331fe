use Rattle.std.proofs.Common.{◌∷◌, [], refl, sym, subst}
use Rattle.strategy_text.specs.Text.{game_line, side_line, count_line}
use Rattle.node_pool.specs.Terms.{Terms}
use Rattle.strategy_text.specs.declared.node.Format.TheVariants.{One}
use Rattle.checker.specs.Accepted.{IsTextFaultUnder}
use Rattle.checker.specs.FirstFault.{IsGameLine, IsSizesLine, IsSideLine, IsCountLine}
use Rattle.checker.specs.Listed.{listed_line, listed_head_lines, sizes_line}
use Rattle.checker.specs.Progress.{IsWrongNext, NoRule, BreaksGame, BreaksSizes, BreaksSide, ReadsLines}
use Rattle.checker.specs.declared.fault.CheckFault.{CheckFault}
use Rattle.checker.specs.declared.fault.Heading.TheVariants.{Listed}
use Rattle.checker.specs.declared.fault.Wanted.TheVariants.{Either}
use Rattle.checker.proofs.FaultLemmas.{exit_first, exit_game, exit_sizes, exit_side, exit_count}
use Rattle.checker.proofs.ProgressLemmas.{passed_on, ReadsLines-then, RefusesAfter-then}
use Rattle.checker.proofs.head.read_listed_head.Goals as goal

pub returns-in_err-read_listed-clause-refused : goal.returns-in_err-read_listed-clause-refused
returns-in_err-read_listed-clause-refused g c =
    let old = c.args.lines.now in
    let left = g.S.Source.left c.args.source.now in
    let new_left = g.S.Source.left c.read_listed.new.source in
    passed_on (λ (fault : CheckFault). IsTextFaultUnder Listed old.held fault left new_left) c.in_err-read_listed.field-0.0 c.from_residual.result c.from_residual.ensures.1
    (exit_first Listed c.in_err-read_listed.field-0.0 old left new_left c.in_err-read_listed.ensures.refused)

pub returns-in_err-game-clause-refused : goal.returns-in_err-game-clause-refused
returns-in_err-game-clause-refused g c =
    let old = c.args.lines.now in
    let left = g.S.Source.left c.args.source.now in
    let new_left = g.S.Source.left c.read_game.new.source in
    passed_on (λ (fault : CheckFault). IsTextFaultUnder Listed old.held fault left new_left) c.in_err-game.field-0.0 c.from_residual-in_err-game.result
    c.from_residual-in_err-game.ensures.1
    (exit_game Listed One c.in_err-game.field-0.0 old left new_left refl
    (RefusesAfter-then (listed_line ∷ []) [] (IsWrongNext 2 IsGameLine BreaksGame) c.in_err-game.field-0.0 old c.read_listed.new.lines left
    (g.S.Source.left c.read_listed.new.source) new_left c.in_ok-read_listed.ensures.ok c.in_err-game.ensures.refused))

pub returns-in_err-sizes-clause-refused : goal.returns-in_err-sizes-clause-refused
returns-in_err-sizes-clause-refused g c =
    let old = c.args.lines.now in
    let left = g.S.Source.left c.args.source.now in
    let new_left = g.S.Source.left c.read_sizes.new.source in
    let game = c.in_ok-game.game in
    let reads = ReadsLines-then (listed_line ∷ []) (game_line game ∷ []) old c.read_listed.new.lines c.read_game.new.lines left
    (g.S.Source.left c.read_listed.new.source) (g.S.Source.left c.read_game.new.source) c.in_ok-read_listed.ensures.ok c.in_ok-game.ensures.ok in
    passed_on (λ (fault : CheckFault). IsTextFaultUnder Listed old.held fault left new_left) c.in_err-sizes.field-0.0 c.from_residual-in_err-sizes.result
    c.from_residual-in_err-sizes.ensures.1
    (exit_sizes Listed One game c.in_err-sizes.field-0.0 old left new_left refl refl c.in_ok-game.ensures.legal
    (RefusesAfter-then (listed_line ∷ game_line game ∷ []) [] (IsWrongNext 3 IsSizesLine (BreaksSizes game)) c.in_err-sizes.field-0.0 old c.read_game.new.lines left
    (g.S.Source.left c.read_game.new.source) new_left reads c.in_err-sizes.ensures.refused))

pub returns-in_err-side-clause-refused : goal.returns-in_err-side-clause-refused
returns-in_err-side-clause-refused g c =
    let old = c.args.lines.now in
    let left = g.S.Source.left c.args.source.now in
    let new_left = g.S.Source.left c.read_side.new.source in
    let game = c.in_ok-game.game in
    let sizes = c.in_ok-sizes.sizes in
    let one = ReadsLines-then (listed_line ∷ []) (game_line game ∷ []) old c.read_listed.new.lines c.read_game.new.lines left
    (g.S.Source.left c.read_listed.new.source) (g.S.Source.left c.read_game.new.source) c.in_ok-read_listed.ensures.ok c.in_ok-game.ensures.ok in
    let reads = ReadsLines-then (listed_line ∷ game_line game ∷ []) (sizes_line sizes ∷ []) old c.read_game.new.lines c.read_sizes.new.lines left
    (g.S.Source.left c.read_game.new.source) (g.S.Source.left c.read_sizes.new.source) one c.in_ok-sizes.ensures.ok in
    passed_on (λ (fault : CheckFault). IsTextFaultUnder Listed old.held fault left new_left) c.in_err-side.field-0.0 c.from_residual-in_err-side.result
    c.from_residual-in_err-side.ensures.1
    (exit_side Listed One game sizes c.in_err-side.field-0.0 old left new_left
    (record { of_format = refl; of_game = c.in_ok-game.ensures.legal; of_sizes = c.in_ok-sizes.ensures.legal })
    (RefusesAfter-then (listed_line ∷ game_line game ∷ sizes_line sizes ∷ []) [] (IsWrongNext 4 IsSideLine (BreaksSide Either)) c.in_err-side.field-0.0 old
    c.read_sizes.new.lines left (g.S.Source.left c.read_sizes.new.source) new_left reads c.in_err-side.ensures.refused))

pub returns-in_err-count-clause-refused : goal.returns-in_err-count-clause-refused
returns-in_err-count-clause-refused g c =
    let old = c.args.lines.now in
    let left = g.S.Source.left c.args.source.now in
    let new_left = g.S.Source.left c.read_count.new.source in
    let game = c.in_ok-game.game in
    let sizes = c.in_ok-sizes.sizes in
    let side = c.in_ok-side.side in
    let one = ReadsLines-then (listed_line ∷ []) (game_line game ∷ []) old c.read_listed.new.lines c.read_game.new.lines left
    (g.S.Source.left c.read_listed.new.source) (g.S.Source.left c.read_game.new.source) c.in_ok-read_listed.ensures.ok c.in_ok-game.ensures.ok in
    let two = ReadsLines-then (listed_line ∷ game_line game ∷ []) (sizes_line sizes ∷ []) old c.read_game.new.lines c.read_sizes.new.lines left
    (g.S.Source.left c.read_game.new.source) (g.S.Source.left c.read_sizes.new.source) one c.in_ok-sizes.ensures.ok in
    let reads = ReadsLines-then (listed_line ∷ game_line game ∷ sizes_line sizes ∷ []) (side_line side ∷ []) old c.read_sizes.new.lines c.read_side.new.lines left
    (g.S.Source.left c.read_sizes.new.source) (g.S.Source.left c.read_side.new.source) two c.in_ok-side.ensures.ok in
    passed_on (λ (fault : CheckFault). IsTextFaultUnder Listed old.held fault left new_left) c.in_err-count.field-0.0 c.from_residual-in_err-count.result
    c.from_residual-in_err-count.ensures.1
    (exit_count Listed One game sizes side c.in_err-count.field-0.0 old left new_left
    (record { of_format = refl; of_game = c.in_ok-game.ensures.legal; of_sizes = c.in_ok-sizes.ensures.legal }) tt
    (RefusesAfter-then (listed_line ∷ game_line game ∷ sizes_line sizes ∷ side_line side ∷ []) [] (IsWrongNext 5 IsCountLine NoRule) c.in_err-count.field-0.0 old
    c.read_side.new.lines left (g.S.Source.left c.read_side.new.source) new_left reads c.in_err-count.ensures.refused))

pub returns-clause-ok : goal.returns-clause-ok
returns-clause-ok g c =
    let old = c.args.lines.now in
    let left = g.S.Source.left c.args.source.now in
    let game = c.in_ok-game.game in
    let sizes = c.in_ok-sizes.sizes in
    let side = c.in_ok-side.side in
    let one = ReadsLines-then (listed_line ∷ []) (game_line game ∷ []) old c.read_listed.new.lines c.read_game.new.lines left
    (g.S.Source.left c.read_listed.new.source) (g.S.Source.left c.read_game.new.source) c.in_ok-read_listed.ensures.ok c.in_ok-game.ensures.ok in
    let two = ReadsLines-then (listed_line ∷ game_line game ∷ []) (sizes_line sizes ∷ []) old c.read_game.new.lines c.read_sizes.new.lines left
    (g.S.Source.left c.read_game.new.source) (g.S.Source.left c.read_sizes.new.source) one c.in_ok-sizes.ensures.ok in
    let three = ReadsLines-then (listed_line ∷ game_line game ∷ sizes_line sizes ∷ []) (side_line side ∷ []) old c.read_sizes.new.lines c.read_side.new.lines left
    (g.S.Source.left c.read_sizes.new.source) (g.S.Source.left c.read_side.new.source) two c.in_ok-side.ensures.ok in
    subst (λ (t : Terms). ReadsLines (listed_head_lines t.game t.sizes side c.in_ok-count.count) old c.read_count.new.lines left (g.S.Source.left c.read_count.new.source))
    (sym c.of_sizes.ensures.value)
    (ReadsLines-then (listed_line ∷ game_line game ∷ sizes_line sizes ∷ side_line side ∷ []) (count_line c.in_ok-count.count ∷ []) old c.read_side.new.lines
    c.read_count.new.lines left (g.S.Source.left c.read_side.new.source) (g.S.Source.left c.read_count.new.source) three c.in_ok-count.ensures.ok)
