use Rattle.std.proofs.Common.{◌≡◌, ◌+◌, ◌∷◌, [], ◌++◌, ℕ, subst}
use Rattle.strategy_text.specs.Text.{node_lines, end_line}
use Rattle.checker.specs.Accepted.{IsTextFaultUnder}
use Rattle.checker.specs.Progress.{IsWrongNext, NoRule, RefusesAfter, lines_of_head, told_by}
use Rattle.checker.specs.declared.fault.CheckFault.{CheckFault}
use Rattle.checker.proofs.FaultLemmas.{exit_node, exit_end}
use Rattle.checker.proofs.ProgressLemmas.{passed_on, ReadsLines-then, RefusesAfter-then, RefusesNext-after}
use Rattle.checker.proofs.reading.read_text.Goals as goal

pub returns-in_err-read_nodes-clause-refused : goal.returns-in_err-read_nodes-clause-refused
returns-in_err-read_nodes-clause-refused g c =
    let old = c.args.lines.now in
    let left = g.S.Source.left c.args.source.now in
    let new_left = g.S.Source.left c.read_nodes.new.source in
    let head = told_by c.in_ok-head.head in
    let fault = c.in_err-read_nodes.field-0.0 in
    let r = c.in_err-read_nodes.ensures.refused in
    passed_on (λ (f : CheckFault). IsTextFaultUnder c.args.heading old.held f left new_left) fault c.from_residual-in_err-read_nodes.result c.from_residual-in_err-read_nodes.ensures.1
    (exit_node c.args.heading head r.nodes fault old left new_left c.in_ok-head.ensures.legal r.judged r.few
    (RefusesAfter-then (lines_of_head c.args.heading head) (node_lines 0 r.nodes) _ fault old c.read_head.new.lines left
    (g.S.Source.left c.read_head.new.source) new_left c.in_ok-head.ensures.ok r.refused))

pub returns-in_err-read_end-clause-refused : goal.returns-in_err-read_end-clause-refused
returns-in_err-read_end-clause-refused g c =
    let old = c.args.lines.now in
    let left = g.S.Source.left c.args.source.now in
    let new_left = g.S.Source.left c.read_end.new.source in
    let head = told_by c.in_ok-head.head in
    let fault = c.in_err-read_end.field-0.0 in
    let nodes = c.in_ok-read_nodes.ensures.ok.0 in
    let r = c.in_ok-read_nodes.ensures.ok.1 in
    let given = lines_of_head c.args.heading head ++ node_lines 0 nodes in
    let reads = ReadsLines-then (lines_of_head c.args.heading head) (node_lines 0 nodes) old c.read_head.new.lines c.read_nodes.new.lines left (g.S.Source.left c.read_head.new.source)
    (g.S.Source.left c.read_nodes.new.source) c.in_ok-head.ensures.ok r.reads in
    passed_on (λ (f : CheckFault). IsTextFaultUnder c.args.heading old.held f left new_left) fault c.from_residual-in_err-read_end.result c.from_residual-in_err-read_end.ensures.1
    (exit_end c.args.heading head nodes fault old left new_left c.in_ok-head.ensures.legal r.judged r.number
    (RefusesNext-after given (IsWrongNext (head.start + head.count) (λ line. line ≡ end_line) NoRule) fault old c.read_nodes.new.lines left
    (g.S.Source.left c.read_nodes.new.source) new_left reads
    (subst (λ (i : ℕ). RefusesAfter [] (IsWrongNext i (λ line. line ≡ end_line) NoRule) fault c.read_nodes.new.lines
    (g.S.Source.left c.read_nodes.new.source) new_left) c.line_of.ensures c.in_err-read_end.ensures.refused)))

pub returns-clause-ok : goal.returns-clause-ok
returns-clause-ok g c =
    let old = c.args.lines.now in
    let left = g.S.Source.left c.args.source.now in
    let head = told_by c.in_ok-head.head in
    let nodes = c.in_ok-read_nodes.ensures.ok.0 in
    let r = c.in_ok-read_nodes.ensures.ok.1 in (
      nodes,
      record {
        is_head = c.in_ok-head.ensures.legal;
        number = r.number;
        judged = r.judged;
        reads = ReadsLines-then (lines_of_head c.args.heading head) (node_lines 0 nodes ++ end_line ∷ []) old c.read_head.new.lines c.read_end.new.lines left
            (g.S.Source.left c.read_head.new.source) (g.S.Source.left c.read_end.new.source) c.in_ok-head.ensures.ok
            (ReadsLines-then (node_lines 0 nodes) (end_line ∷ []) c.read_head.new.lines c.read_nodes.new.lines c.read_end.new.lines (g.S.Source.left c.read_head.new.source)
            (g.S.Source.left c.read_nodes.new.source) (g.S.Source.left c.read_end.new.source) r.reads c.in_ok-read_end.ensures.ok);
      },
      c.in_ok-read_nodes.ensures.ok.2,
    )
