use Rattle.std.proofs.Common.{◌≡◌, ◌+◌, ℕ, List, subst, length, arith}
use Rattle.checker.specs.Head.{IsNodeLine}
use Rattle.checker.specs.Progress.{BreaksNode, RefusesNext, IsRefusedLine, told_by}
use Rattle.checker.specs.declared.fault.CheckFault.{CheckFault}
use Rattle.checker.proofs.ProgressLemmas.{passed_on, refuses_next, refuses_line, err_so}
use Rattle.checker.proofs.node.read_node.Goals as goal

pub returns-in_err-next_text-clause-refused : goal.returns-in_err-next_text-clause-refused
returns-in_err-next_text-clause-refused g c =
    let old = c.args.lines.now in
    let left = g.S.Source.left c.args.source.now in
    let new_left = g.S.Source.left c.next_text.new.source in
    let head = told_by c.args.head.now in
    let earlier = c.args.earlier.now in
    let place : c.line_of.result ≡ head.start + length earlier = omega (arith, c.line_of.ensures, c.len.ensures.value) in
    passed_on (λ (fault : CheckFault). RefusesNext (head.start + length earlier) (IsNodeLine head (length earlier))
    (BreaksNode head earlier) fault old left new_left) c.in_err-next_text.field-0.0 c.from_residual.result c.from_residual.ensures.1
    (subst (λ (i : ℕ). RefusesNext i (IsNodeLine head (length earlier)) (BreaksNode head earlier) c.in_err-next_text.field-0.0 old left new_left) place
    (refuses_next c.line_of.result (IsNodeLine head (length earlier)) (BreaksNode head earlier) c.in_err-next_text.field-0.0 old left new_left
    c.in_err-next_text.ensures.refused))

pub returns-clause-refused : goal.returns-clause-refused
returns-clause-refused g c =
    let old = c.args.lines.now in
    let left = g.S.Source.left c.args.source.now in
    let new_left = g.S.Source.left c.next_text.new.source in
    let head = told_by c.args.head.now in
    let earlier = c.args.earlier.now in
    let text = c.next_text.new.lines.text in
    err_so (λ (fault : CheckFault). IsRefusedLine (head.start + length earlier) (IsNodeLine head (length earlier)) (BreaksNode head earlier) fault c.text.result.now)
    (λ (fault : CheckFault). RefusesNext (head.start + length earlier) (IsNodeLine head (length earlier)) (BreaksNode head earlier) fault old left new_left)
    c.take_node.result
    (λ fault h. refuses_line (head.start + length earlier) (IsNodeLine head (length earlier))
    (BreaksNode head earlier) fault text old c.next_text.new.lines left new_left c.in_ok-next_text.ensures.ok
    (subst (λ (t : List ℕ). IsRefusedLine (head.start + length earlier) (IsNodeLine head (length earlier)) (BreaksNode head earlier) fault t) c.text.ensures h))
    c.take_node.ensures.err
