use Rattle.std.proofs.Common.{◌≡◌, ◌++◌, ◌∷◌, [], ◌<◌, length, refl, arith, ap, ◌∙◌, sym, subst}
use Rattle.std.proofs.lemmas.List.{length_push, length-map}
use Rattle.strategy_text.specs.declared.node.Side.{Side}
use Rattle.strategies.specs.AnyNode.{position_of, side_of_node}
use Rattle.checker.specs.Progress.{RefusesNode, told_by, any_node}
use Rattle.checker.specs.declared.fault.CheckFault.{CheckFault}
use Rattle.checker.specs.declared.fault.CheckFault.TheVariants.{Memory}
use Rattle.checker.proofs.NodeLemmas.{AreJudged-none, AreJudged-push, positions_push, lines_push, RefusesNode-from, RefusesNode-memory}
use Rattle.checker.proofs.ProgressLemmas.{ReadsLines-none, passed_on}
use Rattle.checker.proofs.reading.read_nodes.Goals as goal

pub loop-k-init : goal.loop-k-init
loop-k-init g c = (
  ([], refl, c.new-positions.ensures.empty, AreJudged-none (told_by c.args.head.now), ReadsLines-none _ _ c.requires.open_still, c.begin.ensures),
  c.empty-node.ensures,
  omega arith,
)

pub keep-requires : goal.keep-requires
keep-requires g c =
    let i = c.loop-k.invariant.0 in
    (i.0, subst (λ (side : Side). g.K.Keeper.holds c.loop-k.kept side i.0) (sym c.in_ok-read_node.ensures.ok.takes.under.side) i.5)

pub loop-k-preserved : goal.loop-k-preserved
loop-k-preserved g c =
    let head = told_by c.args.head.now in
    let i = c.loop-k.invariant.0 in
    let step = c.in_ok-read_node.ensures.ok in
    let node = any_node c.read_node.new.node in
    let earlier = c.loop-k.positions in
    let side : side_of_node node ≡ head.side = step.takes.under.side in
    let count : length earlier ≡ length i.0 = ap length i.2 ∙ length-map i.0 position_of in (
      (
        i.0 ++ node ∷ [],
        omega (arith, length_push i.0 node, i.1),
        positions_push i.0 _ earlier c.read_node.new.earlier i.2 step.takes.put,
        AreJudged-push head i.0 _ earlier c.read_node.new.earlier step.text i.2 i.3 step.takes,
        lines_push i.0 _ (length earlier) step.text c.args.lines.now c.loop-k.lines c.read_node.new.lines _ _ _ count step.takes.under.spells.spelled i.4 step.reads,
        subst (λ (s : Side). g.K.Keeper.holds c.keep.new.self s (i.0 ++ node ∷ [])) side
            (c.in_ok-keep.ensures.kept i.0 (subst (λ (s : Side). g.K.Keeper.holds c.loop-k.kept s i.0) (sym side) i.5)),
      ),
      c.keep.ensures.side ∙ side,
      omega (arith, c.loop-k.invariant.2, c.read_node.ensures.count),
    )

pub returns-in_err-read_node-clause-refused : goal.returns-in_err-read_node-clause-refused
returns-in_err-read_node-clause-refused g c =
    let head = told_by c.args.head.now in
    let old = c.args.lines.now in
    let left = g.S.Source.left c.args.source.now in
    let new_left = g.S.Source.left c.read_node.new.source in
    let i = c.loop-k.invariant.0 in
    let few : length i.0 < head.count = omega (arith, i.1, c.loop-k-test.true) in
    passed_on (λ (fault : CheckFault). RefusesNode head fault old left new_left) c.in_err-read_node.field-0.0 c.from_residual.result c.from_residual.ensures.1
    (RefusesNode-from head i.0 c.loop-k.positions c.in_err-read_node.field-0.0 old c.loop-k.lines left
    (g.S.Source.left c.loop-k.source) new_left i.2 few i.3 i.4 c.in_err-read_node.ensures.refused)

pub returns-in_err-keep-clause-refused : goal.returns-in_err-keep-clause-refused
returns-in_err-keep-clause-refused g c =
    let head = told_by c.args.head.now in
    let old = c.args.lines.now in
    let left = g.S.Source.left c.args.source.now in
    let new_left = g.S.Source.left c.read_node.new.source in
    let i = c.loop-k.invariant.0 in
    let few : length i.0 < head.count = omega (arith, i.1, c.loop-k-test.true) in
    let step = c.in_ok-read_node.ensures.ok in
    passed_on (λ (fault : CheckFault). RefusesNode head fault old left new_left) Memory c.from_residual-in_err-keep.result c.from_residual-in_err-keep.ensures.1
    (RefusesNode-memory head i.0 c.loop-k.positions step.text old c.loop-k.lines c.read_node.new.lines left
    (g.S.Source.left c.loop-k.source) new_left i.2 few i.3 i.4 step.reads)
