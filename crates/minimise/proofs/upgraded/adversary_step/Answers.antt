use Rattle.std.proofs.Common.{List, subst, sym}
use Rattle.std.specs.Prelude.{IfOk}
use Rattle.strategy_text.specs.declared.node.Placement.{Placement}
use Rattle.strategy_text.specs.declared.node.Step.{Step}
use Rattle.minimise.specs.Upgrade.{UpgradesSend, UpgradesStep}
use Rattle.minimise.proofs.upgraded.adversary_step.Goals as goal

pub returns-in-Send : goal.returns-in-Send
returns-in-Send c =
    let game = c.args.game.now in
    let node = c.args.node.now in
    let made = c.instead_of_send.result in
    let size = c.in-Send.size in
    subst (λ (step : Step). IfOk made (λ new. UpgradesStep game node step new)) (sym c.in-Send.is)
    (subst (λ (list : List Placement). IfOk made (λ new. UpgradesSend game size list node new)) c.as_slice.ensures.value c.instead_of_send.ensures)
