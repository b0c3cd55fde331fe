-- What the private contracts of scaling cite; nothing here has to be believed.
use Rattle.std.specs.Prelude.{ℕ, ◌*◌, ◌≤◌, List, IfSome, All}
use Rattle.items.specs.declared.limits.TheConstants.{MOST_NUMBER}
use Rattle.packing_witness.specs.Edits.{CanScale}
use Rattle.strategy_text.specs.declared.node.AdvNode.{AdvNode}
use Rattle.strategy_text.specs.declared.node.Nodes.{Nodes}
use Rattle.strategy_text.specs.declared.node.Nodes.TheVariants.{Adversary, Algorithm}
use Rattle.strategy_text.specs.declared.node.Placement.{Placement}
use Rattle.strategy_text.specs.declared.node.Step.{Step}
use Rattle.strategy_text.specs.declared.node.Step.TheVariants.{Send, Burst}

-- each number times the factor is at most 65,535
abbrev pub CanMultiply : ℕ → List ℕ → Type 0
CanMultiply factor sizes = All (λ size. size * factor ≤ MOST_NUMBER) sizes

abbrev pub CanScalePlacement : ℕ → Placement → Type 0
CanScalePlacement factor placement = placement.load * factor ≤ MOST_NUMBER

abbrev pub CanScaleStep : ℕ → Step → Type 0
CanScaleStep factor (Send size pack placements) =
    (size * factor ≤ MOST_NUMBER) × IfSome pack (CanScale factor) × All (CanScalePlacement factor) placements
CanScaleStep factor (Burst count size pack) = (size * factor ≤ MOST_NUMBER) × CanScale factor pack

pub record CanScaleNode (factor : ℕ) (node : AdvNode) : Type 0 where
  pub loads : CanMultiply factor node.loads
  pub items : CanMultiply factor node.items
  pub step : CanScaleStep factor node.step

abbrev pub CanScaleNodes : ℕ → Nodes → Type 0
CanScaleNodes factor (Adversary nodes) = All (CanScaleNode factor) nodes
CanScaleNodes factor (Algorithm nodes) = ⊥
