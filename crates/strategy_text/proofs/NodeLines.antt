-- The lines of nodes are read as what they spell, and no other lines.
use Rattle.std.proofs.Common.{◌≡◌, ℕ, ◌<◌, ◌≤◌, List, ◌∷◌, ◌++◌, length, decimal, Some, None, ap, ◌∙◌, arith}
use Rattle.strategy_text.specs.declared.node.AdvNode.{AdvNode}
use Rattle.strategy_text.specs.declared.node.AlgNode.{AlgNode}
use Rattle.strategy_text.specs.declared.node.Format.{Format}
use Rattle.strategy_text.specs.Text.{AnyNode, of_adversary, of_algorithm, position_words, step_words, act_words, adversary_line, algorithm_line}
use Rattle.port_io.specs.Lines.{longest_line}
use Rattle.strategy_text.specs.Spelling.{IsSpellableAdversary, IsSpellableAlgorithm, SpellsNode}
use Rattle.strategy_text.specs.Words.{words_left}
use Rattle.strategy_text.specs.Reading.{adversary_at, algorithm_at}
use Rattle.strategy_text.proofs.Lines.{words_again, line_takes}
use Rattle.strategy_text.proofs.StepsTaken.{adversary_takes}
use Rattle.strategy_text.proofs.ActsTaken.{algorithm_takes}
use Rattle.strategy_text.proofs.StepsAgain.{adversary_again}
use Rattle.strategy_text.proofs.ActsAgain.{algorithm_again}
use Rattle.strategy_text.proofs.NodeWords.{adversarys_words, algorithms_words}

-- a line that is read as a node spells it
pub adversary_line_takes : (format : Format) (number : ℕ) (line : List ℕ) (node : AdvNode) → length line ≤ longest_line
    → adversary_at format number (words_left (Some line)) ≡ Some node → SpellsNode format number line (of_adversary node)
unfolding adversary_line
adversary_line_takes format number line node short e =
    let t = adversary_takes format number (words_left (Some line)) node e in
    record { spellable = t.1; short = short; spelled = line_takes line (decimal number ∷ position_words node.loads node.items ++ step_words node.step) t.0 }

pub algorithm_line_takes : (format : Format) (number : ℕ) (line : List ℕ) (node : AlgNode) → length line ≤ longest_line
    → algorithm_at format number (words_left (Some line)) ≡ Some node → SpellsNode format number line (of_algorithm node)
unfolding algorithm_line
algorithm_line_takes format number line node short e =
    let t = algorithm_takes format number (words_left (Some line)) node e in
    record { spellable = t.1; short = short; spelled = line_takes line (decimal number ∷ position_words node.loads node.items ++ act_words node.act) t.0 }

-- a line that spells a node has the node's words, and is read as it
pub adversary_line_words : (format : Format) (number : ℕ) (line : List ℕ) (node : AdvNode) → number ≤ 4294967295 → IsSpellableAdversary format node
    → line ≡ adversary_line number node
    → words_left (Some line) ≡ decimal number ∷ position_words node.loads node.items ++ step_words node.step
unfolding adversary_line
adversary_line_words format number line node le h spelled =
    ap (λ (l : List ℕ). words_left (Some l)) spelled ∙ words_again (decimal number) _ (adversarys_words format number node le h)

pub adversary_line_again : (format : Format) (number : ℕ) (line : List ℕ) (node : AdvNode) → number ≤ 4294967295 → IsSpellableAdversary format node
    → line ≡ adversary_line number node → adversary_at format number (words_left (Some line)) ≡ Some node
adversary_line_again format number line node le h spelled =
    ap (adversary_at format number) (adversary_line_words format number line node le h spelled) ∙ adversary_again format number node le h

pub algorithm_line_words : (format : Format) (number : ℕ) (line : List ℕ) (node : AlgNode) → number ≤ 4294967295 → IsSpellableAlgorithm format node
    → line ≡ algorithm_line number node
    → words_left (Some line) ≡ decimal number ∷ position_words node.loads node.items ++ act_words node.act
unfolding algorithm_line
algorithm_line_words format number line node le h spelled =
    ap (λ (l : List ℕ). words_left (Some l)) spelled ∙ words_again (decimal number) _ (algorithms_words format number node le h)

pub algorithm_line_again : (format : Format) (number : ℕ) (line : List ℕ) (node : AlgNode) → number ≤ 4294967295 → IsSpellableAlgorithm format node
    → line ≡ algorithm_line number node → algorithm_at format number (words_left (Some line)) ≡ Some node
algorithm_line_again format number line node le h spelled =
    ap (algorithm_at format number) (algorithm_line_words format number line node le h spelled) ∙ algorithm_again format number node le h

pub adversary_refused : (format : Format) (number : ℕ) (line : List ℕ) → number ≤ 4294967295 → adversary_at format number (words_left (Some line)) ≡ None → (node : AdvNode)
    → SpellsNode format number line (of_adversary node) → ⊥
adversary_refused format number line le e node h =
    let again = adversary_line_again format number line node le h.spellable h.spelled in
    cc

pub algorithm_refused : (format : Format) (number : ℕ) (line : List ℕ) → number ≤ 4294967295 → algorithm_at format number (words_left (Some line)) ≡ None → (node : AlgNode)
    → SpellsNode format number line (of_algorithm node) → ⊥
algorithm_refused format number line le e node h =
    let again = algorithm_line_again format number line node le h.spellable h.spelled in
    cc

-- a line of too many bytes spells no node
pub long_refused : (format : Format) (number : ℕ) (line : List ℕ) → longest_line < length line → (node : AnyNode) → SpellsNode format number line node → ⊥
long_refused format number line long node h = omega (arith, h.short)
